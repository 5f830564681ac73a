use Rattle.std.proofs.Common.{rules}
use Rattle.spill_store.proofs.Bytes.{bytes-cell}
use Rattle.spill_store.proofs.block_bytes.cell_of.Goals as goal

pub returns-clause-bytes : goal.returns-clause-bytes
returns-clause-bytes c = bytes-cell c.args.bytes c.from_le_bytes.result c.cast_signed.result (search rules) (search rules) (search rules) c.from_le_bytes.ensures c.cast_signed.ensures
