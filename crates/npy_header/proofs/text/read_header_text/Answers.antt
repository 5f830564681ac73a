-- The reader and what is kept begin with nothing read.
use Rattle.std.proofs.Common.{ap, ◌∙◌}
use Rattle.grammar.specs.Reading.{Reading}
use Rattle.npy_header.proofs.Readings.{reading-first}
use Rattle.npy_header.proofs.text.read_header_text.Goals as goal

pub read_bytes-requires-clause-table : goal.read_bytes-requires-clause-table
read_bytes-requires-clause-table c = ap (λ (r : Reading). r.table) c.in_ok-reader.ensures ∙ c.table.ensures.rows

pub read_bytes-requires-clause-reading : goal.read_bytes-requires-clause-reading
read_bytes-requires-clause-reading c = reading-first c.args.wide c.in_ok-reader.reader.left c.new-scanner.result (ap (λ (r : Reading). r.left) c.in_ok-reader.ensures) c.new-scanner.ensures
