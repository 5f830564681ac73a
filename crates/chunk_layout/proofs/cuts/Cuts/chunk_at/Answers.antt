use Rattle.std.proofs.Common.{rules}
use Rattle.chunk_layout.proofs.Numbering.{found}
use Rattle.chunk_layout.proofs.cuts.Cuts.chunk_at.Goals as goal

pub returns-clause-chunk : goal.returns-clause-chunk
returns-clause-chunk c =
    found c.args.self.now c.starts.result.now c.search.result c.args.index c.starts.ensures.starts (search rules) c.search.ensures.low c.search.ensures.high
