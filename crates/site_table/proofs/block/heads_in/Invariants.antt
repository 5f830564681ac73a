use Rattle.std.proofs.Common.{◌≡◌, length}
use Rattle.site_table.proofs.block.heads_in.Given as goal

abbrev pub invariant-loop-file : goal.invariant-loop-file
invariant-loop-file g l = length (g.I.Store.files l.store) ≡ l.count
