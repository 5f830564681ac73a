use Rattle.std.proofs.Common.{◌<◌, All}
use Rattle.block_table.proofs.jobs.saved_nodes.Given as goal

abbrev pub invariant-loop-save : goal.invariant-loop-save
invariant-loop-save l = All (λ n. n < l.count) l.nodes.items
