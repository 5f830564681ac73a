use Rattle.std.proofs.Common.{◌≡◌, take, get_or}
use Rattle.std.specs.Prelude.{None}
use Rattle.graph_run.specs.Writes.{IsWritten}
use Rattle.graph_run.proofs.slots.let_go.Given as goal

abbrev pub invariant-loop-key : goal.invariant-loop-key
invariant-loop-key g l = IsWritten (λ k. get_or l.last k 0 ≡ l.user) None None (take l.key-index l.keys) l.initial.slots l.slots
