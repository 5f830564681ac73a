use Rattle.std.proofs.Common.{◌≡◌, ◌≢◌, ℕ, ◌<◌}
use Rattle.std.specs.Prelude.{Some, None, slice_index_or}
use Rattle.node_states.specs.declared.why.Why.{Why}
use Rattle.node_states.specs.declared.why.Why.TheVariants as why
use Rattle.node_runner.proofs.ends.is_given_up.Given as goal

abbrev pub invariant-loop-at : goal.invariant-loop-at
invariant-loop-at l = (k : ℕ) → k < l.at → (cause : Why) × (slice_index_or l.left k None ≡ Some cause) × (cause ≢ why.Memory)
