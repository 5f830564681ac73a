use Rattle.std.proofs.Common.{◌≡◌, ℕ, ◌<◌, map, None, [], ◌∷◌}
use Rattle.std.specs.List.{range_with_len}
use Rattle.nd_shape.specs.Broadcast.{common, first_misfit, lengths_on}
use Rattle.nd_shape.proofs.broadcasting.broadcast_dims.Given as goal

abbrev pub invariant-loop-axis : goal.invariant-loop-axis
invariant-loop-axis l = record {
  dims : l.dims.items ≡ map (λ k. common (lengths_on (l.x ∷ l.y ∷ l.z ∷ []) k)) (range_with_len 0 l.axis);
  agree : (k : ℕ) → k < l.axis → first_misfit (lengths_on (l.x ∷ l.y ∷ l.z ∷ []) k) ≡ None;
}
