use Rattle.std.proofs.Common.{◌≡◌, ◌≢◌, ◌<◌, ℕ, get_or, map}
use Rattle.std.specs.Prelude.{All}
use Rattle.array_expr.specs.Node.{shape_at}
use Rattle.array_expr.proofs.joining.check_others.Given as goal

abbrev pub invariant-loop-bad : goal.invariant-loop-bad
invariant-loop-bad l = (k : ℕ) → k < l.bad → k ≢ l.fn.axis → All (λ other. get_or other k 0 ≡ get_or l.dims k 0) (map (shape_at l.nodes) l.of)
