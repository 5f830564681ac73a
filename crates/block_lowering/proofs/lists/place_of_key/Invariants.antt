use Rattle.std.proofs.Common.{◌≡◌, ℕ, ◌<◌, false, get_or}
use Rattle.std.specs.Prelude.{nat_eq}
use Rattle.block_lowering.proofs.lists.place_of_key.Given as goal

abbrev pub invariant-loop-place : goal.invariant-loop-place
invariant-loop-place l = (k : ℕ) → k < l.place → nat_eq l.key (get_or l.keys k 0) ≡ false
