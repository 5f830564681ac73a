use Rattle.std.proofs.Common.{◌≡◌, ◌+◌, ℕ, length, None}
use Rattle.input_regions.specs.Needed.{region_at}
use Rattle.input_regions.proofs.regions.asked.Given as goal

abbrev pub invariant-loop-k : goal.invariant-loop-k
invariant-loop-k l = record {
  count : length l.needs.items + 1 ≡ l._k;
  none : (k : ℕ) → region_at l.needs.items k ≡ None;
}
