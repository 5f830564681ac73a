use Rattle.std.proofs.Common.{◌≡◌, ◌<◌, ◌+◌, ℕ, length, get_or}
use Rattle.input_regions.proofs.regions.last_index.Given as goal

abbrev pub invariant-loop-axis : goal.invariant-loop-axis
invariant-loop-axis l = record {
  axes : length l.last.items ≡ l.axis;
  each : (a : ℕ) → a < l.axis → get_or l.last.items a 0 + 1 ≡ get_or l.region.start a 0 + get_or l.region.lengths a 0;
}
