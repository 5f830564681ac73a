use Rattle.std.proofs.Common.{◌≡◌, ◌<◌, ◌+◌, ℕ, length, get_or, min, max}
use Rattle.input_regions.proofs.boxes.stretched.Given as goal

abbrev pub invariant-loop-axis : goal.invariant-loop-axis
invariant-loop-axis l = record {
  starts : length l.wider.start ≡ l.axis;
  lengths : length l.wider.lengths ≡ l.axis;
  start : (a : ℕ) → a < l.axis → get_or l.wider.start a 0 ≡ min (get_or l.region.start a 0) (get_or l.index a 0);
  end : (a : ℕ) → a < l.axis → get_or l.wider.start a 0 + get_or l.wider.lengths a 0 ≡ max (get_or l.region.start a 0 + get_or l.region.lengths a 0) (get_or l.index a 0 + 1);
}
