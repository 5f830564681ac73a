use Rattle.std.proofs.Common.{◌≡◌, ℕ, length, get_or}
use Rattle.run_report.proofs.starts.grow.Given as goal

abbrev pub invariant-loop-number : goal.invariant-loop-number
invariant-loop-number l = record {
  long : length l.starts ≡ l._number;
  same : (k : ℕ) → get_or l.starts k 0 ≡ get_or l.fn.starts k 0;
}
