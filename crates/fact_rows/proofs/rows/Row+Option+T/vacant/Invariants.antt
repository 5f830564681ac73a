use Rattle.std.proofs.Common.{◌≡◌, ℕ, None, length, get_or}
use Rattle.fact_rows.proofs.rows.Row+Option+T.vacant.Given as goal

abbrev pub invariant-loop-place : goal.invariant-loop-place
invariant-loop-place g l = record {
  long : length l.items.items ≡ l._place;
  same : (k : ℕ) → get_or l.items.items k None ≡ None;
}
