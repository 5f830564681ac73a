use Rattle.std.proofs.Common.{◌≡◌, ℕ, None, cond, length, get_or, ltb}
use Rattle.fact_rows.proofs.rows.Row+Option+T.vacate.Given as goal

abbrev pub invariant-loop-place : goal.invariant-loop-place
invariant-loop-place g l = record {
  long : length l.self-inside.items.items ≡ length l.fn.self;
  done : (k : ℕ) → get_or l.self-inside.items.items k None ≡ cond (ltb k l.place) None (get_or l.fn.self k None);
}
