use Rattle.std.proofs.Common.{◌≡◌, ℕ, cond, length, get_or, ltb}
use Rattle.fact_rows.proofs.rows.Row.fill.Given as goal

abbrev pub invariant-loop-key : goal.invariant-loop-key
invariant-loop-key g l = record {
  long : length l.self-inside.items.items ≡ length l.fn.self;
  done : (k : ℕ) → get_or l.self-inside.items.items k l.value ≡ cond (ltb k l.key) l.value (get_or l.fn.self k l.value);
}
