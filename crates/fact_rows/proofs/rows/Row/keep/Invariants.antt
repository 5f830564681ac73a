use Rattle.std.proofs.Common.{◌≡◌, ℕ, false, cond, length, get_or, ltb}
use Rattle.fact_rows.proofs.rows.Row.keep.Given as goal

abbrev pub invariant-loop-key : goal.invariant-loop-key
invariant-loop-key g l = record {
  long : length l.self-inside.items.items ≡ length l.fn.self;
  done : (k : ℕ) → get_or l.self-inside.items.items k l.other ≡ cond (ltb k l.key) (cond (get_or l.mask k false) (get_or l.fn.self k l.other) l.other) (get_or l.fn.self k l.other);
}
