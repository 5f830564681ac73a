use Rattle.std.proofs.Common.{◌≡◌, ℕ, [], false, cond, length, get_or, ltb}
use Rattle.fact_rows.specs.Rows.{EachOf}
use Rattle.fact_rows.proofs.rows.Grid.keep.Given as goal

abbrev pub invariant-loop-row : goal.invariant-loop-row
invariant-loop-row g l = record {
  long : length l.self-inside.rows.items ≡ length l.fn.self.1;
  wide : l.self-inside.wide ≡ l.fn.self.0;
  each : EachOf l.self-inside.wide l.self-inside.rows.items;
  done : (w k : ℕ) → get_or (get_or l.self-inside.rows.items w []) k l.other ≡ cond (ltb w l.row) (cond (get_or l.mask k false) (get_or (get_or l.fn.self.1 w []) k l.other) l.other) (get_or (get_or l.fn.self.1 w []) k l.other);
}
