use Rattle.std.proofs.Common.{◌≡◌, ℕ, ◌<◌, ◌≤◌, false, [], length, get_or}
use Rattle.key_sets.specs.Sets.{room}
use Rattle.task_table.specs.Lists.{in_row}
use Rattle.task_table.proofs.rows.new_rows.Given as goal

abbrev pub invariant-loop-row : goal.invariant-loop-row
invariant-loop-row l = record {
  long : length l.rows.items ≡ l._row;
  wide : (w : ℕ) → w < length l.rows.items → l.count ≤ room (get_or l.rows.items w []);
  empty : (w k : ℕ) → in_row l.rows.items w k ≡ false;
}
