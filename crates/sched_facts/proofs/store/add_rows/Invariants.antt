use Rattle.std.proofs.Common.{◌≡◌, ◌+◌}
use Rattle.fact_rows.specs.Rows.{cell, height, width}
use Rattle.sched_facts.proofs.store.add_rows.Given as goal

abbrev pub invariant-loop-row : goal.invariant-loop-row
invariant-loop-row g l = record {
  tall : height l.grid ≡ height l.fn.grid + l._row;
  wide : width l.grid ≡ width l.fn.grid;
  same : cell l.grid l.value ≡ cell l.fn.grid l.value;
}
