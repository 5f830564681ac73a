use Rattle.std.proofs.Common.{◌<◌, ◌≤◌, ◌-◌, get_or}
use Rattle.chunk_layout.proofs.cuts.search.Given as goal

abbrev pub invariant-loop-high : goal.invariant-loop-high
invariant-loop-high l = record {
  some : l.low < l.high;
  there : l.high ≤ l.count;
  below : get_or l.starts l.low 0 ≤ l.index;
  above : l.index < get_or l.starts l.high 0;
}

abbrev pub decreases-loop-high : goal.decreases-loop-high
decreases-loop-high l = l.high - l.low
