use Rattle.std.proofs.Common.{◌-◌}
use Rattle.chunk_layout.specs.Cuts.{AllSome}
use Rattle.chunk_layout.proofs.Merging.{IsMerged}
use Rattle.chunk_layout.proofs.merge.merged.Given as goal

abbrev pub invariant-loop-at : goal.invariant-loop-at
invariant-loop-at l = record {
  left_some : AllSome l.a;
  right_some : AllSome l.b;
  here : IsMerged l.a l.b l.sizes.items l.i l.j l.at;
}

abbrev pub decreases-loop-at : goal.decreases-loop-at
decreases-loop-at l = l.len - l.at
