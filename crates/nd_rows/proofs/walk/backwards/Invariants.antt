use Rattle.std.proofs.Common.{◌≡◌, take}
use Rattle.std.specs.Prelude.{reverse}
use Rattle.nd_rows.proofs.walk.backwards.Given as goal

abbrev pub invariant-loop-done : goal.invariant-loop-done
invariant-loop-done l = record {
  start : l.turned.start ≡ take l.done (reverse l.starts);
  lengths : l.turned.lengths ≡ take l.done (reverse l.lengths);
}
