use Rattle.std.proofs.Common.{◌-◌}
use Rattle.input_regions.specs.Widening.{AreFit}
use Rattle.input_regions.proofs.Asked.{IsAskedFrom}
use Rattle.input_regions.proofs.regions.needed_regions.Given as goal

abbrev pub invariant-loop-done : goal.invariant-loop-done
invariant-loop-done l = record {
  asked : IsAskedFrom l.expr l.fn.node l.region l.needs (l.count - l.done);
  fit : AreFit l.expr l.needs;
}
