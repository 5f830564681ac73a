use Rattle.std.proofs.Common.{◌≡◌, Some, None, length, sym, ◌∙◌}
use Rattle.wire_msgs.specs.Finding.{fault_at}
use Rattle.wire_msgs.specs.Seen.{seen}
use Rattle.wire_msgs.proofs.Faults.{fault_at-seen, first_below-at, first_below-next}
use Rattle.wire_msgs.proofs.finding.first_fault.Goals as goal

pub returns-in-Some : goal.returns-in-Some
returns-in-Some c =
    let here : fault_at c.args.operation (seen c.args.pairs.now) c.loop-place.place ≡ Some c.in-Some.fault = fault_at-seen c.args.operation c.args.pairs.now c.loop-place.place c.index-pairs-place.result c.loop-place-test.true c.index-pairs-place.is ∙ sym c.in-Some.ensures in
    sym (first_below-at (fault_at c.args.operation (seen c.args.pairs.now)) (length c.args.pairs.now) c.loop-place.place c.in-Some.fault c.loop-place.invariant here c.loop-place-test.true)

pub loop-place-preserved : goal.loop-place-preserved
loop-place-preserved c =
    let here : fault_at c.args.operation (seen c.args.pairs.now) c.loop-place.place ≡ None = fault_at-seen c.args.operation c.args.pairs.now c.loop-place.place c.index-pairs-place.result c.loop-place-test.true c.index-pairs-place.is ∙ sym c.in_default.ensures in
    first_below-next (fault_at c.args.operation (seen c.args.pairs.now)) c.loop-place.place c.loop-place.invariant here
