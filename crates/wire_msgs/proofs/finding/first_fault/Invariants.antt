use Rattle.std.proofs.Common.{◌≡◌, None}
use Rattle.wire_msgs.specs.Finding.{fault_at, first_below}
use Rattle.wire_msgs.specs.Seen.{seen}
use Rattle.wire_msgs.proofs.finding.first_fault.Given as goal

abbrev pub invariant-loop-place : goal.invariant-loop-place
invariant-loop-place l = first_below (fault_at l.operation (seen l.pairs)) l.place ≡ None
