use Rattle.std.proofs.Common.{◌≡◌, drop}
use Rattle.std.specs.List.{find}
use Rattle.msgpack_frames.specs.View.{view}
use Rattle.wire_msgs.specs.Finding.{names}
use Rattle.wire_msgs.proofs.finding.first_named.Given as goal

abbrev pub invariant-loop-field : goal.invariant-loop-field
invariant-loop-field l = find (λ f. names f (view l.key)) (drop l.field-index l.fields) ≡ find (λ f. names f (view l.key)) l.fields
