use Rattle.std.proofs.Common.{◌≡◌, drop}
use Rattle.msgpack_frames.specs.View.{items_view}
use Rattle.wire_msgs.specs.Parts.{members_in}
use Rattle.wire_msgs.proofs.Members.{after}
use Rattle.wire_msgs.proofs.collection.read_members.Given as goal

abbrev pub invariant-loop-item : goal.invariant-loop-item
invariant-loop-item g l = after l.parts.items (members_in g.T.Part.parsed (items_view (drop l.item-index l.items))) ≡ members_in g.T.Part.parsed (items_view l.items)
