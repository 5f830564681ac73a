use Rattle.std.proofs.Common.{◌≡◌, drop}
use Rattle.std.specs.Result.{result_err}
use Rattle.msgpack_frames.specs.View.{items_view}
use Rattle.wire_msgs.specs.Parts.{members_in}
use Rattle.wire_msgs.proofs.collection.first_flaw.Given as goal

abbrev pub invariant-loop-item : goal.invariant-loop-item
invariant-loop-item g l = result_err (members_in g.T.Part.parsed (items_view (drop l.item-index l.items))) ≡ result_err (members_in g.T.Part.parsed (items_view l.items))
