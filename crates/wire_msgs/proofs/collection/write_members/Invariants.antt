use Rattle.std.proofs.Common.{◌≡◌, ◌++◌, drop, take, map}
use Rattle.msgpack_frames.specs.View.{items_of, view}
use Rattle.wire_msgs.specs.Parts.{members_in}
use Rattle.wire_msgs.proofs.Members.{after}
use Rattle.wire_msgs.proofs.collection.write_members.Given as goal

abbrev pub invariant-loop-part : goal.invariant-loop-part
invariant-loop-part g l = record {
  written : map view l.items.items ++ map g.T.Part.written (drop l.part-index l.parts) ≡ map g.T.Part.written l.parts;
  read_back : after (take l.part-index l.parts) (members_in g.T.Part.parsed (items_of (map g.T.Part.written (drop l.part-index l.parts)))) ≡ members_in g.T.Part.parsed (items_of (map g.T.Part.written l.parts));
}
