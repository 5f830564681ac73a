use Rattle.std.proofs.Common.{◌≡◌, ◌+◌, drop}
use Rattle.msgpack_frames.specs.Groups.{total}
use Rattle.msgpack_frames.proofs.group.has_room.Given as goal

abbrev pub invariant-loop-len : goal.invariant-loop-len
invariant-loop-len l = l.left + total l.lens ≡ l.fn.room + total (drop l.len-index l.lens)
