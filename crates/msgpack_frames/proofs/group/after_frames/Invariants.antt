use Rattle.std.proofs.Common.{◌≡◌, ◌≤◌, length, drop}
use Rattle.msgpack_frames.specs.Groups.{total}
use Rattle.msgpack_frames.proofs.group.after_frames.Given as goal

abbrev pub invariant-loop-len : goal.invariant-loop-len
invariant-loop-len l = record {
  after : drop (total (drop l.len-index l.lens)) l.rest ≡ drop (total l.lens) l.bytes;
  room : total (drop l.len-index l.lens) ≤ length l.rest;
}
