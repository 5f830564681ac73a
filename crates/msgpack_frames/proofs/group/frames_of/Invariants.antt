use Rattle.std.proofs.Common.{◌≡◌, ◌≤◌, ◌++◌, length, drop, map}
use Rattle.msgpack_frames.specs.Groups.{total, cut}
use Rattle.msgpack_frames.proofs.group.frames_of.Given as goal

abbrev pub invariant-loop-len : goal.invariant-loop-len
invariant-loop-len l = record {
  frames : map (λ f. f.items) l.frames.items ++ cut (drop l.len-index l.lens) l.rest ≡ cut l.lens l.bytes;
  room : total (drop l.len-index l.lens) ≤ length l.rest;
}
