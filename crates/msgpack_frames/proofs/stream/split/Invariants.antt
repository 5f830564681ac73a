use Rattle.std.proofs.Common.{length}
use Rattle.msgpack_frames.specs.Groups.{Found}
use Rattle.msgpack_frames.proofs.stream.split.Given as goal

abbrev pub invariant-groups : goal.invariant-groups
invariant-groups l = Found l.bytes l.initial.ready.items l.ready.items l.rest

abbrev pub decreases-groups : goal.decreases-groups
decreases-groups l = length l.rest
