use Rattle.std.proofs.Common.{◌≡◌, ◌-◌}
use Rattle.msgpack_frames.specs.Groups.{lens_at}
use Rattle.msgpack_frames.proofs.GroupLoops.{lens_after}
use Rattle.msgpack_frames.proofs.group.lens_of.Given as goal

abbrev pub invariant-lens : goal.invariant-lens
invariant-lens l = lens_after l.lens.items (lens_at l.place (l.count - l.place) l.rest) ≡ lens_at 0 l.count l.bytes
