use Rattle.std.proofs.Common.{◌≡◌, take}
use Rattle.standing.proofs.links.down_links.Given as goal

abbrev pub invariant-loop-key : goal.invariant-loop-key
invariant-loop-key l = l.links.items ≡ take l.key l.shape.deps
