use Rattle.standing.specs.Links.{IsReverseBelow}
use Rattle.standing.proofs.links.up_links.Given as goal

abbrev pub invariant-loop-key : goal.invariant-loop-key
invariant-loop-key l = IsReverseBelow l.shape l.links.items l.key
