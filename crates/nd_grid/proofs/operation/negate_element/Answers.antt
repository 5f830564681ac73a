use Rattle.std.proofs.Common.{rules, ap, w64, Some, pos}
use Rattle.std.proofs.lemmas.Int.{wrapping_sub_is}
use mir.Val.{SFits}
use Rattle.nd_grid.proofs.operation.negate_element.Goals as goal

pub returns : goal.returns
returns c = let none : SFits w64 (pos 0) = search rules in ap Some (wrapping_sub_is w64 (pos 0) c.args.a none c.ranges.a)
