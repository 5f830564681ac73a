use Rattle.std.proofs.Common.{◌≡◌, ◌⊎◌, Option, sym, subst}
use Rattle.nd_shape.specs.Region.{Box}
use Rattle.input_regions.specs.Boxes.{IsInRegion, IsLeastBox}
use Rattle.input_regions.proofs.Least.{point-least, reached-least}
use Rattle.input_regions.proofs.boxes.widened.Goals as goal

pub returns-in-None : goal.returns-in-None
returns-in-None c = subst (λ (r : Option Box). IsLeastBox (λ i. IsInRegion r i ⊎ (i ≡ c.args.index.now)) c.point.result) (sym c.in-None.is) (point-least c.args.index.now c.point.result c.point.ensures)

pub returns-in-Some : goal.returns-in-Some
returns-in-Some c =
    subst (λ (r : Option Box). IsLeastBox (λ i. IsInRegion r i ⊎ (i ≡ c.args.index.now)) c.stretched.result) (sym c.in-Some.is)
    (reached-least c.in-Some.region c.args.index.now c.stretched.result (c.requires.full c.in-Some.region c.in-Some.is) (c.requires.can.axes c.in-Some.region c.in-Some.is) c.stretched.ensures)
