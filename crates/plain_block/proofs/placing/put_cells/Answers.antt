use Rattle.std.proofs.Common.{◌≡◌, ◌<◌, ◌∙◌, ap, subst, arith}
use Rattle.nd_shape.specs.Shape.{elements}
use Rattle.plain_block.specs.Placing.{ArePlaced}
use Rattle.plain_block.proofs.Parts.{placed-none}
use Rattle.plain_block.proofs.placing.put_cells.Goals as goal

pub put_cell-requires-clause-there : goal.put_cell-requires-clause-there
put_cell-requires-clause-there c = subst (λ n. c.loop-p.p < n) (c.elements-count.ensures ∙ ap elements (c.shape.ensures.value ∙ c.requires.same)) c.loop-p-test.true

pub loop-p-init : goal.loop-p-init
loop-p-init c = placed-none c.args.shape.now c.args.region.now c.args.part.now.cells c.args.cells.now

pub returns : goal.returns
returns c =
    let all : c.loop-p.p ≡ c.elements-count.result = omega arith in
    subst (ArePlaced c.args.shape.now c.args.region.now c.args.part.now.cells c.loop-p.cells) (all ∙ c.elements-count.ensures ∙ ap elements (c.shape.ensures.value ∙ c.requires.same)) c.loop-p.invariant
