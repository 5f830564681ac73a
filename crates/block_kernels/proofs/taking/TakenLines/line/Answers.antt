use Rattle.std.proofs.Common.{ℕ, ◌<◌, ap, sym, subst, ◌∙◌, arith}
use Rattle.nd_shape.specs.Shape.{elements}
use Rattle.nd_shape.specs.Index.{place, index_at}
use Rattle.nd_grid.specs.Grid.{sliced_shape, sliced_from}
use Rattle.block_kernels.proofs.Filling.{row-first}
use Rattle.block_kernels.proofs.Takes.{row-next, taken, taken-line}
use Rattle.block_kernels.proofs.taking.TakenLines.line.Goals as goal

pub overflow_mul-start : goal.overflow_mul-start
overflow_mul-start c = omega (arith, row-first (sliced_shape 0 c.args.self.now.steps.now c.args.self.now.dropped.now) c.args.self.now.shape.now c.args.self.now.outer c.args.row c.args.run c.requires.valid.shape_is c.requires.inside c.requires.run c.requires.some, c.dims.ensures.limits.product)

pub second_of-requires-clause-small : goal.second_of-requires-clause-small
second_of-requires-clause-small c = omega (arith, row-first (sliced_shape 0 c.args.self.now.steps.now c.args.self.now.dropped.now) c.args.self.now.shape.now c.args.self.now.outer c.args.row c.args.run c.requires.valid.shape_is c.requires.inside c.requires.run c.requires.some, c.dims.ensures.limits.product)

pub sliced_place-first-requires-clause-inside : goal.sliced_place-first-requires-clause-inside
sliced_place-first-requires-clause-inside c = row-first (sliced_shape 0 c.args.self.now.steps.now c.args.self.now.dropped.now) c.args.self.now.shape.now c.args.self.now.outer c.args.row c.args.run c.requires.valid.shape_is c.requires.inside c.requires.run c.requires.some

pub sliced_place-second-requires-clause-inside : goal.sliced_place-second-requires-clause-inside
sliced_place-second-requires-clause-inside c =
    subst (λ (p : ℕ). p < elements c.args.self.now.shape.now) (sym c.second_of.ensures)
    (row-next (sliced_shape 0 c.args.self.now.steps.now c.args.self.now.dropped.now) c.args.self.now.shape.now c.args.self.now.outer c.args.row c.args.run c.requires.valid.shape_is c.requires.inside c.requires.run c.requires.some)

pub returns : goal.returns
returns c =
    let s = c.args.self.now in
    taken-line s.of.now s.steps.now s.dropped.now s.shape.now s.outer c.args.row c.args.run c.sliced_place-first.result c.sliced_place-second.result c.requires.valid
    (taken s.of.now s.steps.now s.dropped.now s.shape.now s.outer c.args.row c.args.run c.sliced_place-first.result c.sliced_place-second.result c.requires.valid c.requires.inside c.requires.run c.cells.ensures.cells c.sliced_place-first.ensures.place
    (c.sliced_place-second.ensures.place ∙ ap (λ p. place c.args.self.now.of.now.shape (sliced_from 0 c.args.self.now.steps.now c.args.self.now.dropped.now (index_at c.args.self.now.shape.now p))) c.second_of.ensures))
