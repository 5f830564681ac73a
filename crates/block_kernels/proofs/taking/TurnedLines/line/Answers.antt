use Rattle.std.proofs.Common.{ℕ, ◌<◌, map, get_or, ap, sym, subst, ◌∙◌, arith}
use Rattle.nd_shape.specs.Shape.{elements}
use Rattle.nd_shape.specs.Index.{place, index_at}
use Rattle.nd_grid.specs.Grid.{turned}
use Rattle.block_kernels.proofs.Filling.{row-first}
use Rattle.block_kernels.proofs.Takes.{row-next, turned-taken, turned-line}
use Rattle.block_kernels.proofs.taking.TurnedLines.line.Goals as goal

pub overflow_mul-start : goal.overflow_mul-start
overflow_mul-start c = omega (arith, row-first (map (λ a. get_or c.args.self.now.of.now.shape a 0) c.args.self.now.axes.now) c.args.self.now.shape.now c.args.self.now.outer c.args.row c.args.run c.requires.valid.shape_is c.requires.inside c.requires.run c.requires.some, c.dims.ensures.limits.product)

pub second_of-requires-clause-small : goal.second_of-requires-clause-small
second_of-requires-clause-small c = omega (arith, row-first (map (λ a. get_or c.args.self.now.of.now.shape a 0) c.args.self.now.axes.now) c.args.self.now.shape.now c.args.self.now.outer c.args.row c.args.run c.requires.valid.shape_is c.requires.inside c.requires.run c.requires.some, c.dims.ensures.limits.product)

pub turned_place-first-requires-clause-inside : goal.turned_place-first-requires-clause-inside
turned_place-first-requires-clause-inside c = row-first (map (λ a. get_or c.args.self.now.of.now.shape a 0) c.args.self.now.axes.now) c.args.self.now.shape.now c.args.self.now.outer c.args.row c.args.run c.requires.valid.shape_is c.requires.inside c.requires.run c.requires.some

pub turned_place-second-requires-clause-inside : goal.turned_place-second-requires-clause-inside
turned_place-second-requires-clause-inside c =
    subst (λ (p : ℕ). p < elements c.args.self.now.shape.now) (sym c.second_of.ensures)
    (row-next (map (λ a. get_or c.args.self.now.of.now.shape a 0) c.args.self.now.axes.now) c.args.self.now.shape.now c.args.self.now.outer c.args.row c.args.run c.requires.valid.shape_is c.requires.inside c.requires.run c.requires.some)

pub returns : goal.returns
returns c =
    let s = c.args.self.now in
    turned-line s.of.now s.axes.now s.shape.now s.outer c.args.row c.args.run c.turned_place-first.result c.turned_place-second.result c.requires.valid
    (turned-taken s.of.now s.axes.now s.shape.now s.outer c.args.row c.args.run c.turned_place-first.result c.turned_place-second.result c.requires.valid c.requires.inside c.requires.run c.cells.ensures.cells c.turned_place-first.ensures.place
    (c.turned_place-second.ensures.place ∙ ap (λ p. place c.args.self.now.of.now.shape (turned c.args.self.now.axes.now (index_at c.args.self.now.shape.now p))) c.second_of.ensures))
