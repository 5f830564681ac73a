use Rattle.std.proofs.Common.{map, get_or, ◌∙◌}
use Rattle.std.proofs.lemmas.List.{length-map}
use Rattle.nd_shape.proofs.Places.{IsIn-length}
use Rattle.nd_grid.proofs.Turning.{turned-in}
use Rattle.array_expr.specs.Elem.{array_at}
use Rattle.plain_eval.proofs.picking.TurnFormula.at.Goals as goal

pub index_transposed-requires-clause-index : goal.index_transposed-requires-clause-index
index_transposed-requires-clause-index c =
    IsIn-length (map (λ a. get_or (array_at c.args.self.now.known.now c.args.self.now.of).shape a 0) c.args.self.now.axes.now) c.args.index.now c.requires.inside ∙ length-map c.args.self.now.axes.now (λ a. get_or (array_at c.args.self.now.known.now c.args.self.now.of).shape a 0)

pub element_of-requires-clause-inside : goal.element_of-requires-clause-inside
element_of-requires-clause-inside c = rw c.index_transposed.ensures (turned-in c.args.self.now.axes.now (array_at c.args.self.now.known.now c.args.self.now.of).shape c.args.index.now c.requires.valid.order c.requires.inside)
