use Rattle.std.proofs.Common.{map, get_or, ◌∙◌}
use Rattle.std.proofs.lemmas.List.{length-map}
use Rattle.nd_shape.proofs.Places.{IsIn-length}
use Rattle.nd_grid.proofs.Turning.{turned-in}
use Rattle.nd_grid.proofs.plain.TurnFormula.at.Goals as goal

pub index_transposed-requires-clause-index : goal.index_transposed-requires-clause-index
index_transposed-requires-clause-index c =
    IsIn-length (map (λ a. get_or c.args.self.now.of.now.shape a 0) c.args.self.now.axes.now) c.args.index.now c.requires.inside ∙ length-map c.args.self.now.axes.now (λ a. get_or c.args.self.now.of.now.shape a 0)

pub element_at-requires : goal.element_at-requires
element_at-requires c = rw c.index_transposed.ensures (turned-in c.args.self.now.axes.now c.args.self.now.of.now.shape c.args.index.now c.requires.valid c.requires.inside)
