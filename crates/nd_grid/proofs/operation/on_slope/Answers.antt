use Rattle.std.proofs.Common.{ap, w64, pos, ◌+ℤ◌, ◌*ℤ◌, ◌∙◌}
use Rattle.std.proofs.lemmas.Int.{wrapping_add_is, int_wrap-add_right, to_z-of_z}
use Rattle.nd_grid.specs.Int64.{wrap}
use Rattle.nd_grid.proofs.operation.on_slope.Goals as goal

pub returns : goal.returns
returns c =
    wrapping_add_is w64 c.args.start c.scaled.result c.ranges.start (record { sfits = c.scaled.type_inv })
    ∙ ap (λ z. wrap (c.args.start +ℤ z)) (c.scaled.ensures ∙ ap (λ s. wrap (s *ℤ pos c.args.place)) (to_z-of_z w64 c.args.step c.ranges.step))
    ∙ int_wrap-add_right w64 c.args.start (c.args.step *ℤ pos c.args.place)
