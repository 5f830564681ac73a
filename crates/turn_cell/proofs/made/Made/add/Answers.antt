use Rattle.std.proofs.Common.{◌∙◌, ◌++◌, ◌∷◌, [], ap}
use Rattle.turn_cell.proofs.made.Made.add.Goals as goal

pub returns-in-Ok-clause-added : goal.returns-in-Ok-clause-added
returns-in-Ok-clause-added g c = λ _. (
  c.in-Ok.pass,
  c.push.ensures.passes ∙ ap (λ xs. xs ++ c.in-Ok.pass ∷ []) c.reserve.ensures.passes,
  ap (λ m. m.0.start) c.in-Ok.ensures.made,
)
