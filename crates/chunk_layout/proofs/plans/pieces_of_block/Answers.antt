use Rattle.std.proofs.Common.{◌≡◌, ◌∙◌, true, false}
use Rattle.chunk_layout.specs.Crossings.{HasElements}
use Rattle.chunk_layout.proofs.Crossing.{no_pieces}
use Rattle.chunk_layout.proofs.plans.pieces_of_block.Goals as goal

pub returns-else-has_elements : goal.returns-else-has_elements
returns-else-has_elements c =
    let none : HasElements c.args.to.now c.args.numbers.now → ⊥ = λ h. let e : c.has_elements.result ≡ true = c.has_elements.ensures.1 h in let f : c.has_elements.result ≡ false = c.if-has_elements.false in cc in
    c.new.ensures.items ∙ no_pieces c.args.from.now c.args.to.now c.args.numbers.now c.requires.same c.requires.numbers none
