use Rattle.expr_laws.proofs.Elements.{shape-formula, element-formula}
use Rattle.expr_laws.proofs.elements_by_formula.Goals as goal

pub returns : goal.returns
returns c = record { shape = shape-formula; element = element-formula }
