use Rattle.std.proofs.Common.{subst}
use Rattle.lowering_laws.specs.Built.{AreBuilt}
use Rattle.lowering_laws.proofs.values.law_of_expression.Goals as goal

pub returns-clause-saved : goal.returns-clause-saved
returns-clause-saved c = λ files saves inside. c.law_of_lowered.ensures.saved files c.args.expr.now saves c.nodes-nodes.ensures.sound (subst AreBuilt c.nodes-nodes.ensures.value c.numbers_fit.ensures) inside

pub returns-clause-named : goal.returns-clause-named
returns-clause-named c = λ files saves inside. c.law_of_lowered.ensures.named files c.args.expr.now saves c.nodes-nodes.ensures.sound (subst AreBuilt c.nodes-nodes.ensures.value c.numbers_fit.ensures) inside

pub returns-clause-faults : goal.returns-clause-faults
returns-clause-faults c = λ files saves inside. c.law_of_faults.ensures files c.args.expr.now saves c.nodes-nodes.ensures.sound (subst AreBuilt c.nodes-nodes.ensures.value c.numbers_fit.ensures) inside
