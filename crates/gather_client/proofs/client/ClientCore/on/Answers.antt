use Rattle.std.proofs.Common.{arith}
use Rattle.gather_client.proofs.KeptLemmas.{core_step}
use Rattle.gather_client.proofs.client.ClientCore.on.Goals as goal

pub invariant_of-self : goal.invariant_of-self
invariant_of-self c = core_step c.self.inside.table c.perform.new.table c.args.e c.self.inside.events c.self.inside.stopped c.self.invariant c.if-self.false (omega (arith, c.if-self-ge-EVENT_LIMIT.false)) c.in-Ok.ensures.facts
