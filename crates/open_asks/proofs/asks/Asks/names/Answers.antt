use Rattle.std.proofs.Common.{◌∙◌}
use Rattle.open_asks.proofs.asks.Asks.names.Goals as goal

pub returns : goal.returns
returns c = rw (← c.self.view_is) (c.test.ensures ∙ c.self.invariant.flying c.args.key)
