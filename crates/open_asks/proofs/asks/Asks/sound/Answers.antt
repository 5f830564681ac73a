use Rattle.open_asks.proofs.AskLemmas.{marked_within}
use Rattle.open_asks.proofs.asks.Asks.sound.Goals as goal

pub returns : goal.returns
returns c = rw (← c.self.view_is) (λ k e. marked_within c.self.inside.flying c.self.inside.asks.items k (c.self.invariant.flying k) e)
