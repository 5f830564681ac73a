use Rattle.std.proofs.Common.{sym, ◌∙◌}
use Rattle.placement.proofs.Placing.{offer-yes, offer-away, offer-out}
use Rattle.placement.proofs.choice.offer.Goals as goal
use Rattle.placement.proofs.choice.offer.Goals.{else-connected-via-then-connected+else-admits, else-connected-via-else-connected}

pub returns-then-admits : goal.returns-then-admits
returns-then-admits g c = offer-yes _ _ _ _ _ (sym c.connected.ensures ∙ c.if-connected.true) (sym c.admits.ensures ∙ c.if-admits.true) c.candidate_of.ensures

pub returns-else-connected : goal.returns-else-connected
returns-else-connected g c = elim c.else-connected.branch [
  | else-connected-via-then-connected+else-admits w ↦ offer-out _ _ _ _ (sym w.admits.ensures ∙ w.if-admits.false)
  | else-connected-via-else-connected w ↦ offer-away _ _ _ _ (sym c.connected.ensures ∙ w.if-connected.false)
]
