use Rattle.std.proofs.Common.{◌∙◌, ap, sym}
use Rattle.std.proofs.lemmas.Option.{none-some}
use Rattle.gather_client.specs.Peers.{set_has}
use Rattle.gather_client.proofs.peers.PeerKeys.new.Goals as goal

pub invariant_of-result : goal.invariant_of-result
invariant_of-result c = record {
  few = c.requires;
  wide = λ p ks e. absurd (none-some ks (sym (c.in_ok-sets.ensures.none p) ∙ e));
}

pub returns-clause-none : goal.returns-clause-none
returns-clause-none c = λ p k. ap (λ o. set_has o k) (c.in_ok-sets.ensures.none p)
