use Rattle.std.proofs.Common.{ℕ, List, Option, None, sym, ap, subst}
use Rattle.key_sets.specs.Sets.{IsFirst}
use Rattle.gather_client.specs.Peers.{PeerSets, set_has, holds}
use Rattle.gather_client.proofs.peers.PeerKeys.next.Goals as goal

pub returns-in-Some : goal.returns-in-Some
returns-in-Some c =
    subst (λ (s : PeerSets). IsFirst (holds s c.args.peer) c.args.from c.first_from.result) c.self.view_is
    (subst (λ (o : Option (List ℕ)). IsFirst (λ k. set_has o k) c.args.from c.first_from.result) c.in-Some.ensures c.first_from.ensures)

pub returns-in-None : goal.returns-in-None
returns-in-None c = subst (λ (s : PeerSets). IsFirst (holds s c.args.peer) c.args.from None) c.self.view_is (λ k l. ap (λ o. set_has o k) (sym c.in-None.ensures))
