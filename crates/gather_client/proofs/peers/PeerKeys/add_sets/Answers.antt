use Rattle.std.proofs.Common.{ℕ, List, subst}
use Rattle.std.proofs.lemmas.List.{take_all}
use Rattle.gather_client.specs.Peers.{AreReady}
use Rattle.gather_client.proofs.PeerLemmas.{ready_none, ready_more, same_at_first, same_on}
use Rattle.gather_client.proofs.peers.PeerKeys.add_sets.Goals as goal

pub loop-holder-init : goal.loop-holder-init
loop-holder-init c = record { ready = ready_none c.args.self.now; same = same_at_first c.args.self.now }

pub loop-holder-preserved : goal.loop-holder-preserved
loop-holder-preserved c = record {
  ready = ready_more c.loop-holder.self c.add_set.new.self c.args.holders.now c.loop-holder.holder-index c.loop-holder-test.true c.loop-holder.invariant.ready c.in_ok-add_set.ensures.same.over c.in_ok-add_set.ensures.ready;
  same = same_on c.args.self.now c.loop-holder.self c.add_set.new.self c.loop-holder.invariant.same c.in_ok-add_set.ensures.same;
}

pub returns-in_err-add_set-clause-same : goal.returns-in_err-add_set-clause-same
returns-in_err-add_set-clause-same c = same_on c.args.self.now c.loop-holder.self c.add_set.new.self c.loop-holder.invariant.same c.in_err-add_set.ensures.same

pub returns-clause-ready : goal.returns-clause-ready
returns-clause-ready c = subst (λ (hs : List (ℕ × ℕ)). AreReady c.loop-holder.self hs) (take_all c.loop-holder.holder-index c.args.holders.now c.loop-holder-test.false) c.loop-holder.invariant.ready
