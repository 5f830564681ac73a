use Rattle.std.proofs.Common.{ℕ, List, get_or, subst, arith}
use Rattle.std.proofs.lemmas.List.{take_all}
use Rattle.gather_client.specs.Peers.{HoldsPut}
use Rattle.gather_client.proofs.PeerLemmas.{put_none, put_more, named_at}
use Rattle.gather_client.proofs.peers.PeerKeys.put_all.Goals as goal

pub loop-holder-init : goal.loop-holder-init
loop-holder-init c = put_none c.args.key c.args.to c.args.self.now

pub put-requires-clause-key : goal.put-requires-clause-key
put-requires-clause-key c = let k = c.loop-holder.invariant.over.keys in omega (arith, c.requires.key)

pub put-requires-clause-ready : goal.put-requires-clause-ready
put-requires-clause-ready c = λ t m.
    let z = c.loop-holder.invariant.over.places in
    let x = (get_or c.args.holders.now c.loop-holder.holder-index (0, 0)).0 in
    c.loop-holder.invariant.over.there x ((c.requires.ready t).each x (named_at c.args.holders.now c.loop-holder.holder-index c.loop-holder-test.true) (omega arith))

pub loop-holder-preserved : goal.loop-holder-preserved
loop-holder-preserved c =
    put_more c.args.key c.args.to c.args.holders.now c.loop-holder.holder-index c.args.self.now c.loop-holder.self c.put.new.self c.loop-holder-test.true c.loop-holder.invariant c.put.ensures.over c.put.ensures.at

pub returns : goal.returns
returns c = subst (λ (hs : List (ℕ × ℕ)). HoldsPut c.args.key c.args.to hs c.args.self.now c.loop-holder.self) (take_all c.loop-holder.holder-index c.args.holders.now c.loop-holder-test.false) c.loop-holder.invariant
