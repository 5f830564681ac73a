use Rattle.std.proofs.Common.{◌∙◌, ap, sym}
use Rattle.open_asks.specs.Kept.{Kept}
use Rattle.gather_client.specs.Peers.{names}
use Rattle.gather_client.specs.Stored.{facts_of}
use Rattle.gather_client.proofs.table.ClientTable.new.Goals as goal

pub invariant_of-result : goal.invariant_of-result
invariant_of-result c = record {
  rows = record {
    shape = c.sound.ensures;
    wants = c.in_ok-wants.ensures.length ∙ c.keys-count.ensures;
    located = c.in_ok-located.ensures.length ∙ c.keys-count.ensures;
    got = c.in_ok-got.ensures.length ∙ c.keys-count.ensures;
    failed = c.in_ok-failed.ensures.length ∙ c.keys-count.ensures;
  };
  wide = ap (λ (a : Kept). a.wide) c.in_ok-asks.ensures ∙ c.keys-count.ensures;
  over = c.in_ok-peers.ensures.keys ∙ c.keys.ensures;
  held = λ p k l. c.in_ok-peers.ensures.none p k ∙ sym (ap (names p) (c.in_ok-located.ensures.empty k));
}

pub returns : goal.returns
unfolding facts_of
returns c = λ i. record {
  shape = c.args.shape;
  wants = λ k. c.in_ok-wants.ensures.same k i;
  located = λ k. c.in_ok-located.ensures.empty k i;
  asks = (c.in_ok-asks.ensures i).asks;
  got = λ k. c.in_ok-got.ensures.same k i;
  failed = λ k. c.in_ok-failed.ensures.same k i;
  next_ask = 1;
}
