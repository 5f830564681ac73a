use Rattle.std.proofs.Common.{◌∙◌, ap, sym, get_or}
use Rattle.std.specs.Prelude.{fold}
use Rattle.std.proofs.lemmas.List.{take_all}
use Rattle.std.proofs.lemmas.List.Sums.{fold_more}
use Rattle.cluster_rules.specs.Client.{ClientFacts}
use Rattle.gather_client.specs.Stored.{facts_of}
use Rattle.gather_client.specs.Steps.{released}
use Rattle.gather_client.proofs.FoldLemmas.{released-room}
use Rattle.gather_client.proofs.events.release_each.Goals as goal

pub release_key-requires : goal.release_key-requires
release_key-requires c = released-room (facts_of c.args.table.now) (facts_of c.loop-key.table) c.args.keys.now c.loop-key.key-index c.requires c.loop-key.invariant c.loop-key-test.true

pub loop-key-preserved : goal.loop-key-preserved
loop-key-preserved c = c.release_key.ensures ∙ ap (λ (f : ClientFacts). released f (get_or c.args.keys.now c.loop-key.key-index 0)) c.loop-key.invariant ∙ sym (fold_more released (facts_of c.args.table.now) c.args.keys.now c.loop-key.key-index 0 c.loop-key-test.true)

pub returns : goal.returns
returns c = c.loop-key.invariant ∙ ap (fold released (facts_of c.args.table.now)) (take_all c.loop-key.key-index c.args.keys.now c.loop-key-test.false)
