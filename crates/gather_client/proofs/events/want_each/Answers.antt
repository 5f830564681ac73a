use Rattle.std.proofs.Common.{◌∙◌, ap, sym, get_or}
use Rattle.std.specs.Prelude.{fold}
use Rattle.std.proofs.lemmas.List.{take_all}
use Rattle.std.proofs.lemmas.List.Sums.{fold_more}
use Rattle.cluster_rules.specs.Client.{ClientFacts}
use Rattle.gather_client.specs.Stored.{facts_of}
use Rattle.gather_client.specs.Steps.{wanted}
use Rattle.gather_client.proofs.FoldLemmas.{wanted-room}
use Rattle.gather_client.proofs.events.want_each.Goals as goal

pub set_wanted-requires : goal.set_wanted-requires
set_wanted-requires c = wanted-room (facts_of c.args.table.now) (facts_of c.loop-key.table) c.args.keys.now c.loop-key.key-index c.requires c.loop-key.invariant c.loop-key-test.true

pub loop-key-preserved : goal.loop-key-preserved
loop-key-preserved c = c.set_wanted.ensures ∙ ap (λ (f : ClientFacts). wanted f (get_or c.args.keys.now c.loop-key.key-index 0)) c.loop-key.invariant ∙ sym (fold_more wanted (facts_of c.args.table.now) c.args.keys.now c.loop-key.key-index 0 c.loop-key-test.true)

pub returns : goal.returns
returns c = c.loop-key.invariant ∙ ap (fold wanted (facts_of c.args.table.now)) (take_all c.loop-key.key-index c.args.keys.now c.loop-key-test.false)
