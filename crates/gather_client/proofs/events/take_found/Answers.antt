use Rattle.std.proofs.Common.{◌∙◌, ap, get_or}
use Rattle.std.proofs.lemmas.List.{take_all}
use Rattle.cluster_rules.specs.Client.{ClientFacts}
use Rattle.gather_client.specs.Stored.{facts_of}
use Rattle.gather_client.specs.Steps.{take_step, after_found}
use Rattle.gather_client.proofs.FoldLemmas.{found-more, found-room}
use Rattle.gather_client.proofs.events.take_found.Goals as goal

pub take_if_found-requires : goal.take_if_found-requires
take_if_found-requires c = found-room (facts_of c.args.table.now) (facts_of c.loop-item.table) c.args.found.now c.args.items.now c.loop-item.item-index (0, 0) c.requires c.loop-item.invariant c.loop-item-test.true

pub loop-item-preserved : goal.loop-item-preserved
loop-item-preserved c =
    c.take_if_found.ensures
    ∙ ap (λ (f : ClientFacts). take_step c.args.found.now f (get_or c.args.items.now c.loop-item.item-index (0, 0))) c.loop-item.invariant
    ∙ found-more (facts_of c.args.table.now) c.args.found.now c.args.items.now c.loop-item.item-index (0, 0) c.loop-item-test.true

pub returns : goal.returns
returns c = c.loop-item.invariant ∙ ap (after_found (facts_of c.args.table.now) c.args.found.now) (take_all c.loop-item.item-index c.args.items.now c.loop-item-test.false)
