use Rattle.std.proofs.Common.{◌∙◌, ◌++◌, ap, get_or, append_assoc, take, []}
use Rattle.std.specs.List.{filter_map, cons_option}
use Rattle.std.proofs.lemmas.List.{take_all}
use Rattle.cluster_rules.specs.Client.{ClientFacts}
use Rattle.gather_client.specs.Stored.{facts_of}
use Rattle.gather_client.specs.Steps.{miss_step, miss_message, after_missed}
use Rattle.gather_client.proofs.FoldLemmas.{missed-more, missed-room, missed-messages}
use Rattle.gather_client.proofs.events.miss_others.Goals as goal

pub miss_unless_found-requires : goal.miss_unless_found-requires
miss_unless_found-requires c = missed-room (facts_of c.args.table.now) (facts_of c.loop-item.table) c.args.found.now c.args.items.now c.loop-item.item-index (0, 0) c.requires c.loop-item.invariant.facts c.loop-item-test.true

pub loop-item-preserved : goal.loop-item-preserved
loop-item-preserved c =
    let here = get_or c.args.items.now c.loop-item.item-index (0, 0) in
    record {
      facts = c.in_ok-miss_unless_found.ensures.facts
          ∙ ap (λ (f : ClientFacts). miss_step c.args.found.now f here) c.loop-item.invariant.facts
          ∙ missed-more (facts_of c.args.table.now) c.args.found.now c.args.items.now c.loop-item.item-index (0, 0) c.loop-item-test.true;
      told = c.in_ok-miss_unless_found.ensures.instructions
          ∙ ap (λ o. o ++ cons_option (miss_message c.args.found.now (facts_of c.loop-item.table) c.args.peer here) []) c.loop-item.invariant.told
          ∙ append_assoc c.args.out.now (filter_map (miss_message c.args.found.now (facts_of c.args.table.now) c.args.peer) (take c.loop-item.item-index c.args.items.now)) (cons_option (miss_message c.args.found.now (facts_of c.loop-item.table) c.args.peer here) [])
          ∙ ap (λ o. c.args.out.now ++ o) (missed-messages (facts_of c.args.table.now) (facts_of c.loop-item.table) c.args.found.now c.args.peer c.args.items.now c.loop-item.item-index (0, 0) c.loop-item.invariant.facts c.loop-item-test.true);
    }

pub returns-clause-facts : goal.returns-clause-facts
returns-clause-facts c = c.loop-item.invariant.facts ∙ ap (after_missed (facts_of c.args.table.now) c.args.found.now) (take_all c.loop-item.item-index c.args.items.now c.loop-item-test.false)

pub returns-clause-instructions : goal.returns-clause-instructions
returns-clause-instructions c = c.loop-item.invariant.told ∙ ap (λ is. c.args.out.now ++ filter_map (miss_message c.args.found.now (facts_of c.args.table.now) c.args.peer) is) (take_all c.loop-item.item-index c.args.items.now c.loop-item-test.false)
