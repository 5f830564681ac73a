use Rattle.std.proofs.Common.{◌∙◌, ap, Some, []}
use Rattle.std.proofs.lemmas.Result.{on_ok_weaker}
use Rattle.cluster_rules.specs.Functions.{put}
use Rattle.cluster_rules.specs.Client.{ClientFacts, hear}
use Rattle.gather_client.specs.Stored.{facts_of}
use Rattle.gather_client.proofs.FoldLemmas.{heard, unheard}
use Rattle.gather_client.proofs.events.hear.Goals as goal

pub returns-then-is_due : goal.returns-then-is_due
unfolding hear
returns-then-is_due c =
    let f = facts_of c.args.table.now in
    rw c.in-KeyInMemory.is (on_ok_weaker c.set_located.result (λ e. heard f (facts_of c.set_located.new.self) c.in-KeyInMemory.key c.is_due.result _ c.is_due.ensures c.if-is_due.true e) c.set_located.ensures.ok)

pub returns-else-is_due : goal.returns-else-is_due
unfolding hear
returns-else-is_due c =
    let f = facts_of c.args.table.now in
    rw c.in-KeyInMemory.is (unheard f c.in-KeyInMemory.key c.is_due.result (record f { located = put f.located c.in-KeyInMemory.key c.in-KeyInMemory.holders }) c.is_due.ensures c.if-is_due.false)

pub returns-in-LostData : goal.returns-in-LostData
unfolding hear
returns-in-LostData c = rw c.in-LostData.is c.forget.ensures

pub returns-then-is_due-2 : goal.returns-then-is_due-2
unfolding hear
returns-then-is_due-2 c = rw c.in-ClientTaskErred.is (heard (facts_of c.args.table.now) (facts_of c.forget-then-is_due-2.new.self) c.in-ClientTaskErred.key c.is_due-in-ClientTaskErred.result _ c.is_due-in-ClientTaskErred.ensures c.if-is_due-2.true
    (c.forget-then-is_due-2.ensures ∙ ap (λ (g : ClientFacts). record g { located = put g.located c.in-ClientTaskErred.key [] }) c.set_failed.ensures))

pub returns-else-is_due-2 : goal.returns-else-is_due-2
unfolding hear
returns-else-is_due-2 c =
    let f = facts_of c.args.table.now in
    rw c.in-ClientTaskErred.is (unheard f c.in-ClientTaskErred.key c.is_due-in-ClientTaskErred.result (record f { failed = put f.failed c.in-ClientTaskErred.key (Some c.in-ClientTaskErred.blame); located = put f.located c.in-ClientTaskErred.key [] }) c.is_due-in-ClientTaskErred.ensures c.if-is_due-2.false)
