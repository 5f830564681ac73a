use Rattle.std.proofs.Common.{◌∙◌, sym, not, is_some}
use Rattle.cluster_rules.specs.Worker.{is_fed, flying}
use Rattle.cluster_rules.proofs.WorkerLemmas.{unstarted_state-is, ready_state-is}
use Rattle.worker_facts.proofs.FactLemmas.{ready-of}
use Rattle.worker_facts.specs.Stored.{facts_of}
use Rattle.worker_facts.proofs.table.WorkerTable.is_ready.Goals as goal

pub returns-then-is_unstarted : goal.returns-then-is_unstarted
returns-then-is_unstarted c =
    let w = facts_of c.args.self.now in
    let k = c.args.key in
    c.is_fed.ensures ∙ ready-of (not (w.mem k)) (not (w.running k)) (not (flying w k)) (is_some (w.mine k)) (is_fed w k) (sym (unstarted_state-is w k) ∙ sym c.is_unstarted.ensures ∙ c.if-is_unstarted.true) ∙ sym (ready_state-is w k)
