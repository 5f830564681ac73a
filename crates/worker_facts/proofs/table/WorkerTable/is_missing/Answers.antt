use Rattle.std.proofs.Common.{◌∙◌, sym, not, is_some}
use Rattle.cluster_rules.specs.Worker.{is_wanted, has_any, flying}
use Rattle.cluster_rules.proofs.WorkerLemmas.{missing_state-is}
use Rattle.worker_facts.proofs.FactLemmas.{and_last}
use Rattle.worker_facts.specs.Stored.{facts_of}
use Rattle.worker_facts.proofs.table.WorkerTable.is_missing.Goals as goal

pub returns : goal.returns
returns c =
    let w = facts_of c.args.self.now in
    let k = c.args.key in
    rw (c.is_lacking.ensures, c.has_holder.ensures) (and_last (not (w.mem k)) (not (w.running k)) (not (flying w k)) (not (is_some (w.mine k))) (is_wanted w k) (not (has_any (w.holders k))) ∙ sym (missing_state-is w k))
