use Rattle.std.proofs.Common.{◌∙◌, sym, not, is_some}
use Rattle.cluster_rules.specs.Worker.{flying}
use Rattle.cluster_rules.proofs.WorkerLemmas.{unstarted_state-is}
use Rattle.worker_facts.proofs.FactLemmas.{and4}
use Rattle.worker_facts.specs.Stored.{facts_of}
use Rattle.worker_facts.proofs.table.WorkerTable.is_unstarted.Goals as goal

pub returns : goal.returns
returns c =
    let w = facts_of c.args.self.now in
    let k = c.args.key in
    rw (c.in_memory.ensures, c.is_running.ensures, c.is_flying.ensures, c.is_some.ensures, c.mine.ensures) (and4 (not (w.mem k)) (not (w.running k)) (not (flying w k)) (is_some (w.mine k)) ∙ sym (unstarted_state-is w k))
