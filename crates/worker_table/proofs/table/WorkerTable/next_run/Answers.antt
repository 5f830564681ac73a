use Rattle.std.proofs.Common.{◌∙◌, ap}
use Rattle.key_sets.specs.Sets.{has}
use Rattle.worker_facts.specs.Stored.{facts_of}
use Rattle.worker_table.proofs.SearchLemmas.{first_same}
use Rattle.worker_table.proofs.table.WorkerTable.next_run.Goals as goal

pub returns : goal.returns
returns c = first_same (has c.self.inside.plan.runs) (facts_of c.args.self.now).running c.args.from c.first_from.result (λ k. (c.self.invariant.at k).runs ∙ ap (λ s. (facts_of s).running k) c.self.view_is) c.first_from.ensures
