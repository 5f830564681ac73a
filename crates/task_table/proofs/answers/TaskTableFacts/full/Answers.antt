use Rattle.std.proofs.Common.{◌≤◌, ℕ, Option, unwrap_or, subst, sym, ap, ◌∙◌}
use Rattle.cluster_rules.specs.Sched.{full}
use Rattle.cluster_rules.proofs.TotalLemmas.{tasks_fit}
use Rattle.sched_facts.specs.Stored.{Stored, facts_of}
use Rattle.sched_facts.proofs.AnswerLemmas.{threads_few, full_by}
use Rattle.task_table.proofs.answers.TaskTableFacts.full.Goals as goal

pub is_full-requires-clause-threads : goal.is_full-requires-clause-threads
is_full-requires-clause-threads c = subst (λ (n : ℕ). n ≤ 16) (sym (c.thread_count.ensures ∙ ap (λ (o : Option ℕ). unwrap_or o 0) c.threads.ensures)) (threads_few (facts_of c.table-table.result.now) c.args.worker c.sound.ensures)

pub is_full-requires-clause-tasks : goal.is_full-requires-clause-tasks
is_full-requires-clause-tasks c = subst (λ (n : ℕ). n ≤ 32768) (sym c.tasks.ensures) (tasks_fit (facts_of c.table-table.result.now) c.args.worker c.sound.ensures)

pub returns : goal.returns
returns c = c.is_full.ensures ∙ full_by (facts_of c.table-table.result.now) c.args.worker c.thread_count.result c.saturation.result c.tasks.result (c.thread_count.ensures ∙ ap (λ (o : Option ℕ). unwrap_or o 0) c.threads.ensures) c.saturation.ensures c.tasks.ensures ∙ ap (λ (s : Stored). full (facts_of s) c.args.worker) c.table-table.ensures
