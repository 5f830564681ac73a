use Rattle.std.proofs.Common.{◌≡◌, ◌∙◌, ap, sym, arith, false, true}
use Rattle.std.specs.List.{list_any}
use Rattle.cluster_msgs.specs.Shape.{key_count}
use Rattle.cluster_rules.specs.Derived.{below}
use Rattle.cluster_rules.specs.Worker.{used}
use Rattle.worker_facts.proofs.FactLemmas.{any_below, any_push}
use Rattle.worker_facts.specs.Stored.{facts_of, uses_key}
use Rattle.worker_facts.proofs.table.WorkerTable.is_used.Goals as goal

pub returns-then-uses : goal.returns-then-uses
unfolding used
returns-then-uses c = sym (any_below (uses_key (facts_of c.args.self.now) c.args.key) c.loop-task.task (key_count (facts_of c.args.self.now).shape) (omega (arith, c.keys-task-end.ensures)) (sym c.uses.ensures ∙ c.if-uses.true))

pub loop-task-preserved : goal.loop-task-preserved
loop-task-preserved c = any_push (uses_key (facts_of c.args.self.now) c.args.key) c.loop-task.task c.loop-task.invariant (sym c.uses.ensures ∙ c.if-uses.false)

pub returns : goal.returns
unfolding used
returns c = sym (ap (λ n. list_any (uses_key (facts_of c.args.self.now) c.args.key) (below n)) (let e : key_count (facts_of c.args.self.now).shape ≡ c.loop-task.task = omega (arith, c.keys-task-end.ensures) in e) ∙ c.loop-task.invariant)
