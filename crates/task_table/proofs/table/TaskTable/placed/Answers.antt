use Rattle.std.proofs.Common.{subst}
use Rattle.cluster_rules.specs.Sched.{keys}
use Rattle.sched_facts.specs.Stored.{facts_of}
use Rattle.task_table.specs.Lists.{IsSetOf, is_placed}
use Rattle.task_table.specs.Tasks.{Tasks, facts}
use Rattle.task_table.proofs.Listing.{placed_keys}
use Rattle.task_table.proofs.table.TaskTable.placed.Goals as goal

pub returns : goal.returns
returns c = subst (λ (t : Tasks). IsSetOf (keys (facts t)) (is_placed (facts t)) c.self.inside.lists.placed) c.self.view_is (placed_keys (facts_of c.self.inside.table) c.self.inside.lists c.sound.ensures c.self.invariant.lists)
