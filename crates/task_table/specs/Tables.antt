-- What a `TaskTable` keeps.
use Rattle.std.specs.Prelude.{◌≤◌}
use Rattle.cluster_rules.specs.Sched.{keys}
use Rattle.sched_facts.specs.Stored.{facts_of}
use Rattle.key_sets.specs.Sets.{room}
use Rattle.task_table.specs.Tasks.{Tasks, IsRemembered}
use Rattle.task_table.specs.Parts.{IsParts}
use Rattle.task_table.specs.Lists.{IsListed}
use Rattle.task_table.specs.declared.table.TaskTable.TheInside.{Inside}

abbrev pub tasks_of : Inside → Tasks
tasks_of s = record { stored = s.table; touched = s.parts.touched; held_before = s.held_before; erred_before = s.erred_before }

pub record IsTable (s : Inside) : Type 0 where
  pub parts : IsParts (facts_of s.table) s.parts
  pub lists : IsListed (facts_of s.table) s.lists
  pub remembered : IsRemembered (facts_of s.table) (tasks_of s)
  pub held_room : keys (facts_of s.table) ≤ room s.held_before
  pub erred_room : keys (facts_of s.table) ≤ room s.erred_before
