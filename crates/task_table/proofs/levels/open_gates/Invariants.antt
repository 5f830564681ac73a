use Rattle.std.proofs.Common.{◌≡◌, ℕ, ◌-◌, ◌<◌, ◌≤◌, false}
use Rattle.key_sets.specs.Sets.{has}
use Rattle.spread_flags.specs.Spread.{size, gate}
use Rattle.sched_facts.specs.Stored.{facts_of}
use Rattle.cluster_rules.specs.Sched.{keys}
use Rattle.task_table.specs.Standing.{due_gate}
use Rattle.task_table.proofs.levels.open_gates.Given as goal

abbrev pub invariant-loop-key : goal.invariant-loop-key
invariant-loop-key l = record {
  done : (k : ℕ) → k < l.from → k < keys (facts_of l.table) → gate l.waiting k ≡ due_gate (facts_of l.table) l.erred k;
  rest : (k : ℕ) → k < keys (facts_of l.table) → has l.erred.changed k ≡ false → gate l.waiting k ≡ due_gate (facts_of l.table) l.erred k;
  links : l.waiting.links ≡ l.fn.waiting.links;
  seeds : l.waiting.seeds ≡ l.fn.waiting.seeds;
  flags : l.waiting.flags ≡ l.fn.waiting.flags;
  changed : l.waiting.changed ≡ l.fn.waiting.changed;
  within : l.from ≤ size l.erred;
}

abbrev pub decreases-loop-key : goal.decreases-loop-key
decreases-loop-key l = size l.erred - l.from
