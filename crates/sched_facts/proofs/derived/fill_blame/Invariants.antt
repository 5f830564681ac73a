use Rattle.std.proofs.Common.{None}
use Rattle.cluster_rules.specs.Sched.{blame, keys}
use Rattle.sched_facts.specs.Stored.{facts_of}
use Rattle.sched_facts.proofs.DeriveLemmas.{IsFilled}
use Rattle.sched_facts.proofs.derived.fill_blame.Given as goal

abbrev pub invariant-loop-key : goal.invariant-loop-key
invariant-loop-key l = IsFilled (blame (facts_of l.table)) None l.row (keys (facts_of l.table)) l.key
