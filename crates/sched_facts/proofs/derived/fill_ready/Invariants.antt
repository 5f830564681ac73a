use Rattle.std.proofs.Common.{false}
use Rattle.cluster_rules.specs.Sched.{ready, keys}
use Rattle.sched_facts.specs.Stored.{facts_of}
use Rattle.sched_facts.proofs.DeriveLemmas.{IsFilled}
use Rattle.sched_facts.proofs.derived.fill_ready.Given as goal

abbrev pub invariant-loop-key : goal.invariant-loop-key
invariant-loop-key l = IsFilled (ready (facts_of l.table)) false l.row (keys (facts_of l.table)) l.key
