use Rattle.std.proofs.Common.{◌≤◌, arith}
use Rattle.cluster_rules.specs.Sched.{keys}
use Rattle.cluster_rules.proofs.SchedLemmas.{known-past}
use Rattle.task_table.specs.Tasks.{facts}
use Rattle.scheduler_core.proofs.PhaseLemmas.{phase_past}
use Rattle.scheduler_core.proofs.phase.phase.Goals as goal

pub returns-else-key-keys : goal.returns-else-key-keys
returns-else-key-keys c =
    let f = facts c.args.table.now in
    let l : keys f ≤ c.args.key = omega (arith, c.if-key-keys.false, c.keys.ensures) in
    phase_past f c.args.key (known-past f c.sound.ensures c.args.key l)
