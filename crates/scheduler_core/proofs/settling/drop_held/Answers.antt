use Rattle.std.proofs.Common.{true, false, sym, ◌∙◌}
use Rattle.cluster_rules.specs.Sched.{holds}
use Rattle.task_table.specs.Tasks.{facts}
use Rattle.sched_changes.specs.Pairs.{has_pair}
use Rattle.scheduler_core.proofs.DropLemmas.{none_holds, key_gone, lost_nothing}
use Rattle.scheduler_core.proofs.settling.drop_held.Goals as goal

pub returns-else-is_held-clause-facts : goal.returns-else-is_held-clause-facts
returns-else-is_held-clause-facts c =
    let f = facts c.args.table.now in
    key_gone f c.args.key (none_holds f c.args.key c.sound.ensures (sym c.held-is_held.ensures ∙ c.if-is_held.false)) false

pub returns-else-is_held-clause-lost : goal.returns-else-is_held-clause-lost
returns-else-is_held-clause-lost c w k =
    let f = facts c.args.table.now in
    lost_nothing (has_pair c.args.lost.now w k) (holds f w) k c.args.key true (none_holds f c.args.key c.sound.ensures (sym c.held-is_held.ensures ∙ c.if-is_held.false) w)
