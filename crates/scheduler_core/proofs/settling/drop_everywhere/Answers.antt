use Rattle.std.proofs.Common.{◌<◌, ◌+◌, ◌&&◌, ◌||◌, None, subst, sym, ap, ◌∙◌, arith}
use Rattle.std.proofs.Math.Dec.{eqb}
use Rattle.cluster_rules.specs.Functions.{put_pair}
use Rattle.cluster_rules.specs.Sched.{Facts, keys, holds}
use Rattle.task_table.specs.Tasks.{facts}
use Rattle.sched_changes.specs.Pairs.{has_pair}
use Rattle.scheduler_core.proofs.DropLemmas.{copies_none, copies_more, copies_all, setting_copies, lost_workers_more, lost_workers_none, lost_workers_all}
use Rattle.sched_changes.proofs.Following.{follows_self, follows_then}
use Rattle.scheduler_core.proofs.settling.drop_everywhere.Goals as goal

pub loop-before-init : goal.loop-before-init
loop-before-init c = let f = facts c.args.table.now in record { facts = copies_none c.args.key f; lost = lost_workers_none c.args.key f (has_pair c.args.lost.now); follows = follows_self c.args.table.now }

pub drop_at-requires : goal.drop_at-requires
drop_at-requires c =
    let f = facts c.args.table.now in
    subst (λ (g : Facts). c.args.key < keys g) (sym c.loop-before.invariant.facts) (subst (λ n. c.args.key < n) (sym (setting_copies c.args.key f c.loop-before.before)) c.requires)

pub loop-before-preserved : goal.loop-before-preserved
loop-before-preserved c =
    let f = facts c.args.table.now in
    let k = c.args.key in
    let m = c.loop-before.before in
    record {
      facts = c.in_ok-drop_at.ensures.facts ∙ ap (λ (g : Facts). record g { has = put_pair g.has (m + 1) k None }) c.loop-before.invariant.facts ∙ copies_more k f m;
      lost = lost_workers_more k f m (has_pair c.args.lost.now) (has_pair c.loop-before.lost) (has_pair c.drop_at.new.lost) c.loop-before.invariant.lost
          (λ w j. c.in_ok-drop_at.ensures.lost w j ∙ ap (λ (g : Facts). has_pair c.loop-before.lost w j || (holds g w j && (eqb w (m + 1) && eqb j k))) c.loop-before.invariant.facts);
      follows = follows_then c.args.table.now c.loop-before.table c.drop_at.new.table c.loop-before.invariant.follows c.drop_at.ensures.follows;
    }

pub returns-clause-facts : goal.returns-clause-facts
returns-clause-facts c =
    let f = facts c.args.table.now in
    c.loop-before.invariant.facts ∙ copies_all c.args.key f c.loop-before.before c.sound.ensures (omega (arith, c.last_worker-before-end.ensures))

pub returns-clause-lost : goal.returns-clause-lost
returns-clause-lost c w j =
    let f = facts c.args.table.now in
    c.loop-before.invariant.lost w j ∙ lost_workers_all c.args.key f c.loop-before.before (has_pair c.args.lost.now) c.sound.ensures (omega (arith, c.last_worker-before-end.ensures)) w j
