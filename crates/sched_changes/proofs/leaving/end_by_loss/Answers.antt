use Rattle.std.proofs.Common.{◌≡◌, ◌+◌, ◌<◌, ◌^◌, ◌||◌, None, subst, sym, ap, ◌∙◌}
use Rattle.cluster_rules.specs.Functions.{put}
use Rattle.cluster_rules.specs.Sched.{Facts, keys, is_above}
use Rattle.task_table.specs.Tasks.{facts}
use Rattle.sched_changes.proofs.Following.{follows_then}
use Rattle.sched_changes.proofs.leaving.end_by_loss.Goals as goal

pub make-requires-2 : goal.make-requires-2
make-requires-2 c = record {
  key = subst (λ (g : Facts). c.args.key < keys g) (sym c.make.ensures.facts) c.requires.key;
  room = subst (λ (g : Facts). g.losses c.args.key < 2 ^ 31) (sym c.make.ensures.facts) c.requires.room;
}

pub fail_where-requires : goal.fail_where-requires
fail_where-requires c = subst (λ (g : Facts). c.args.key < keys g) (sym (c.make-2.ensures.facts ∙ ap (λ (g : Facts). record g { losses = put g.losses c.args.key (g.losses c.args.key + 1) }) c.make.ensures.facts)) c.requires.key

pub returns : goal.returns
returns c =
    let f = facts c.args.table.now in
    let k = c.args.key in
    let counted : facts c.make-2.new.table ≡ record f { on = put f.on k None; steal = put f.steal k None; losses = put f.losses k (f.losses k + 1) }
    = c.make-2.ensures.facts ∙ ap (λ (g : Facts). record g { losses = put g.losses k (g.losses k + 1) }) c.make.ensures.facts in
    let often = c.is_above-is_too_often.ensures ∙ ap (λ n. is_above c.allowed_of.result (n + 1)) c.losses_of-losses.ensures ∙ ap (λ o. is_above o (f.losses k + 1)) c.allowed_of.ensures in
    record {
      facts = c.fail_where.ensures.facts ∙ ap (λ (g : Facts). record g { bad = put g.bad k (g.bad k || c.is_above-is_too_often.result) }) counted
          ∙ ap (λ b. record f { on = put f.on k None; steal = put f.steal k None; losses = put f.losses k (f.losses k + 1); bad = put f.bad k (f.bad k || b) }) often;
      follows = follows_then c.args.table.now c.make-2.new.table c.fail_where.new.table (follows_then c.args.table.now c.make.new.table c.make-2.new.table c.make.ensures.follows c.make-2.ensures.follows) c.fail_where.ensures.follows;
    }
