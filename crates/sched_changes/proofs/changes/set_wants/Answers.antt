use Rattle.std.proofs.Common.{◌<◌, ◌≤◌, ◌∙◌, subst, sym, ap, arith, refl, get_or}
use Rattle.cluster_rules.specs.Functions.{put_pair}
use Rattle.cluster_rules.specs.Sched.{Facts, keys}
use Rattle.task_table.specs.Tasks.{facts}
use Rattle.sched_changes.proofs.ChangeLemmas.{want_none, want_next}
use Rattle.sched_changes.proofs.Following.{follows_self, follows_then, touched_none, touched_next}
use Rattle.sched_changes.proofs.changes.set_wants.Goals as goal

pub loop-key-init : goal.loop-key-init
loop-key-init c = record {
  facts = want_none (facts c.args.table.now) c.args.client c.args.to c.args.named.now;
  follows = follows_self c.args.table.now;
  named = touched_none c.args.table.now c.args.named.now;
}

pub set_want-requires : goal.set_want-requires
set_want-requires c = record {
  first = c.requires.first;
  client = subst (λ (g : Facts). c.args.client ≤ g.setting.clients) (sym c.loop-key.invariant.facts) c.requires.client;
  key = subst (λ (g : Facts). get_or c.args.named.now c.loop-key.key-index 0 < keys g) (sym c.loop-key.invariant.facts) (c.requires.keys c.loop-key.key-index 0 (omega arith));
}

pub loop-key-preserved : goal.loop-key-preserved
loop-key-preserved c =
    let x = get_or c.args.named.now c.loop-key.key-index 0 in
    record {
      facts = c.set_want.ensures.facts ∙ ap (λ (g : Facts). record g { want = put_pair g.want c.args.client x c.args.to }) c.loop-key.invariant.facts ∙ want_next (facts c.args.table.now) c.args.client c.args.to c.args.named.now c.loop-key.key-index x (omega arith) refl;
      follows = follows_then c.args.table.now c.loop-key.table c.set_want.new.table c.loop-key.invariant.follows c.set_want.ensures.follows;
      named = touched_next c.loop-key.table c.set_want.new.table c.args.named.now c.loop-key.key-index x (omega arith) refl c.set_want.ensures.follows c.set_want.ensures.named c.loop-key.invariant.named;
    }
