use Rattle.std.proofs.Common.{sym, ap, ◌∙◌, take, get_or}
use Rattle.std.proofs.lemmas.List.{take_more}
use Rattle.cluster_rules.specs.Functions.{put_pair}
use Rattle.cluster_rules.specs.Sched.{Facts}
use Rattle.task_table.specs.Tasks.{facts}
use Rattle.sched_changes.proofs.Following.{follows_self, follows_then}
use Rattle.scheduler_core.specs.Posted.{fenced}
use Rattle.scheduler_core.proofs.PostLemmas.{fenced-nil, fenced-push, last-fenced, keys-fenced}
use Rattle.scheduler_core.proofs.posts.raise_fences.Goals as goal

pub loop-key-init : goal.loop-key-init
loop-key-init c = record { facts = sym (fenced-nil (facts c.args.table.now) c.args.worker); follows = follows_self c.args.table.now }

pub make-requires : goal.make-requires
make-requires c = record {
  worker = rw (c.loop-key.invariant.facts, last-fenced) c.requires.worker;
  key = rw (c.loop-key.invariant.facts, keys-fenced) (c.requires.keys c.loop-key.key-index 0 c.loop-key-test.true);
}

pub loop-key-preserved : goal.loop-key-preserved
loop-key-preserved c =
    let f = facts c.args.table.now in
    let w = c.args.worker in
    let ks = c.args.taken.now in
    let i = c.loop-key.key-index in
    record {
      facts = c.make.ensures.facts ∙ ap (λ (g : Facts). record g { fence = put_pair g.fence w (get_or ks i 0) (g.sent w) }) c.loop-key.invariant.facts ∙ sym (fenced-push f w (take i ks) (get_or ks i 0)) ∙ ap (fenced f w) (sym (take_more ks i 0 c.loop-key-test.true));
      follows = follows_then c.args.table.now c.loop-key.table c.make.new.table c.loop-key.invariant.follows c.make.ensures.follows;
    }
