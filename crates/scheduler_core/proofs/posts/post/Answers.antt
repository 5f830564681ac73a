use Rattle.std.proofs.Common.{◌<◌, ◌≤◌, ℕ, List, All, subst, sym, ap, ◌∙◌}
use Rattle.cluster_rules.specs.Sched.{Facts, keys}
use Rattle.task_table.specs.Tasks.{facts}
use Rattle.sched_changes.proofs.Following.{follows_then}
use Rattle.scheduler_core.specs.Posted.{posted_one, fenced, taken_keys}
use Rattle.scheduler_core.proofs.posts.post.Goals as goal

pub make-requires : goal.make-requires
make-requires c = record { worker = c.requires.worker; room = c.requires.room }

pub raise_fences-requires-clause-worker : goal.raise_fences-requires-clause-worker
raise_fences-requires-clause-worker c = subst (λ (g : Facts). c.args.message.now.0 ≤ g.last_worker) (sym c.make.ensures.facts) c.requires.worker

pub raise_fences-requires-clause-keys : goal.raise_fences-requires-clause-keys
raise_fences-requires-clause-keys c = subst (λ (ks : List ℕ). All (λ k. k < keys (facts c.make.new.table)) ks) (sym c.taken_keys.ensures) (subst (λ (g : Facts). All (λ k. k < keys g) (taken_keys c.args.message.now.1)) (sym c.make.ensures.facts) c.requires.keys)

pub returns : goal.returns
unfolding posted_one
returns c = record {
  facts = c.raise_fences.ensures.facts ∙ ap (λ (ks : List ℕ). fenced (facts c.make.new.table) c.args.message.now.0 ks) c.taken_keys.ensures ∙ ap (λ (g : Facts). fenced g c.args.message.now.0 (taken_keys c.args.message.now.1)) c.make.ensures.facts;
  follows = follows_then c.args.table.now c.make.new.table c.raise_fences.new.table c.make.ensures.follows c.raise_fences.ensures.follows;
}
