use Rattle.std.proofs.Common.{ℕ, ap, ◌∙◌}
use Rattle.cluster_msgs.specs.Shape.{Shape}
use Rattle.cluster_rules.specs.Worker.{new_worker}
use Rattle.cluster_nodes.proofs.grow.add_core.Goals as goal

pub returns : goal.returns
returns c = record {
  added = c.in_ok-core.core;
  cores = c.in_ok-push.ensures.items;
  starts = c.in_ok-core.ensures.facts ∙ ap (λ (s : Shape). new_worker s c.len-id.result c.args.threads) c.in_ok-copy.ensures ∙ ap (λ (n : ℕ). new_worker c.args.shape.now n c.args.threads) (c.len-id.ensures ∙ c.args.workers.now.ok.0);
  fresh = c.in_ok-core.ensures.events;
}
