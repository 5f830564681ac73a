use Rattle.std.proofs.Common.{◌≡◌, ◌-◌, ◌≤◌}
use Rattle.std.specs.List.{filter_map}
use Rattle.std.specs.Option.{option_map}
use Rattle.cluster_rules.specs.Derived.{below}
use Rattle.cluster_rules.specs.Sched.{keys}
use Rattle.task_table.specs.Tasks.{facts}
use Rattle.scheduler_core.specs.News.{news_of, was_held, was_erred}
use Rattle.scheduler_core.proofs.news.all_news.Given as goal

abbrev pub invariant-loop-key : goal.invariant-loop-key
invariant-loop-key l = record {
  news : l.all ≡ filter_map (λ k. option_map (λ n. (k, n)) (news_of (facts l.table) (was_held l.table l.asked) (was_erred l.table l.asked) k)) (below l.from);
  within : l.from ≤ keys (facts l.table);
}

abbrev pub decreases-loop-key : goal.decreases-loop-key
decreases-loop-key l = keys (facts l.table) - l.from
