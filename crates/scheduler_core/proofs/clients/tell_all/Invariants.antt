use Rattle.std.proofs.Common.{◌≡◌, ◌++◌}
use Rattle.std.specs.List.{flat_map, filter_map, range_with_len}
use Rattle.sched_facts.specs.Stored.{facts_of}
use Rattle.scheduler_core.specs.News.{heard}
use Rattle.scheduler_core.proofs.clients.tell_all.Given as goal

abbrev pub invariant-loop-before : goal.invariant-loop-before
invariant-loop-before l = l.out ≡ l.fn.out ++ flat_map (λ c. filter_map (heard (facts_of l.table) c) l.news) (range_with_len 1 l.before)
