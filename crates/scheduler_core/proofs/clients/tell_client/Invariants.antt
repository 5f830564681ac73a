use Rattle.std.proofs.Common.{◌≡◌, ◌++◌, take}
use Rattle.std.specs.List.{filter_map}
use Rattle.sched_facts.specs.Stored.{facts_of}
use Rattle.scheduler_core.specs.News.{heard}
use Rattle.scheduler_core.proofs.clients.tell_client.Given as goal

abbrev pub invariant-loop-one : goal.invariant-loop-one
invariant-loop-one l = l.out ≡ l.fn.out ++ filter_map (heard (facts_of l.table) l.client) (take l.one-index l.news)
