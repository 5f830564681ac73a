use Rattle.std.proofs.Common.{◌≡◌}
use Rattle.std.specs.List.{filter_map, range_with_len}
use Rattle.std.specs.Option.{option_map}
use Rattle.sched_facts.specs.Stored.{facts_of}
use Rattle.scheduler_core.proofs.copies.holders.Given as goal

abbrev pub invariant-loop-before : goal.invariant-loop-before
invariant-loop-before l = l.all ≡ filter_map (λ w. option_map (λ c. (w, c)) ((facts_of l.table).has w l.key)) (range_with_len 1 l.before)
