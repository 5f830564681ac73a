use Rattle.std.proofs.Common.{◌≡◌, None, take, get_or}
use Rattle.sched_facts.specs.Derived.{first_some}
use Rattle.sched_facts.proofs.derived.first_blame.Given as goal

abbrev pub invariant-loop-key : goal.invariant-loop-key
invariant-loop-key l = l.found ≡ first_some (λ k. get_or l.row k None) (take l.key-index l.keys)
