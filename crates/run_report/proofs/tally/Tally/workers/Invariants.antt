use Rattle.std.proofs.Common.{◌≡◌, map, get_or}
use Rattle.cluster_rules.specs.Functions.{from_one}
use Rattle.run_report.proofs.tally.Tally.workers.Given as goal

abbrev pub invariant-loop-number : goal.invariant-loop-number
invariant-loop-number l = l.workers ≡ map (λ i. (i, get_or l.self.starts i 0)) (from_one l.number)
