-- The numbers from 1 so far.
use Rattle.std.proofs.Common.{◌≡◌}
use Rattle.cluster_rules.specs.Functions.{from_one}
use Rattle.command_words.proofs.walk.workers_at_start.Given as goal

abbrev pub invariant-loop-number : goal.invariant-loop-number
invariant-loop-number l = l.there.items ≡ from_one l.number
