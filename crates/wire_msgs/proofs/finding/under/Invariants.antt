use Rattle.std.proofs.Common.{◌≡◌, drop}
use Rattle.wire_msgs.specs.Finding.{under}
use Rattle.wire_msgs.specs.Seen.{seen}
use Rattle.wire_msgs.proofs.finding.under.Given as goal

abbrev pub invariant-loop-pair : goal.invariant-loop-pair
invariant-loop-pair l = under l.field (seen (drop l.pair-index l.pairs)) ≡ under l.field (seen l.pairs)
