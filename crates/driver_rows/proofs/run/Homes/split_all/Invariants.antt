use Rattle.std.proofs.Common.{◌≡◌, ◌+◌, ◌≤◌, vec_len}
use Rattle.driver_rows.proofs.run.Homes.split_all.Given as goal

abbrev pub invariant-loop-homes : goal.invariant-loop-homes
invariant-loop-homes g l = (1 ≤ l.homes.parts) × (l.homes.parts + vec_len l.drivers ≡ l.fn.self.parts)

abbrev pub decreases-loop-homes : goal.decreases-loop-homes
decreases-loop-homes g l = l.homes.parts
