use Rattle.std.proofs.Common.{◌≡◌, ◌+◌, vec_len}
use Rattle.driver_rows.proofs.run.Homes.join_all.Given as goal

abbrev pub invariant-loop-driver : goal.invariant-loop-driver
invariant-loop-driver g l = l.homes.parts + vec_len l.drivers ≡ l.fn.self.parts + vec_len l.fn.drivers

abbrev pub decreases-loop-driver : goal.decreases-loop-driver
decreases-loop-driver g l = vec_len l.drivers
