use Rattle.std.proofs.Common.{◌≡◌, ◌^◌, ◌+◌, ◌*◌}
use Rattle.balance_policy.proofs.Levels.{AllBelow}
use Rattle.balance_policy.proofs.level.level.Given as goal

abbrev pub invariant-loop-n : goal.invariant-loop-n
invariant-loop-n l = (l.moved ≡ 2 ^ l.n * (l.work + 1)) × AllBelow l.bytes l.work l.n
