use Rattle.std.proofs.Common.{◌≡◌, take}
use Rattle.spread_flags.specs.Spread.{flag}
use Rattle.task_table.specs.Tasks.{first_where}
use Rattle.task_table.proofs.blame.first_flagged.Given as goal

abbrev pub invariant-loop-key : goal.invariant-loop-key
invariant-loop-key l = l.found ≡ first_where (flag l.flags) (take l.key-index l.keys)
