use Rattle.std.proofs.Common.{◌≡◌, ◌++◌, take}
use Rattle.job_run.proofs.wanted.push_keys.Given as goal

abbrev pub invariant-loop-key : goal.invariant-loop-key
invariant-loop-key l = l.all.items ≡ l.initial.all.items ++ take l.key-index l.keys
