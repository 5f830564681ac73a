use Rattle.std.proofs.Common.{◌≡◌, ℕ, ◌*◌, ◌<◌, ◌≤◌, ◌-◌, false}
use Rattle.key_sets.specs.Sets.{has}
use Rattle.key_sets.proofs.plain.PlainSet.last_in.Given as goal

abbrev pub invariant-loop-done : goal.invariant-loop-done
invariant-loop-done l = (k : ℕ) → (l.end - l.done) * 64 ≤ k → k < l.end * 64 → has l.self k ≡ false
