use Rattle.std.proofs.Common.{◌≡◌, ℕ, ◌*◌, ◌<◌, ◌≤◌, false}
use Rattle.key_sets.specs.Sets.{has}
use Rattle.key_sets.proofs.plain.PlainSet.first_in.Given as goal

abbrev pub invariant-loop-word : goal.invariant-loop-word
invariant-loop-word l = (k : ℕ) → l.start * 64 ≤ k → k < l.word * 64 → has l.self k ≡ false
