-- all before are alive
use Rattle.std.proofs.Common.{◌≡◌, ℕ, ◌<◌, ◌+◌, true}
use Rattle.cluster_world.proofs.progress.some_died.Given as goal

abbrev pub invariant-loop-before : goal.invariant-loop-before
invariant-loop-before g l = (n : ℕ) → n < l.before → (g.C.Choices.world l.world).alive (n + 1) ≡ true
