use Rattle.std.proofs.Common.{◌≡◌, ℕ, get_or, None}
use Rattle.node_states.proofs.blocks.Blocks.new.Given as goal

abbrev pub invariant-loop : goal.invariant-loop
invariant-loop g l = (k : ℕ) → get_or l.held.items k None ≡ None
