use Rattle.std.proofs.Common.{◌≡◌, ℕ, take, map}
use Rattle.open_asks.proofs.items.keys_of.Given as goal

abbrev pub invariant-loop-item : goal.invariant-loop-item
invariant-loop-item l = l.keys.items ≡ map (λ (i : ℕ × ℕ). i.0) (take l.item-index l.items)
