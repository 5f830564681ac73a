use Rattle.std.proofs.Common.{◌≡◌, ℕ, length}
use Rattle.node_states.specs.Spills.{HearsOf}
use Rattle.node_states.proofs.holding.hear_of.Given as goal

abbrev pub invariant-news : goal.invariant-news
invariant-news g l = record {
  aside : (q : ℕ) → (g.S.BlockStore.stock l.store).aside q ≡ (g.S.BlockStore.stock l.fn.store).aside q;
  heard : HearsOf (g.S.BlockStore.stock l.fn.store) l.fn.known (g.S.BlockStore.stock l.store) l.known;
  keys : l.known.keys ≡ l.fn.known.keys;
}

abbrev pub decreases-news : goal.decreases-news
decreases-news g l = length (g.S.BlockStore.stock l.store).news
