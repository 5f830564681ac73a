use Rattle.std.proofs.Common.{◌≡◌, ℕ, zero, suc, ◌<◌, List, [], ◌∷◌, length, refl, ap, sym, arith}
use Rattle.std.specs.Prelude.{Contains}
use Rattle.nd_grid.specs.Grid.{IsTranspose}
use Rattle.array_table.proofs.blocks.put_turned.Goals as goal

has_both : (a : ℕ) → a < 2 → Contains (1 ∷ 0 ∷ []) a
has_both zero h = (1, omega arith, refl)
has_both (suc zero) h = (0, omega arith, refl)
has_both (suc (suc a)) h = absurd (omega arith)

swapped : (ns : List ℕ) → length ns ≡ 2 → IsTranspose (1 ∷ 0 ∷ []) (length ns)
swapped ns e = record { number = sym e; each = λ a h. has_both a (omega arith) }

pub transpose-requires-clause-axes : goal.transpose-requires-clause-axes
transpose-requires-clause-axes c = swapped c.args.table.now.shape (ap length c.requires)
