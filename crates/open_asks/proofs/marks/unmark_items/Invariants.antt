use Rattle.std.proofs.Common.{◌≡◌, ◌<◌, ◌&&◌, not, ℕ, false, length, take, get_or}
use Rattle.std.specs.Prelude.{◌==◌}
use Rattle.std.specs.List.{list_any}
use Rattle.open_asks.proofs.marks.unmark_items.Given as goal

abbrev pub invariant-loop-item : goal.invariant-loop-item
invariant-loop-item l = record {
  marked : (k : ℕ) → k < length l.fn.row → get_or l.row k false ≡ (get_or l.fn.row k false && not (list_any (λ (i : ℕ × ℕ). i.0 == k) (take l.item-index l.items)));
  long : length l.row ≡ length l.fn.row;
}
