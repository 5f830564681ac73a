use Rattle.std.proofs.Common.{◌≡◌, ◌<◌, ◌&&◌, not, ℕ, false, length, take, get_or}
use Rattle.std.specs.List.{list_any}
use Rattle.open_asks.specs.Flying.{names_to}
use Rattle.open_asks.proofs.marks.unmark_asked.Given as goal

abbrev pub invariant-loop-ask : goal.invariant-loop-ask
invariant-loop-ask l = record {
  marked : (k : ℕ) → k < length l.fn.row → get_or l.row k false ≡ (get_or l.fn.row k false && not (list_any (names_to l.peer k) (take l.ask-index l.asks)));
  long : length l.row ≡ length l.fn.row;
}
