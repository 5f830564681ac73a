-- With which states the cells of a run are made, and what is known of them once they are closed.
use Rattle.std.specs.Prelude.{◌≡◌, ℕ, ◌<◌, Bool, false, List, length, slice_index_or, Option, Some}
use Rattle.cluster_msgs.specs.declared.events.Entry.{Entry}
use Rattle.atomic_table.specs.Seated.{TableId}
use Rattle.turn_cell.specs.Histories.{Ascending, Replays}

-- so many cells, each made with a state of which this holds
pub record AreMade {S : Type 0} (P : ℕ → S → Type 0) (count : ℕ) (berths : List (TableId × Option S)) : Type 0 where
  pub long : length berths ≡ count
  pub each : (k : ℕ) (b : TableId × Option S) → k < length berths → (s : S) × ((slice_index_or berths k b).1 ≡ Some s) × P k s

-- the closed state of a cell that was made with a state of which this holds: its history ascends and, where no entry was left out, leads from the
-- core of that state to its own; and it fits the label
pub record HasClosed {S C : Type 0} (entries : S → List Entry) (core : S → C) (cut : S → Bool) (steps : C → Entry → C → Type 0) (fits : S → Type 0)
    (P : S → Type 0) (x : S) : Type 0 where
  pub first : S
  pub began : P first
  pub replay : cut x ≡ false → Replays steps (core first) (entries x) (core x)
  pub ascending : Ascending (entries x)
  pub fit : fits x
