-- What is known of the states of a row once its cells are closed.
use Rattle.std.specs.Prelude.{List, Option, Bool}
use Rattle.cluster_msgs.specs.declared.events.Entry.{Entry}
use Rattle.atomic_table.specs.Seated.{TableId}
use Rattle.turn_cell.specs.Rows.{AllAt, IsClosed}

-- place by place: the state's history ascends and leads to it from the state with which its cell was made, and the state fits the label
pub record AreClosed {S C : Type 0} (entries : S → List Entry) (core : S → C) (cut : S → Bool) (steps : C → Entry → C → Type 0)
    (fits : S → Type 0) (berths : List (TableId × Option S)) (states : List S) : Type 0 where
  pub each : AllAt (λ t x. IsClosed entries core cut steps t.1 x × fits x) berths states
