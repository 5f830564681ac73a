-- What a stored graph keeps.
use Rattle.std.specs.Prelude.{◌≡◌, ℕ, map, List, [], ◌∷◌, ◌++◌, length, Option, Some, None, Result, Ok, Err}
use Rattle.std.specs.Arc.{arc_value}
use Rattle.std.specs.declared.sync.Arc.{Arc}
use Rattle.std.specs.declared.alloc.Global.{Global}
use Rattle.std.specs.declared.vec.Vec.{Vec}
use Rattle.cluster_msgs.specs.Shape.{Shape, IsShape, Follows, edge_count}
use Rattle.cluster_msgs.specs.declared.shape.GraphRow.{GraphRow}
use Rattle.cluster_msgs.specs.declared.shape.RowsError.{RowsError}
use Rattle.cluster_msgs.specs.declared.shape.RowsError.TheVariants.{Unfit, OutOfMemory}
use Rattle.cluster_msgs.specs.declared.shape.GraphShape.TheInside.{Inside}

-- the rows that copies of a graph share: none before the first key
abbrev pub rows_of : Option (Arc (Vec GraphRow Global) Global) → List GraphRow
rows_of None = []
rows_of (Some shared) = (arc_value shared).items

-- the shape that rows tell
abbrev pub told : List GraphRow → Shape
told rows = record { deps = map (λ (r : GraphRow). r.deps) rows; work = map (λ (r : GraphRow). r.work) rows; nbytes = map (λ (r : GraphRow). r.nbytes) rows }

-- its bounds, and the counted dependencies
pub record IsStored (s : Inside) : Type 0 where
  pub shape : IsShape (told (rows_of s.rows))
  pub edges : s.edge_total ≡ edge_count (told (rows_of s.rows))

-- the row of this key is the first that can't follow those before it
pub record IsUnfit (rows : List GraphRow) (key : ℕ) : Type 0 where
  pub before : List GraphRow
  pub row : GraphRow
  pub after : List GraphRow
  pub whole : rows ≡ before ++ row ∷ after
  pub place : key ≡ length before
  pub fits : IsShape (told before)
  pub unfit : Follows (told before) row.deps row.work row.nbytes → ⊥

-- what rows make: their graph, or the first row that no graph has at its place
abbrev pub IsMadeOf : List GraphRow → Result Shape RowsError → Type 0
IsMadeOf rows (Ok g) = g ≡ told rows
IsMadeOf rows (Err (Unfit key)) = IsUnfit rows key
IsMadeOf rows (Err OutOfMemory) = Unit {0}
