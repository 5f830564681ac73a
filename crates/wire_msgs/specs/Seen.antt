-- The pairs of a map as data.
use Rattle.std.specs.Prelude.{List, map}
use Rattle.msgpack_frames.specs.Data.{Data}
use Rattle.msgpack_frames.specs.View.{view}
use Rattle.msgpack_frames.specs.declared.value.Value.{Value}

abbrev pub seen_pair : Value × Value → Data × Data
seen_pair p = (view p.0, view p.1)

abbrev pub seen : List (Value × Value) → List (Data × Data)
seen ps = map seen_pair ps
