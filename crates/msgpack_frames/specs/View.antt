-- The data that a `Value` stands for.
use Rattle.std.specs.Prelude.{List, [], ◌∷◌, map, string_bytes}
use Rattle.msgpack_frames.specs.Data.{Data, nil, boolean, integer, text, binary, array, dictionary, Items, no_items, item, Pairs, no_pairs, pair}
use Rattle.msgpack_frames.specs.declared.value.Value.{Value, fold-Value}
use Rattle.msgpack_frames.specs.declared.value.Value.TheOpen.{Value-F}

abbrev pub items_of : List Data → Items
items_of [] = no_items
items_of (d ∷ ds) = item d (items_of ds)

abbrev pub pairs_of : List (Data × Data) → Pairs
pairs_of [] = no_pairs
pairs_of (p ∷ ps) = pair p.0 p.1 (pairs_of ps)

-- one level, with each value inside already seen as its data
abbrev pub view_step : Value-F Data → Data
view_step Value-F.Nil = nil
view_step (Value-F.Bool b) = boolean b
view_step (Value-F.Int n) = integer n
view_step (Value-F.Str s) = text (string_bytes s)
view_step (Value-F.Bin v) = binary v.items
view_step (Value-F.Array v) = array (items_of v.items)
view_step (Value-F.Map v) = dictionary (pairs_of v.items)

abbrev pub view : Value → Data
view = fold-Value Data view_step

abbrev pub items_view : List Value → Items
items_view vs = items_of (map view vs)

abbrev pub pairs_view : List (Value × Value) → Pairs
pairs_view ps = pairs_of (map (λ p. (view p.0, view p.1)) ps)
