-- How the content of a field is written as a value, and read from one.
use Rattle.std.specs.Prelude.{ℕ, ◌^◌, ◌∷◌, [], Bool, List, pos, negsuc, cond, nat_lt, Option, Some, None, Result, Ok, Err, codes, map}
use Rattle.msgpack_frames.specs.Data.{Data, boolean, integer, text, array, Items, no_items, item}
use Rattle.msgpack_frames.specs.View.{items_of}
use Rattle.std.specs.List.{find}
use Rattle.std.specs.Option.{ok_or}
use Rattle.std.specs.Str.{bytes_eq}
use Rattle.cluster_msgs.specs.declared.messages.Role.{Role}
use Rattle.cluster_msgs.specs.declared.messages.Role.TheVariants.{Scheduler, Worker, Client}
use Rattle.wire_msgs.specs.declared.error.PartError.{PartError}
use Rattle.wire_msgs.specs.declared.error.PartError.TheVariants.{WrongType, Range}

-- a number that isn't negative
abbrev pub natural : Data → Result ℕ PartError
natural (integer (pos n)) = Ok n
natural (integer (negsuc n)) = Err Range
natural _ = Err WrongType

abbrev pub below : ℕ → Result ℕ PartError → Result ℕ PartError
below bound (Ok n) = cond (nat_lt n bound) (Ok n) (Err Range)
below bound (Err e) = Err e

-- a key, a worker, a client: a number of 32 bits
unfoldable pub key_in : Data → Result ℕ PartError
key_in d = below (2 ^ 32) (natural d)

-- an attempt, a copy, a count: a number of 64 bits
unfoldable pub count_in : Data → Result ℕ PartError
count_in d = below (2 ^ 64) (natural d)

abbrev pub number : ℕ → Data
number n = integer (pos n)

abbrev pub truth_in : Data → Result Bool PartError
truth_in (boolean b) = Ok b
truth_in _ = Err WrongType

abbrev pub with_first : {X : Type 0} → Result X PartError → Result (List X) PartError → Result (List X) PartError
with_first (Ok x) (Ok xs) = Ok (x ∷ xs)
with_first (Ok x) (Err e) = Err e
with_first (Err e) rest = Err e

-- the members in order, or the first that is none
abbrev pub members_in : {X : Type 0} → (Data → Result X PartError) → Items → Result (List X) PartError
members_in one no_items = Ok []
members_in one (item d ds) = with_first (one d) (members_in one ds)

abbrev pub list_in : {X : Type 0} → (Data → Result X PartError) → Data → Result (List X) PartError
list_in one (array ds) = members_in one ds
list_in one _ = Err WrongType

abbrev pub list_data : {X : Type 0} → (X → Data) → List X → Data
list_data one xs = array (items_of (map one xs))

abbrev pub both : {X Y : Type 0} → Result X PartError → Result Y PartError → Result (X × Y) PartError
both (Ok x) (Ok y) = Ok (x, y)
both (Ok x) (Err e) = Err e
both (Err e) other = Err e

abbrev pub two_of : Items → Option (Data × Data)
two_of (item a (item b no_items)) = Some (a, b)
two_of _ = None

abbrev pub each_in : {X Y : Type 0} → (Data → Result X PartError) → (Data → Result Y PartError) → Option (Data × Data) → Result (X × Y) PartError
each_in first second None = Err WrongType
each_in first second (Some p) = both (first p.0) (second p.1)

abbrev pub two_in : {X Y : Type 0} → (Data → Result X PartError) → (Data → Result Y PartError) → Items → Result (X × Y) PartError
two_in first second ds = each_in first second (two_of ds)

-- an array of exactly two
abbrev pub pair_in : {X Y : Type 0} → (Data → Result X PartError) → (Data → Result Y PartError) → Data → Result (X × Y) PartError
pair_in first second (array ds) = two_in first second ds
pair_in first second _ = Err WrongType

abbrev pub pair_data : {X Y : Type 0} → (X → Data) → (Y → Data) → X × Y → Data
pair_data first second p = array (item (first p.0) (item (second p.1) no_items))

unfoldable pub role_name : Role → List ℕ
role_name Scheduler = codes "scheduler"
role_name Worker = codes "worker"
role_name Client = codes "client"

-- the role of this name
unfoldable pub role_named : List ℕ → Option Role
role_named t = find (λ r. bytes_eq t (role_name r)) (Scheduler ∷ Worker ∷ Client ∷ [])

abbrev pub role_in : Data → Result Role PartError
role_in (text t) = ok_or (role_named t) Range
role_in _ = Err WrongType

abbrev pub role_data : Role → Data
role_data r = text (role_name r)
