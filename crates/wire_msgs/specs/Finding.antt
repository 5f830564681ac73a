-- What stands in a map's pairs, and which of them are at fault.
use Rattle.std.specs.Prelude.{ℕ, zero, suc, List, [], ◌∷◌, Bool, false, cond, take, Option, Some, None, is_some, Result, slice_get, option_and_then}
use Rattle.std.specs.List.{find}
use Rattle.std.specs.Map.{lookup}
use Rattle.std.specs.Option.{option_map, option_or}
use Rattle.std.specs.Result.{result_err}
use Rattle.std.specs.Str.{bytes_eq}
use Rattle.msgpack_frames.specs.Data.{Data, text, Pairs, no_pairs, pair}
use Rattle.wire_msgs.specs.declared.field.Field.{Field}
use Rattle.wire_msgs.specs.declared.field.Field.TheVariants as field
use Rattle.wire_msgs.specs.declared.operation.Operation.{Operation}
use Rattle.wire_msgs.specs.declared.error.PartError.{PartError}
use Rattle.wire_msgs.specs.declared.error.WireError.{WireError}
use Rattle.wire_msgs.specs.declared.error.WireError.TheVariants as wire
use Rattle.wire_msgs.specs.Answers.{at}
use Rattle.wire_msgs.specs.Names.{name, fields_of}
use Rattle.wire_msgs.specs.Parts.{key_in, count_in, truth_in, role_in, list_in, pair_in}

abbrev pub pair_list : Pairs → List (Data × Data)
pair_list no_pairs = []
pair_list (pair k v ps) = (k, v) ∷ pair_list ps

-- whether a key is the name of this field
abbrev pub names : Field → Data → Bool
names f (text t) = bytes_eq t (name f)
names f _ = false

-- what stands first under this field
abbrev pub under : Field → List (Data × Data) → Option Data
under f ps = lookup (names f) ps

-- lists as contents of fields
abbrev pub keys_in : Data → Result (List ℕ) PartError
keys_in = list_in key_in

abbrev pub holders_in : Data → Result (List (ℕ × ℕ)) PartError
holders_in = list_in (pair_in key_in count_in)

abbrev pub who_has_in : Data → Result (List (ℕ × List (ℕ × ℕ))) PartError
who_has_in = list_in (pair_in key_in holders_in)

-- why what stands under this field is no content of it: what the text under `op` names is asked for first of all
unfoldable pub flaw_of : Field → Data → Option PartError
flaw_of field.Op d = None
flaw_of field.Seen d = result_err (count_in d)
flaw_of field.Key d = result_err (key_in d)
flaw_of field.Attempt d = result_err (count_in d)
flaw_of field.WhoHas d = result_err (who_has_in d)
flaw_of field.Keys d = result_err (keys_in d)
flaw_of field.Holder d = result_err (key_in d)
flaw_of field.Copy d = result_err (count_in d)
flaw_of field.Yes d = result_err (truth_in d)
flaw_of field.Holders d = result_err (holders_in d)
flaw_of field.Blame d = result_err (key_in d)
flaw_of field.Ask d = result_err (count_in d)
flaw_of field.Found d = result_err (keys_in d)
flaw_of field.Role d = result_err (role_in d)
flaw_of field.Id d = result_err (key_in d)

-- what is wrong with this field, after the pairs before it
unfoldable pub field_fault : Field → List (Data × Data) → Data → Option WireError
field_fault f earlier d = cond (is_some (under f earlier)) (Some (wire.Repeated f)) (option_map (at f) (flaw_of f d))

abbrev pub named_fault : Option Field → ℕ → List (Data × Data) → Data → Option WireError
named_fault None i earlier d = Some (wire.Unknown i)
named_fault (Some f) i earlier d = field_fault f earlier d

-- what is wrong with a pair, by its place and the pairs before it
unfoldable pub pair_fault : Operation → ℕ → List (Data × Data) → Data × Data → Option WireError
pair_fault op i earlier p = named_fault (find (λ f. names f p.0) (fields_of op)) i earlier p.1

-- what is wrong with the pair at a place
unfoldable pub fault_at : Operation → List (Data × Data) → ℕ → Option WireError
fault_at op ps i = option_and_then (pair_fault op i (take i ps)) (slice_get ps i)

-- the first that there is below n
abbrev pub first_below : {X : Type 0} → (ℕ → Option X) → ℕ → Option X
first_below f zero = None
first_below f (suc n) = option_or (first_below f n) (f n)
