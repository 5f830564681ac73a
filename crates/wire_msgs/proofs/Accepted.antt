-- What an accepted value has.
use Rattle.std.proofs.Common.{◌≡◌, ℕ, zero, suc, ◌<◌, ◌⊎◌, Bool, true, false, cond, List, length, take, Some, None, Option, Result, Ok, Err, IsSome, refl, sym, ap, ◌∙◌, inl, inr, arith}
use Rattle.std.proofs.Math.Nat.{eq-or-lt_of_le}
use Rattle.std.proofs.lemmas.Option.{slice_get_within}
use Rattle.std.specs.List.{slice_get, find}
use Rattle.std.specs.Option.{option_or, option_map, is_some, ok_or}
use Rattle.std.specs.Result.{IfOk}
use Rattle.std.specs.Str.{bytes_eq}
use Rattle.small_facts.proofs.Lists.{same_bytes}
use Rattle.small_facts.proofs.Options.{none_from_is_some, find_passes}
use Rattle.cluster_msgs.specs.declared.messages.Message.{Message}
use Rattle.msgpack_frames.specs.Data.{Data, nil, boolean, integer, text, binary, array, dictionary, Pairs, no_pairs, pair}
use Rattle.msgpack_frames.specs.View.{pairs_of}
use Rattle.wire_msgs.specs.declared.error.WireError.{WireError}
use Rattle.wire_msgs.specs.declared.error.WireError.TheVariants as wire
use Rattle.wire_msgs.specs.declared.field.Field.{Field}
use Rattle.wire_msgs.specs.declared.field.Field.TheVariants as field
use Rattle.wire_msgs.specs.declared.operation.Operation.{Operation}
use Rattle.wire_msgs.specs.Answers.{Answers, at}
use Rattle.wire_msgs.specs.Fields.{operation_for, HasContents, HasNoOthers, IsMessage}
use Rattle.wire_msgs.specs.Finding.{names, under, pair_list, flaw_of, field_fault, named_fault, pair_fault, fault_at, first_below}
use Rattle.wire_msgs.specs.Messages.{operation_in, operation_of, unless_fault, by_operation, message_of, answer}
use Rattle.wire_msgs.specs.Names.{op_name, operations, operation_named, fields_of}
use Rattle.wire_msgs.proofs.Contents.{holds}

or-none : {X : Type 0} (a b : Option X) → option_or a b ≡ None → (a ≡ None) × (b ≡ None)
or-none None b h = (refl, h)
or-none (Some x) b h = absurd (cc)

below-split : {X : Type 0} (f : ℕ → Option X) (n i : ℕ) → f n ≡ None → (i < n → f i ≡ None) → (i ≡ n) ⊎ (i < n) → f i ≡ None
below-split f n i here earlier (inl same) = ap f same ∙ here
below-split f n i here earlier (inr lt) = earlier lt

-- where there is none below n, there is none at a place below n
none_below : {X : Type 0} (f : ℕ → Option X) (n : ℕ) → first_below f n ≡ None → (i : ℕ) → i < n → f i ≡ None
none_below f zero h i lt = absurd (omega arith)
none_below f (suc n) h i lt =
    let p = or-none (first_below f n) (f n) h in
    below-split f n i p.1 (none_below f n p.0 i) (eq-or-lt_of_le (omega arith))

none-cond : {X : Type 0} (b : Bool) (x : X) (o : Option X) → cond b (Some x) o ≡ None → b ≡ false
none-cond true x o h = absurd (cc)
none-cond false x o h = refl

found_one : (o : Option Field) (i : ℕ) (earlier : List (Data × Data)) (d : Data) → named_fault o i earlier d ≡ None → IsSome o
found_one None i earlier d h = absurd (cc)
found_one (Some f) i earlier d h = refl

faultless : (op : Operation) (ps : List (Data × Data)) → first_below (fault_at op ps) (length ps) ≡ None
    → (i : ℕ) (p : Data × Data) → slice_get ps i ≡ Some p → named_fault (find (λ f. names f p.0) (fields_of op)) i (take i ps) p.1 ≡ None
unfolding fault_at pair_fault
faultless op ps h i p e =
    let lt : i < length ps = slice_get_within ps i p e in
    let none : fault_at op ps i ≡ None = none_below (fault_at op ps) (length ps) h i lt in
    rw e at none

first_here : (f : Field) (earlier : List (Data × Data)) (d : Data) → field_fault f earlier d ≡ None → under f earlier ≡ None
unfolding field_fault
first_here f earlier d h = none_from_is_some (under f earlier) (none-cond (is_some (under f earlier)) (wire.Repeated f) (option_map (at f) (flaw_of f d)) h)

no_others : (op : Operation) (ps : List (Data × Data)) → first_below (fault_at op ps) (length ps) ≡ None → HasNoOthers ps op
no_others op ps h = record {
  known = λ i p e. found_one (find (λ f. names f p.0) (fields_of op)) i (take i ps) p.1 (faultless op ps h i p e);
  once = λ i p f e o.
      let none : named_fault (Some f) i (take i ps) p.1 ≡ None = rw o at (faultless op ps h i p e) in
      first_here f (take i ps) p.1 none;
}

named-op : (t : List ℕ) (o : Option Operation) (op : Operation) → operation_named t ≡ o → o ≡ Some op → t ≡ op_name op
unfolding operation_named
named-op t o op e h = same_bytes t (op_name op) (find_passes (λ x. bytes_eq t (op_name x)) operations op (e ∙ h))

op-text : (t : List ℕ) (o : Option Operation) (op : Operation) → operation_named t ≡ o → ok_or o wire.UnknownOp ≡ Ok op → t ≡ op_name op
op-text t None op e h = absurd (cc)
op-text t (Some x) op e h = let same : x ≡ op = cc in named-op t (Some x) op e (ap Some same)

operation-here : (o : Option Data) (op : Operation) → operation_in o ≡ Ok op → o ≡ Some (text (op_name op))
operation-here None op h = absurd (cc)
operation-here (Some nil) op h = absurd (cc)
operation-here (Some (boolean b)) op h = absurd (cc)
operation-here (Some (integer z)) op h = absurd (cc)
operation-here (Some (text t)) op h = ap (λ (u : List ℕ). Some (text u)) (op-text t (operation_named t) op refl h)
operation-here (Some (binary t)) op h = absurd (cc)
operation-here (Some (array ds)) op h = absurd (cc)
operation-here (Some (dictionary ps)) op h = absurd (cc)

no_fault : (ps : List (Data × Data)) (m : Message) (op : Operation) → operation_of ps ≡ Ok op → (f : Option WireError) → first_below (fault_at op ps) (length ps) ≡ f → unless_fault f (message_of op ps) ≡ Ok m → HasContents ps m × HasNoOthers ps (operation_for m)
unfolding operation_of
no_fault ps m op same (Some e) none h = absurd (cc)
no_fault ps m op same None none h =
    let held = holds op ps m h in
    let named : under field.Op ps ≡ Some (text (op_name (operation_for m))) = rw held.0 (operation-here (under field.Op ps) op same) in
    let only : HasNoOthers ps (operation_for m) = rw held.0 (no_others op ps none) in
    (record { operation = named; contents = held.1 }, only)

accepted_by : (ps : List (Data × Data)) (m : Message) (r : Result Operation WireError) → operation_of ps ≡ r → by_operation ps r ≡ Ok m → HasContents ps m × HasNoOthers ps (operation_for m)
unfolding operation_of
accepted_by ps m (Err e) same h = absurd (cc)
accepted_by ps m (Ok op) same h = no_fault ps m op same (first_below (fault_at op ps) (length ps)) refl h

pairs_of-pair_list : (ps : Pairs) → pairs_of (pair_list ps) ≡ ps
pairs_of-pair_list no_pairs = refl
pairs_of-pair_list (pair k v ps) = ap (pair k v) (pairs_of-pair_list ps)

-- an accepted value has the fields of its message, each once, and no others
pub accepted : (d : Data) (m : Message) → answer d ≡ Ok m → IsMessage d m
unfolding answer
accepted (dictionary ps) m h =
    let a = accepted_by (pair_list ps) m (operation_of (pair_list ps)) refl h in
    record { pairs = pair_list ps; map = ap dictionary (sym (pairs_of-pair_list ps)); fields = a.0; only = a.1 }
accepted nil m h = absurd (cc)
accepted (boolean b) m h = absurd (cc)
accepted (integer z) m h = absurd (cc)
accepted (text t) m h = absurd (cc)
accepted (binary t) m h = absurd (cc)
accepted (array ds) m h = absurd (cc)

pub told : (r : Result Message WireError) (d : Data) → Answers r (answer d) → IfOk r (IsMessage d)
told (Ok m) d h = accepted d m h
told (Err e) d h = tt
