-- The first pair at fault, as a loop seeks it.
use Rattle.std.proofs.Common.{◌≡◌, ℕ, zero, suc, ◌+◌, ◌<◌, ◌⊎◌, List, length, take, get_or, Option, Some, None, refl, inl, inr, subst, arith, add-one}
use Rattle.std.proofs.Math.Nat.{eq-or-lt_of_le}
use Rattle.std.proofs.lemmas.List.{take-map}
use Rattle.std.proofs.lemmas.Option.{slice_get-map}
use Rattle.std.specs.List.{find}
use Rattle.small_facts.proofs.Options.{slice_get_at}
use Rattle.msgpack_frames.specs.Data.{Data}
use Rattle.msgpack_frames.specs.declared.value.Value.{Value}
use Rattle.wire_msgs.specs.declared.field.Field.{Field}
use Rattle.wire_msgs.specs.declared.operation.Operation.{Operation}
use Rattle.wire_msgs.specs.Names.{fields_of}
use Rattle.wire_msgs.specs.Finding.{names, field_fault, pair_fault, fault_at, first_below}
use Rattle.wire_msgs.specs.Seen.{seen, seen_pair}

pub pair_fault-named : (op : Operation) (i : ℕ) (earlier : List (Data × Data)) (key value : Data) (f : Field) → find (λ g. names g key) (fields_of op) ≡ Some f → pair_fault op i earlier (key, value) ≡ field_fault f earlier value
unfolding pair_fault
pair_fault-named op i earlier key value f h = rw h refl

pub fault_at-seen : (op : Operation) (ps : List (Value × Value)) (i : ℕ) (p : Value × Value) → i < length ps → p ≡ get_or ps i p → fault_at op (seen ps) i ≡ pair_fault op i (seen (take i ps)) (seen_pair p)
unfolding fault_at
fault_at-seen op ps i p lt h = rw (slice_get-map seen_pair ps i, slice_get_at ps i p lt h, take-map seen_pair i ps) refl

pub first_below-next : {X : Type 0} (f : ℕ → Option X) (i : ℕ) → first_below f i ≡ None → f i ≡ None → first_below f (i + 1) ≡ None
first_below-next f i before here = rw (add-one, before, here) refl

at_or_before : {X : Type 0} (f : ℕ → Option X) (n i : ℕ) (x : X) → first_below f i ≡ None → f i ≡ Some x → (i < n → first_below f n ≡ Some x) → (i ≡ n) ⊎ (i < n) → first_below f (suc n) ≡ Some x
at_or_before f n i x before here earlier (inl same) =
    let none : first_below f n ≡ None = subst (λ k. first_below f k ≡ None) same before in
    let some : f n ≡ Some x = subst (λ k. f k ≡ Some x) same here in
    rw (none, some) refl
at_or_before f n i x before here earlier (inr lt) = rw (earlier lt) refl

pub first_below-at : {X : Type 0} (f : ℕ → Option X) (n i : ℕ) (x : X) → first_below f i ≡ None → f i ≡ Some x → i < n → first_below f n ≡ Some x
first_below-at f zero i x before here lt = absurd (omega arith)
first_below-at f (suc n) i x before here lt = at_or_before f n i x before here (first_below-at f n i x before here) (eq-or-lt_of_le (omega arith))
