-- Members read and written one after the other, as a loop does.
use Rattle.std.proofs.Common.{◌≡◌, ◌≢◌, List, [], ◌∷◌, ◌++◌, length, None, Result, Ok, Err, refl, ap, sym, append_assoc}
use Rattle.msgpack_frames.specs.View.{items_view}
use Rattle.msgpack_frames.specs.declared.value.Value.{Value}
use Rattle.wire_msgs.specs.declared.error.PartError.{PartError}
use Rattle.wire_msgs.specs.Parts.{with_first, two_of}

pub two_of-other : (vs : List Value) → length vs ≢ 2 → two_of (items_view vs) ≡ None
two_of-other [] ne = refl
two_of-other (v ∷ []) ne = refl
two_of-other (v ∷ w ∷ []) ne = absurd (ne refl)
two_of-other (v ∷ w ∷ u ∷ vs) ne = refl

-- what was read before, and what is still read
abbrev pub after : {X : Type 0} → List X → Result (List X) PartError → Result (List X) PartError
after xs (Ok ys) = Ok (xs ++ ys)
after xs (Err e) = Err e

pub after-none : {X : Type 0} (r : Result (List X) PartError) → after [] r ≡ r
after-none (Ok xs) = refl
after-none (Err e) = refl

pub after-push : {X : Type 0} (xs : List X) (x : X) (r : Result (List X) PartError) → after xs (with_first (Ok x) r) ≡ after (xs ++ x ∷ []) r
after-push xs x (Ok ys) = ap Ok (sym (append_assoc xs (x ∷ []) ys))
after-push xs x (Err e) = refl
