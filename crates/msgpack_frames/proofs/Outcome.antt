-- The laws of reading a whole value: what `decode` promises.
use Rattle.std.proofs.Common.{◌≡◌, ℕ, ◌-◌, ◌<◌, ◌⊎◌, max, List, ◌++◌, length, take, drop, Result, Ok, Err, refl, sym, ap, subst, ◌∙◌, arith, inl, inr}
use Rattle.std.specs.Prelude.{IfOk, IfErr}
use Rattle.std.proofs.lemmas.List.{length-append, length-take, take_at, take-append-drop, append_cancel_right}
use Rattle.msgpack_frames.specs.declared.error.MpError.{MpError}
use Rattle.msgpack_frames.specs.declared.error.MpError.TheVariants as errors
use Rattle.msgpack_frames.specs.declared.value.Value.{Value}
use Rattle.msgpack_frames.specs.Data.{Data, depth, max_depth, IsShort, IsWithin}
use Rattle.msgpack_frames.specs.Encoding.{Encodes}
use Rattle.msgpack_frames.specs.View.{view}
use Rattle.msgpack_frames.specs.Reading.{Gives, value_at, outcome}
use Rattle.msgpack_frames.specs.Decoded.{IsFound, IsPlace, IsFirst, IsFinal, IsFirstFault, Refuses}
use Rattle.msgpack_frames.proofs.Numbers.{IsBytes, IsBytes-take, bind_ok, ok_is}
use Rattle.msgpack_frames.proofs.Sound.{value_takes}
use Rattle.msgpack_frames.proofs.Complete.{value_again}
use Rattle.msgpack_frames.proofs.Further.{err_is, outcome_goes}
use Rattle.msgpack_frames.proofs.Places.{outcome_place}

-- ---- what is read

outcome_found : (bytes : List ℕ) (x : Data × ℕ) → IsBytes bytes → outcome bytes ≡ Ok x → IsFound bytes x.0 x.1
unfolding outcome
outcome_found bytes x fits e =
    let a = bind_ok (value_at (length bytes) max_depth bytes) (λ y. Ok (y.0, length bytes - length y.1)) x e in
    let p = value_takes (length bytes) max_depth bytes a.0 fits a.1 in
    let len : length p.front ≡ length bytes - length a.0.1 = omega (arith, ap length p.parts, length-append p.front a.0.1) in
    let front : take (length bytes - length a.0.1) bytes ≡ p.front = ap (take (length bytes - length a.0.1)) p.parts ∙ take_at p.front a.0.1 (length bytes - length a.0.1) len in
    subst (λ (y : Data × ℕ). IsFound bytes y.0 y.1) (ok_is (a.0.0, length bytes - length a.0.1) x a.2)
    (omega arith, subst (Encodes a.0.0) (sym front) p.encodes, record { shallow = p.shallow; short = p.short })

pub is_found : (bytes : List ℕ) (r : Result (Value × ℕ) MpError) → IsBytes bytes → Gives (λ x. (view x.0, x.1)) r (outcome bytes) → IfOk r (λ x. IsFound bytes (view x.0) x.1)
is_found bytes (Ok x) fits given = outcome_found bytes (view x.0, x.1) fits given
is_found bytes (Err e) fits given = tt

-- ---- what is accepted

pub outcome_again : (d : Data) (front rest : List ℕ) → Encodes d front → IsWithin d → outcome (front ++ rest) ≡ Ok (d, length front)
unfolding outcome
outcome_again d front rest encodes within =
    let len : length (front ++ rest) - length rest ≡ length front = omega (arith, length-append front rest) in
    rw (value_again (length (front ++ rest)) max_depth d front rest encodes within.shallow within.short, len) refl

-- no front of some bytes is two values
pub one_value : (a b x y : List ℕ) (c d : Data) → IsShort c → IsShort d → Encodes c a → Encodes d b → a ++ x ≡ b ++ y → (a ≡ b) × (c ≡ d)
one_value a b x y c d short-c short-d encodes-c encodes-d same =
    let k = max (depth c) (depth d) in
    let first = value_again 0 k c a x encodes-c (omega arith) short-c in
    let second = value_again 0 k d b y encodes-d (omega arith) short-d in
    let both : (c, x) ≡ (d, y) = ok_is (c, x) (d, y) (sym first ∙ ap (value_at 0 k) same ∙ second) in
    let rest : x ≡ y = ap (λ (p : Data × List ℕ). p.1) both in
    (append_cancel_right a b x (same ∙ ap (λ (t : List ℕ). b ++ t) (sym rest)), ap (λ (p : Data × List ℕ). p.0) both)

-- ---- what is refused

short_or_not : (r : Result (Data × ℕ) MpError) → (r ≡ Err errors.Short) ⊎ (r ≡ Err errors.Short → ⊥)
short_or_not (Ok x) = inr (λ e. absurd cc)
short_or_not (Err errors.Short) = inl refl
short_or_not (Err (errors.Float at)) = inr (λ e. absurd cc)
short_or_not (Err (errors.Ext at)) = inr (λ e. absurd cc)
short_or_not (Err (errors.Reserved at)) = inr (λ e. absurd cc)
short_or_not (Err (errors.NotUtf8 at)) = inr (λ e. absurd cc)
short_or_not (Err errors.Depth) = inr (λ e. absurd cc)
short_or_not (Err errors.Limit) = inr (λ e. absurd cc)
short_or_not (Err errors.OutOfMemory) = inr (λ e. absurd cc)

-- a front of the bytes wants more, or all of them give what it gives
front_goes : (n : ℕ) (bytes : List ℕ) → (outcome (take n bytes) ≡ Err errors.Short) ⊎ (outcome bytes ≡ outcome (take n bytes))
front_goes n bytes =
    elim (short_or_not (outcome (take n bytes))) [
      | inl short ↦ inl short
      | inr going ↦ inr (ap outcome (sym (take-append-drop n bytes)) ∙ outcome_goes (drop n bytes) (take n bytes) going)
    ]

first_of_all : (bytes : List ℕ) (at : ℕ) (e : MpError) → IsBytes bytes → outcome bytes ≡ Err e → ((bs : List ℕ) → IsPlace bs e → at < length bs) → outcome (take at bytes) ≡ Err errors.Short
first_of_all bytes at e fits h within =
    elim (front_goes at bytes) [
      | inl short ↦ short
      | inr same ↦
          let place = outcome_place (take at bytes) e (IsBytes-take at bytes fits) (sym same ∙ h) in
          absurd (omega (arith, within (take at bytes) place, length-take at bytes))
    ]

is_first : (bytes : List ℕ) (e : MpError) → IsBytes bytes → outcome bytes ≡ Err e → IsFirst bytes e
is_first bytes errors.Short fits h = tt
is_first bytes (errors.Float at) fits h = first_of_all bytes at (errors.Float at) fits h (λ bs p. p.0)
is_first bytes (errors.Ext at) fits h = first_of_all bytes at (errors.Ext at) fits h (λ bs p. p.0)
is_first bytes (errors.Reserved at) fits h = first_of_all bytes at (errors.Reserved at) fits h (λ bs p. p.0)
is_first bytes (errors.NotUtf8 at) fits h = first_of_all bytes at (errors.NotUtf8 at) fits h (λ bs p. p.0)
is_first bytes errors.Depth fits h = tt
is_first bytes errors.Limit fits h = tt
is_first bytes errors.OutOfMemory fits h = tt

stays : (bytes : List ℕ) (e : MpError) → (e ≡ errors.Short → ⊥) → outcome bytes ≡ Err e → (more : List ℕ) → outcome (bytes ++ more) ≡ Err e
stays bytes e other h more = outcome_goes more bytes (λ short. other (err_is e errors.Short (sym h ∙ short))) ∙ h

is_final : (bytes : List ℕ) (e : MpError) → outcome bytes ≡ Err e → IsFinal bytes e
is_final bytes errors.Short h = λ n. elim (front_goes n bytes) [ inl short ↦ short | inr same ↦ sym same ∙ h ]
is_final bytes (errors.Float at) h = stays bytes (errors.Float at) (λ e. absurd cc) h
is_final bytes (errors.Ext at) h = stays bytes (errors.Ext at) (λ e. absurd cc) h
is_final bytes (errors.Reserved at) h = stays bytes (errors.Reserved at) (λ e. absurd cc) h
is_final bytes (errors.NotUtf8 at) h = stays bytes (errors.NotUtf8 at) (λ e. absurd cc) h
is_final bytes errors.Depth h = stays bytes errors.Depth (λ e. absurd cc) h
is_final bytes errors.Limit h = stays bytes errors.Limit (λ e. absurd cc) h
is_final bytes errors.OutOfMemory h = tt

fault : (bytes : List ℕ) (e : MpError) → IsBytes bytes → outcome bytes ≡ Err e → IsFirstFault bytes e
fault bytes e fits h = record { place = outcome_place bytes e fits h; first = is_first bytes e fits h; final = is_final bytes e h }

pub is_refused : (bytes : List ℕ) (r : Result (Value × ℕ) MpError) → IsBytes bytes → Gives (λ x. (view x.0, x.1)) r (outcome bytes) → IfErr r (Refuses bytes)
is_refused bytes (Ok x) fits given = tt
is_refused bytes (Err errors.OutOfMemory) fits given = tt
is_refused bytes (Err errors.Short) fits given = fault bytes errors.Short fits given
is_refused bytes (Err (errors.Float at)) fits given = fault bytes (errors.Float at) fits given
is_refused bytes (Err (errors.Ext at)) fits given = fault bytes (errors.Ext at) fits given
is_refused bytes (Err (errors.Reserved at)) fits given = fault bytes (errors.Reserved at) fits given
is_refused bytes (Err (errors.NotUtf8 at)) fits given = fault bytes (errors.NotUtf8 at) fits given
is_refused bytes (Err errors.Depth) fits given = fault bytes errors.Depth fits given
is_refused bytes (Err errors.Limit) fits given = fault bytes errors.Limit fits given
