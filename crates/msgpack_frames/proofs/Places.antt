-- The byte at a refusal's offset begins what the refusal names.
use Rattle.std.proofs.Common.{◌≡◌, ℕ, zero, suc, ◌-◌, ◌<◌, ◌⊎◌, Bool, true, false, cond, ltb, pos, List, [], ◌∷◌, ◌++◌, length, get_or, Some, None, Result, Ok, Err, refl, sym, ap, subst, ◌∙◌, append_assoc, arith, inl, inr}
use Rattle.std.specs.Int.{cast_signed, to_be_bytes}
use Rattle.std.specs.Str.{is_utf8}
use Rattle.std.proofs.lemmas.List.{length-append, get_or_at}
use Rattle.msgpack_frames.specs.declared.error.MpError.{MpError}
use Rattle.msgpack_frames.specs.declared.error.MpError.TheVariants as errors
use Rattle.msgpack_frames.specs.declared.form.Size.{Size}
use Rattle.msgpack_frames.specs.declared.form.Kind.{Kind}
use Rattle.msgpack_frames.specs.declared.form.Kind.TheVariants.{Str, Bin, Array, Map}
use Rattle.msgpack_frames.specs.declared.form.Form.{Form}
use Rattle.msgpack_frames.specs.declared.form.Form.TheVariants.{Nil, Bool as Truth, Small, Unsigned, Signed, Fixed, Sized, Float, Ext, Reserved}
use Rattle.msgpack_frames.specs.Data.{Data, integer, text, binary, array, dictionary, item, pair, max_depth, max_len}
use Rattle.msgpack_frames.specs.Forms.{form, width}
use Rattle.msgpack_frames.specs.Reading.{◌>>=◌, Read, Inner, number_at, unsigned_at, signed_at, len_at, bytes_at, text_at, binary_at, items_at, pairs_at, array_at, map_at, body_at, is_too_deep, sized_at, formed_at, first_at, inner, value_at, outcome}
use Rattle.msgpack_frames.specs.Decoded.{IsOfText, IsPlace}
use Rattle.msgpack_frames.proofs.Numbers.{IsBytes, IsBytes-rest}
use Rattle.msgpack_frames.proofs.Sound.{SoundReader, Sound, len_takes, inner_sound}
use Rattle.msgpack_frames.proofs.Further.{err_is}

-- where a chain of steps stop
bind_err : {A B : Type 0} (r : Result A MpError) (f : A → Result B MpError) (e : MpError) → (r >>= f) ≡ Err e → (r ≡ Err e) ⊎ ((x : A) × (r ≡ Ok x) × (f x ≡ Err e))
bind_err (Ok x) f e h = inr (x, refl, h)
bind_err (Err d) f e h = inl (ap (λ (c : MpError). Err c) (err_is d e h))

cond_err : {A : Type 0} (b : Bool) (d e : MpError) (r : Result A MpError) → cond b (Err d) r ≡ Err e → (d ≡ e) ⊎ (r ≡ Err e)
cond_err true d e r h = inl (err_is d e h)
cond_err false d e r h = inr h

cond_err_last : {A : Type 0} (b : Bool) (d e : MpError) (r : Result A MpError) → cond b r (Err d) ≡ Err e → (d ≡ e) ⊎ (r ≡ Err e)
cond_err_last true d e r h = inr h
cond_err_last false d e r h = inl (err_is d e h)

module _ (all : List ℕ) where
  short_place : {A : Type 0} (b : Bool) (x : A) (e : MpError) → cond b (Err errors.Short) (Ok x) ≡ Err e → IsPlace all e
  short_place b x e h = elim (cond_err b errors.Short e (Ok x) h) [ inl same ↦ subst (IsPlace all) same tt | inr never ↦ absurd cc ]

  number_place : (s : Size) (bytes : List ℕ) (e : MpError) → number_at s bytes ≡ Err e → IsPlace all e
  number_place s bytes e h = short_place _ _ e h

  bytes_place : (n : ℕ) (bytes : List ℕ) (e : MpError) → bytes_at n bytes ≡ Err e → IsPlace all e
  bytes_place n bytes e h = short_place _ _ e h

  unsigned_place : (s : Size) (bytes : List ℕ) (e : MpError) → unsigned_at s bytes ≡ Err e → IsPlace all e
  unfolding unsigned_at
  unsigned_place s bytes e h = elim (bind_err (number_at s bytes) (λ n. Ok (integer (pos n.0), n.1)) e h) [ inl stop ↦ number_place s bytes e stop | inr x ↦ absurd (cc x.2) ]

  signed_place : (s : Size) (bytes : List ℕ) (e : MpError) → signed_at s bytes ≡ Err e → IsPlace all e
  unfolding signed_at
  signed_place s bytes e h = elim (bind_err (number_at s bytes) (λ n. Ok (integer (cast_signed (width s) n.0), n.1)) e h) [ inl stop ↦ number_place s bytes e stop | inr x ↦ absurd (cc x.2) ]

  len_place : (s : Size) (bytes : List ℕ) (e : MpError) → len_at s bytes ≡ Err e → IsPlace all e
  unfolding len_at
  len_place s bytes e h =
      elim (bind_err (number_at s bytes) (λ n. cond (ltb max_len n.0) (Err errors.Limit) (Ok n)) e h) [
        | inl stop ↦ number_place s bytes e stop
        | inr x ↦ elim (cond_err (ltb max_len x.0.0) errors.Limit e (Ok x.0) x.2) [ inl same ↦ subst (IsPlace all) same tt | inr never ↦ absurd cc ]
      ]

  text_place : (at n : ℕ) (bytes : List ℕ) (e : MpError) → IsPlace all (errors.NotUtf8 at) → text_at at n bytes ≡ Err e → IsPlace all e
  unfolding text_at
  text_place at n bytes e here h =
      elim (bind_err (bytes_at n bytes) (λ t. cond (is_utf8 t.0) (Ok (text t.0, t.1)) (Err (errors.NotUtf8 at))) e h) [
        | inl stop ↦ bytes_place n bytes e stop
        | inr x ↦ elim (cond_err_last (is_utf8 x.0.0) (errors.NotUtf8 at) e (Ok (text x.0.0, x.0.1)) x.2) [ inl same ↦ subst (IsPlace all) same here | inr never ↦ absurd cc ]
      ]

  binary_place : (n : ℕ) (bytes : List ℕ) (e : MpError) → binary_at n bytes ≡ Err e → IsPlace all e
  unfolding binary_at
  binary_place n bytes e h = elim (bind_err (bytes_at n bytes) (λ t. Ok (binary t.0, t.1)) e h) [ inl stop ↦ bytes_place n bytes e stop | inr x ↦ absurd (cc x.2) ]

  -- what one refuses, in the last bytes of all, stands at its place
  abbrev Located : (List ℕ → Read Data) → Type 0
  Located one = (before bytes : List ℕ) (e : MpError) → all ≡ before ++ bytes → IsBytes bytes → one bytes ≡ Err e → IsPlace all e

  abbrev LocatedInner : Inner → Type 0
  LocatedInner None = Unit {0}
  LocatedInner (Some one) = Located one

  items_place : (d : ℕ) (one : List ℕ → Read Data) → SoundReader d one → Located one → (n : ℕ) (before bytes : List ℕ) (e : MpError) → all ≡ before ++ bytes → IsBytes bytes → items_at one n bytes ≡ Err e → IsPlace all e
  unfolding items_at
  items_place d one sound located zero before bytes e is fits h = absurd cc
  items_place d one sound located (suc n) before bytes e is fits h =
      elim (bind_err (one bytes) (λ first. items_at one n first.1 >>= λ others. Ok (item first.0 others.0, others.1)) e h) [
        | inl stop ↦ located before bytes e is fits stop
        | inr x ↦
            let p = sound bytes x.0 fits x.1 in
            elim (bind_err (items_at one n x.0.1) (λ others. Ok (item x.0.0 others.0, others.1)) e x.2) [
              | inl stop ↦ items_place d one sound located n (before ++ p.front) x.0.1 e (is ∙ ap (λ (t : List ℕ). before ++ t) p.parts ∙ sym (append_assoc before p.front x.0.1)) p.rest_fits stop
              | inr y ↦ absurd (cc y.2)
            ]
      ]

  pairs_place : (d : ℕ) (one : List ℕ → Read Data) → SoundReader d one → Located one → (n : ℕ) (before bytes : List ℕ) (e : MpError) → all ≡ before ++ bytes → IsBytes bytes → pairs_at one n bytes ≡ Err e → IsPlace all e
  unfolding pairs_at
  pairs_place d one sound located zero before bytes e is fits h = absurd cc
  pairs_place d one sound located (suc n) before bytes e is fits h =
      elim (bind_err (one bytes) (λ key. one key.1 >>= λ value. pairs_at one n value.1 >>= λ others. Ok (pair key.0 value.0 others.0, others.1)) e h) [
        | inl stop ↦ located before bytes e is fits stop
        | inr x ↦
            let p = sound bytes x.0 fits x.1 in
            let is-x : all ≡ (before ++ p.front) ++ x.0.1 = is ∙ ap (λ (t : List ℕ). before ++ t) p.parts ∙ sym (append_assoc before p.front x.0.1) in
            elim (bind_err (one x.0.1) (λ value. pairs_at one n value.1 >>= λ others. Ok (pair x.0.0 value.0 others.0, others.1)) e x.2) [
              | inl stop ↦ located (before ++ p.front) x.0.1 e is-x p.rest_fits stop
              | inr y ↦
                  let q = sound x.0.1 y.0 p.rest_fits y.1 in
                  elim (bind_err (pairs_at one n y.0.1) (λ others. Ok (pair x.0.0 y.0.0 others.0, others.1)) e y.2) [
                    | inl stop ↦ pairs_place d one sound located n ((before ++ p.front) ++ q.front) y.0.1 e (is-x ∙ ap (λ (t : List ℕ). (before ++ p.front) ++ t) q.parts ∙ sym (append_assoc (before ++ p.front) q.front y.0.1)) q.rest_fits stop
                    | inr z ↦ absurd (cc z.2)
                  ]
            ]
      ]

  array_place : (d : ℕ) (i : Inner) → Sound d i → LocatedInner i → (n : ℕ) (before bytes : List ℕ) (e : MpError) → all ≡ before ++ bytes → IsBytes bytes → array_at i n bytes ≡ Err e → IsPlace all e
  unfolding array_at
  array_place d None sound located n before bytes e is fits h = subst (IsPlace all) (err_is errors.Depth e h) tt
  array_place d (Some one) sound located n before bytes e is fits h =
      elim (bind_err (items_at one n bytes) (λ ds. Ok (array ds.0, ds.1)) e h) [
        | inl stop ↦ items_place sound.0 one sound.2 located n before bytes e is fits stop
        | inr x ↦ absurd (cc x.2)
      ]

  map_place : (d : ℕ) (i : Inner) → Sound d i → LocatedInner i → (n : ℕ) (before bytes : List ℕ) (e : MpError) → all ≡ before ++ bytes → IsBytes bytes → map_at i n bytes ≡ Err e → IsPlace all e
  unfolding map_at
  map_place d None sound located n before bytes e is fits h = subst (IsPlace all) (err_is errors.Depth e h) tt
  map_place d (Some one) sound located n before bytes e is fits h =
      elim (bind_err (pairs_at one n bytes) (λ ps. Ok (dictionary ps.0, ps.1)) e h) [
        | inl stop ↦ pairs_place sound.0 one sound.2 located n before bytes e is fits stop
        | inr x ↦ absurd (cc x.2)
      ]

  -- where a text's bytes are refused, its form is a text's
  abbrev Begins : Kind → ℕ → Type 0
  Begins Str at = IsPlace all (errors.NotUtf8 at)
  Begins Bin at = Unit {0}
  Begins Array at = Unit {0}
  Begins Map at = Unit {0}

  body_place : (at d : ℕ) (i : Inner) → Sound d i → LocatedInner i → (kind : Kind) → Begins kind at → (n : ℕ) (before bytes : List ℕ) (e : MpError) → all ≡ before ++ bytes → IsBytes bytes → body_at at i kind n bytes ≡ Err e → IsPlace all e
  body_place at d i sound located Str here n before bytes e is fits h = text_place at n bytes e here h
  body_place at d i sound located Bin here n before bytes e is fits h = binary_place n bytes e h
  body_place at d i sound located Array here n before bytes e is fits h = array_place d i sound located n before bytes e is fits h
  body_place at d i sound located Map here n before bytes e is fits h = map_place d i sound located n before bytes e is fits h

  sized_place : (at d : ℕ) (i : Inner) → Sound d i → LocatedInner i → (kind : Kind) → Begins kind at → (s : Size) (before bytes : List ℕ) (e : MpError) → all ≡ before ++ bytes → IsBytes bytes → sized_at at i kind s bytes ≡ Err e → IsPlace all e
  unfolding sized_at
  sized_place at d i sound located kind here s before bytes e is fits h =
      elim (cond_err (is_too_deep i kind) errors.Depth e (len_at s bytes >>= λ n. body_at at i kind n.0 n.1) h) [
        | inl same ↦ subst (IsPlace all) same tt
        | inr g ↦ elim (bind_err (len_at s bytes) (λ n. body_at at i kind n.0 n.1) e g) [
          | inl stop ↦ len_place s bytes e stop
          | inr x ↦
              let r = len_takes s bytes x.0 fits x.1 in
              let front = to_be_bytes (width s) x.0.0 in
              body_place at d i sound located kind here x.0.0 (before ++ front) x.0.1 e (is ∙ ap (λ (t : List ℕ). before ++ t) r.0 ∙ sym (append_assoc before front x.0.1)) r.3 x.2
        ]
      ]

  formed_place : (at d b : ℕ) (i : Inner) → Sound d i → LocatedInner i → (f : Form) → form b ≡ f → (before bytes : List ℕ) (e : MpError) → at ≡ length before → all ≡ before ++ b ∷ bytes → IsBytes bytes → formed_at at i f bytes ≡ Err e → IsPlace all e
  formed_place at d b i sound located f is_form before bytes e place is fits h = by_form f is_form h
    where
      within : at < length all
      within = omega (arith, ap length is, length-append before (b ∷ bytes))

      there : get_or all at 0 ≡ b
      there = ap (λ (l : List ℕ). get_or l at 0) is ∙ get_or_at before b bytes 0 at (sym place)

      is-rest : all ≡ (before ++ b ∷ []) ++ bytes
      is-rest = is ∙ sym (append_assoc before (b ∷ []) bytes)

      of_form : (f : Form) → form b ≡ f → form (get_or all at 0) ≡ f
      of_form f e = ap form there ∙ e

      begins_fixed : (kind : Kind) (n : ℕ) → form b ≡ Fixed kind n → Begins kind at
      begins_fixed Str n e = (within, subst IsOfText (sym (of_form (Fixed Str n) e)) tt)
      begins_fixed Bin n e = tt
      begins_fixed Array n e = tt
      begins_fixed Map n e = tt

      begins_sized : (kind : Kind) (s : Size) → form b ≡ Sized kind s → Begins kind at
      begins_sized Str s e = (within, subst IsOfText (sym (of_form (Sized Str s) e)) tt)
      begins_sized Bin s e = tt
      begins_sized Array s e = tt
      begins_sized Map s e = tt

      by_form : (f : Form) → form b ≡ f → formed_at at i f bytes ≡ Err e → IsPlace all e
      by_form Nil f h = absurd cc
      by_form (Truth t) f h = absurd cc
      by_form (Small z) f h = absurd cc
      by_form (Unsigned s) f h = unsigned_place s bytes e h
      by_form (Signed s) f h = signed_place s bytes e h
      by_form (Fixed kind n) f h = body_place at d i sound located kind (begins_fixed kind n f) n (before ++ b ∷ []) bytes e is-rest fits h
      by_form (Sized kind s) f h = sized_place at d i sound located kind (begins_sized kind s f) s (before ++ b ∷ []) bytes e is-rest fits h
      by_form Float f h = subst (IsPlace all) (err_is (errors.Float at) e h) (within, of_form Float f)
      by_form Ext f h = subst (IsPlace all) (err_is (errors.Ext at) e h) (within, of_form Ext f)
      by_form Reserved f h = subst (IsPlace all) (err_is (errors.Reserved at) e h) (within, of_form Reserved f)

  first_place : (d : ℕ) (i : Inner) → Sound d i → LocatedInner i → Located (first_at (length all) i)
  unfolding first_at
  first_place d i sound located before [] e is fits h = subst (IsPlace all) (err_is errors.Short e h) tt
  first_place d i sound located before (b ∷ bytes) e is fits h =
      formed_place _ d b i sound located (form b) refl before bytes e (omega (arith, ap length is, length-append before (b ∷ bytes))) is (IsBytes-rest b bytes fits) h

  inner_place : (d : ℕ) → LocatedInner (inner (length all) d)
  unfolding inner
  inner_place zero = tt
  inner_place (suc d) = first_place d (inner (length all) d) (inner_sound (length all) d) (inner_place d)

  value_place : (d : ℕ) → Located (value_at (length all) d)
  unfolding value_at
  value_place d = first_place d (inner (length all) d) (inner_sound (length all) d) (inner_place d)

pub outcome_place : (bytes : List ℕ) (e : MpError) → IsBytes bytes → outcome bytes ≡ Err e → IsPlace bytes e
unfolding outcome
outcome_place bytes e fits h =
    elim (bind_err (value_at (length bytes) max_depth bytes) (λ x. Ok (x.0, length bytes - length x.1)) e h) [
      | inl stop ↦ value_place bytes max_depth [] bytes e refl fits stop
      | inr x ↦ absurd (cc x.2)
    ]
