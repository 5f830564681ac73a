-- The loop of broadcasting, and the shape that it makes.
use Rattle.std.proofs.Common.{◌≡◌, ℕ, ◌+◌, ◌-◌, ◌<◌, ◌≤◌, ◌^◌, List, [], ◌∷◌, ◌++◌, length, get_or, map, cond, Bool, true, false, Ok, Err, refl, ap, sym, subst, ◌∙◌, arith, inl, inr}
use Rattle.std.specs.Prelude.{Result, nat_eq, nat_lt, All, IfErr}
use Rattle.std.specs.List.{range_with_len}
use Rattle.std.proofs.lemmas.List.FromFn.{map-range_with_len_more, length-map-range_with_len, get_or-map-range_with_len}
use Rattle.std.proofs.lemmas.List.Elements.{All-from_get_or, All-nil}
use Rattle.std.proofs.lemmas.List.{get_or_past}
use Rattle.std.proofs.lemmas.Bool.{cases_lt}
use Rattle.nd_shape.specs.declared.error.ShapeError.{ShapeError}
use Rattle.nd_shape.specs.declared.error.ShapeError.TheVariants.{Misfit, BadAxis, BadIndex, ZeroStep, EmptyReduce, TooManyParts, BadSplit, Elements, OutOfMemory}
use Rattle.nd_shape.specs.Shape.{elements, IsShape}
use Rattle.nd_shape.specs.Broadcast.{axes_of, length_on, lengths_on, common, first_misfit, agrees, broadcast, Agree, RefusesBroadcast}

-- the lengths on an axis, one after another
pub lengths_on-three : (x y z : List ℕ) (axes k a b c : ℕ) → axes ≡ axes_of (x ∷ y ∷ z ∷ []) → a ≡ length_on axes k x → b ≡ length_on axes k y → c ≡ length_on axes k z → lengths_on (x ∷ y ∷ z ∷ []) k ≡ a ∷ b ∷ c ∷ []
lengths_on-three x y z axes k a b c h ha hb hc = rw (ha, hb, hc, h) refl

-- one more axis
pub dims-more : (shapes : List (List ℕ)) (k n : ℕ) (dims ls : List ℕ) → dims ≡ map (λ k. common (lengths_on shapes k)) (range_with_len 0 k) → lengths_on shapes k ≡ ls → n ≡ common ls
    → dims ++ n ∷ [] ≡ map (λ k. common (lengths_on shapes k)) (range_with_len 0 (k + 1))
dims-more shapes k n dims ls h e c =
    ap (λ xs. xs ++ n ∷ []) h ∙ ap (λ m. map (λ k. common (lengths_on shapes k)) (range_with_len 0 k) ++ m ∷ []) (c ∙ ap common (sym e))
    ∙ sym (map-range_with_len_more (λ k. common (lengths_on shapes k)) 0 k k (omega arith))

-- ---- the limits of the shape

small_cond : (m a c : ℕ) (b : Bool) → a ≤ m → c ≤ m → cond b a c ≤ m
small_cond m a c true h k = h
small_cond m a c false h k = k

small_get : (m : ℕ) (ns : List ℕ) (k : ℕ) → 1 ≤ m → All (λ n. n ≤ m) ns → get_or ns k 1 ≤ m
small_get m ns k one h = elim (cases_lt k (length ns)) [
  | inl b ↦ h k 1 b
  | inr b ↦ let e : get_or ns k 1 ≡ 1 = get_or_past ns k 1 b in omega arith
]

length_on-small : (m axes k : ℕ) (ns : List ℕ) → 1 ≤ m → All (λ n. n ≤ m) ns → length_on axes k ns ≤ m
length_on-small m axes k ns one h = small_cond m 1 (get_or ns (k - (axes - length ns)) 1) (nat_lt k (axes - length ns)) one (small_get m ns (k - (axes - length ns)) one h)

common-small : (m a b c : ℕ) → 1 ≤ m → a ≤ m → b ≤ m → c ≤ m → common (a ∷ b ∷ c ∷ []) ≤ m
common-small m a b c one ha hb hc = small_cond m (cond (nat_eq b 1) (cond (nat_eq c 1) 1 c) b) a (nat_eq a 1) (small_cond m (cond (nat_eq c 1) 1 c) b (nat_eq b 1) (small_cond m 1 c (nat_eq c 1) one hc) hb) ha

pub broadcast-axes : (x y z dims : List ℕ) → dims ≡ broadcast (x ∷ y ∷ z ∷ []) → length x ≤ 8 → length y ≤ 8 → length z ≤ 8 → length dims ≤ 8
broadcast-axes x y z dims e hx hy hz =
    let l : length dims ≡ axes_of (x ∷ y ∷ z ∷ []) = ap length e ∙ length-map-range_with_len (λ k. common (lengths_on (x ∷ y ∷ z ∷ []) k)) 0 (axes_of (x ∷ y ∷ z ∷ [])) in
    omega arith

pub broadcast-lengths : (x y z dims : List ℕ) → dims ≡ broadcast (x ∷ y ∷ z ∷ []) → All (λ n. n ≤ 2 ^ 31) x → All (λ n. n ≤ 2 ^ 31) y → All (λ n. n ≤ 2 ^ 31) z → All (λ n. n ≤ 2 ^ 31) dims
broadcast-lengths x y z dims e hx hy hz =
    let s = x ∷ y ∷ z ∷ [] in
    let f : ℕ → ℕ = λ k. common (lengths_on s k) in
    let l : length dims ≡ axes_of s = ap length e ∙ length-map-range_with_len f 0 (axes_of s) in
    let one : 1 ≤ 2 ^ 31 = omega arith in
    All-from_get_or (λ n. n ≤ 2 ^ 31) dims 0 (λ k b.
    let at : get_or dims k 0 ≡ f k = ap (λ xs. get_or xs k 0) e ∙ get_or-map-range_with_len f 0 (axes_of s) k k 0 (omega arith) (omega arith) in
    subst (λ n. n ≤ 2 ^ 31) (sym at)
    (common-small (2 ^ 31) (length_on (axes_of s) k x) (length_on (axes_of s) k y) (length_on (axes_of s) k z) one (length_on-small (2 ^ 31) (axes_of s) k x one hx) (length_on-small (2 ^ 31) (axes_of s) k y one hy)
    (length_on-small (2 ^ 31) (axes_of s) k z one hz)))

-- ---- two operands: a third without axes changes nothing

agrees-one : (a : ℕ) → agrees a 1 ≡ true
agrees-one a = grind arith

one_on : (axes k : ℕ) → length_on axes k [] ≡ 1
one_on axes k = elim (nat_lt k (axes - 0)) as (λ b. ◌≡◌ {A = ℕ} (cond b 1 1) 1) [ true ↦ refl | false ↦ refl ]

misfit-one : (a b : ℕ) → first_misfit (a ∷ b ∷ 1 ∷ []) ≡ first_misfit (a ∷ b ∷ [])
misfit-one a b = rw (agrees-one a, agrees-one b) refl

lengths-two : (x y : List ℕ) (k : ℕ) → lengths_on (x ∷ y ∷ [] ∷ []) k ≡ length_on (axes_of (x ∷ y ∷ [])) k x ∷ length_on (axes_of (x ∷ y ∷ [])) k y ∷ 1 ∷ []
lengths-two x y k = ap (λ n. length_on (axes_of (x ∷ y ∷ [])) k x ∷ length_on (axes_of (x ∷ y ∷ [])) k y ∷ n ∷ []) (one_on (axes_of (x ∷ y ∷ [])) k)

misfit-two : (x y : List ℕ) (k : ℕ) → first_misfit (lengths_on (x ∷ y ∷ [] ∷ []) k) ≡ first_misfit (lengths_on (x ∷ y ∷ []) k)
misfit-two x y k = ap first_misfit (lengths-two x y k) ∙ misfit-one (length_on (axes_of (x ∷ y ∷ [])) k x) (length_on (axes_of (x ∷ y ∷ [])) k y)

common-two : (x y : List ℕ) (k : ℕ) → common (lengths_on (x ∷ y ∷ [] ∷ []) k) ≡ common (lengths_on (x ∷ y ∷ []) k)
common-two x y k = ap common (lengths-two x y k)

pub broadcast-two : (x y : List ℕ) → broadcast (x ∷ y ∷ [] ∷ []) ≡ broadcast (x ∷ y ∷ [])
broadcast-two x y = λ i. map (λ k. common-two x y k i) (range_with_len 0 (axes_of (x ∷ y ∷ [])))

pub Agree-two : (x y : List ℕ) → Agree (x ∷ y ∷ [] ∷ []) → Agree (x ∷ y ∷ [])
Agree-two x y a = record { each = λ k b. sym (misfit-two x y k) ∙ a.each k b }

pub RefusesBroadcast-two : (x y : List ℕ) (e : ShapeError) → RefusesBroadcast (x ∷ y ∷ [] ∷ []) e → RefusesBroadcast (x ∷ y ∷ []) e
RefusesBroadcast-two x y (Misfit axis left right) h = record {
  inside = h.inside;
  before = λ k b. sym (misfit-two x y k) ∙ h.before k b;
  here = sym (misfit-two x y axis) ∙ h.here;
}
RefusesBroadcast-two x y Elements h = (Agree-two x y h.0, subst (λ ns. 2 ^ 31 < elements ns) (broadcast-two x y) h.1)
RefusesBroadcast-two x y OutOfMemory h = tt
RefusesBroadcast-two x y (BadAxis axis) h = absurd h
RefusesBroadcast-two x y (BadIndex index len) h = absurd h
RefusesBroadcast-two x y ZeroStep h = absurd h
RefusesBroadcast-two x y (EmptyReduce axis) h = absurd h
RefusesBroadcast-two x y (TooManyParts parts axes) h = absurd h
RefusesBroadcast-two x y (BadSplit split) h = absurd h

-- ---- what `made` needs and answers

pub no_axes : IsShape []
no_axes = record { axes = omega arith; lengths = All-nil (λ n. n ≤ 2 ^ 31); product = omega arith }

pub made-axes : (x y z s t u dims : List ℕ) → dims ≡ broadcast (x ∷ y ∷ z ∷ []) → x ≡ s → y ≡ t → z ≡ u → IsShape s → IsShape t → IsShape u → length dims ≤ 8
made-axes x y z s t u dims e ex ey ez hs ht hu =
    broadcast-axes x y z dims e (subst (λ ns. length ns ≤ 8) (sym ex) hs.axes) (subst (λ ns. length ns ≤ 8) (sym ey) ht.axes) (subst (λ ns. length ns ≤ 8) (sym ez) hu.axes)

pub made-lengths : (x y z s t u dims : List ℕ) → dims ≡ broadcast (x ∷ y ∷ z ∷ []) → x ≡ s → y ≡ t → z ≡ u → IsShape s → IsShape t → IsShape u → All (λ n. n ≤ 2 ^ 31) dims
made-lengths x y z s t u dims e ex ey ez hs ht hu =
    let P : List ℕ → Type 0 = λ ns. All (λ n. n ≤ 2 ^ 31) ns in
    broadcast-lengths x y z dims e (subst P (sym ex) hs.lengths) (subst P (sym ey) ht.lengths) (subst P (sym ez) hu.lengths)

pub made-err : (x y z s t u dims : List ℕ) (r : Result (List ℕ) ShapeError) → dims ≡ broadcast (x ∷ y ∷ z ∷ []) → x ≡ s → y ≡ t → z ≡ u → Agree (x ∷ y ∷ z ∷ []) → IfErr r (λ e. (e ≡ Elements) × (2 ^ 31 < elements dims))
    → IfErr r (λ e. RefusesBroadcast (s ∷ t ∷ u ∷ []) e)
made-err x y z s t u dims (Ok shape) e ex ey ez a h = tt
made-err x y z s t u dims (Err why) e ex ey ez a h =
    let same : x ∷ y ∷ z ∷ [] ≡ s ∷ t ∷ u ∷ [] = cc in
    subst (λ w. RefusesBroadcast (s ∷ t ∷ u ∷ []) w) (sym h.0) (subst Agree same a, subst (λ ns. 2 ^ 31 < elements ns) (e ∙ ap broadcast same) h.1)

pub made-err_two : (x y s t dims : List ℕ) (r : Result (List ℕ) ShapeError) → dims ≡ broadcast (x ∷ y ∷ [] ∷ []) → x ≡ s → y ≡ t → Agree (x ∷ y ∷ [] ∷ []) → IfErr r (λ e. (e ≡ Elements) × (2 ^ 31 < elements dims))
    → IfErr r (λ e. RefusesBroadcast (s ∷ t ∷ []) e)
made-err_two x y s t dims (Ok shape) e ex ey a h = tt
made-err_two x y s t dims (Err why) e ex ey a h = RefusesBroadcast-two s t why (made-err x y [] s t [] dims (Err why) e ex ey refl a h)
