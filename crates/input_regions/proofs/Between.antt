-- Indexes between two indexes, coordinate by coordinate, and what each operation's index makes of them.
use Rattle.std.proofs.Common.{◌≡◌, ℕ, zero, suc, ◌-◌, ◌<◌, ◌≤◌, List, [], ◌∷◌, ◌++◌, length, get_or, set, drop, take, map, cond, Bool, true, false, refl, ap, sym, subst, arith, inl, inr, ◌⊎◌, ℤ, pos, negsuc, ◌+ℤ◌, ◌*ℤ◌, ◌≤ℤ◌}
use Rattle.std.specs.Prelude.{nat_eq, unsigned_abs}
use Rattle.std.specs.List.{position_or_len, range_with_len}
use Rattle.std.proofs.lemmas.Int.{ints}
use Rattle.std.proofs.Math.Nat.{mul-le-mul_left}
use Rattle.nd_shape.specs.declared.slice.Steps.{Steps}
use Rattle.nd_shape.specs.Index.{IsIn}
use Rattle.nd_shape.specs.Slice.{StepsFitAxis, coordinate}
use Rattle.nd_grid.specs.Grid.{under, under_along, turned, SlicesFit, sliced_shape, sliced_from, is_among}
use Rattle.input_regions.specs.Widening.{IsFromTo}

-- a coordinate is between two, in either order
abbrev pub IsBetween : ℕ → ℕ → ℕ → Type 0
IsBetween a b i = ((a ≤ i) × (i ≤ b)) ⊎ ((b ≤ i) × (i ≤ a))

abbrev pub AreBetween : List ℕ → List ℕ → List ℕ → Type 0
AreBetween [] [] [] = Unit {0}
AreBetween [] [] (i ∷ is) = ⊥
AreBetween [] (b ∷ bs) is = ⊥
AreBetween (a ∷ ps) [] is = ⊥
AreBetween (a ∷ ps) (b ∷ bs) [] = ⊥
AreBetween (a ∷ ps) (b ∷ bs) (i ∷ is) = IsBetween a b i × AreBetween ps bs is

pub between-length : (ps bs is : List ℕ) → AreBetween ps bs is → length is ≡ length ps
between-length [] [] [] h = refl
between-length [] [] (i ∷ is) h = absurd h
between-length [] (b ∷ bs) is h = absurd h
between-length (a ∷ ps) [] is h = absurd h
between-length (a ∷ ps) (b ∷ bs) [] h = absurd h
between-length (a ∷ ps) (b ∷ bs) (i ∷ is) h = ap suc (between-length ps bs is h.1)

same-between : (a : ℕ) → IsBetween a a a
same-between a = inl (omega arith, omega arith)

pub between-at : (ps bs is : List ℕ) (k : ℕ) → AreBetween ps bs is → IsBetween (get_or ps k 0) (get_or bs k 0) (get_or is k 0)
between-at [] [] [] k h = same-between 0
between-at [] [] (i ∷ is) k h = absurd h
between-at [] (b ∷ bs) is k h = absurd h
between-at (a ∷ ps) [] is k h = absurd h
between-at (a ∷ ps) (b ∷ bs) [] k h = absurd h
between-at (a ∷ ps) (b ∷ bs) (i ∷ is) zero h = h.0
between-at (a ∷ ps) (b ∷ bs) (i ∷ is) (suc k) h = between-at ps bs is k h.1

pub from-between : (ps bs is : List ℕ) → IsFromTo ps bs is → AreBetween ps bs is
from-between [] [] [] h = tt
from-between [] [] (i ∷ is) h = h
from-between [] (b ∷ bs) is h = h
from-between (a ∷ ps) [] is h = h
from-between (a ∷ ps) (b ∷ bs) [] h = h
from-between (a ∷ ps) (b ∷ bs) (i ∷ is) h = (inl (h.0, h.1), from-between ps bs is h.2)

pub between-drop : (n : ℕ) (ps bs is : List ℕ) → AreBetween ps bs is → AreBetween (drop n ps) (drop n bs) (drop n is)
between-drop zero ps bs is h = h
between-drop (suc n) [] [] [] h = tt
between-drop (suc n) [] [] (i ∷ is) h = absurd h
between-drop (suc n) [] (b ∷ bs) is h = absurd h
between-drop (suc n) (a ∷ ps) [] is h = absurd h
between-drop (suc n) (a ∷ ps) (b ∷ bs) [] h = absurd h
between-drop (suc n) (a ∷ ps) (b ∷ bs) (i ∷ is) h = between-drop n ps bs is h.1

-- ---- broadcasting

clip-between : (c : Bool) (a b i : ℕ) → IsBetween a b i → IsBetween (cond c 0 a) (cond c 0 b) (cond c 0 i)
clip-between true a b i h = same-between 0
clip-between false a b i h = h

along-between : (ns ps bs is : List ℕ) → AreBetween ps bs is → AreBetween (under_along ns ps) (under_along ns bs) (under_along ns is)
along-between [] ps bs is h = tt
along-between (n ∷ ns) [] [] [] h = tt
along-between (n ∷ ns) [] [] (i ∷ is) h = absurd h
along-between (n ∷ ns) [] (b ∷ bs) is h = absurd h
along-between (n ∷ ns) (a ∷ ps) [] is h = absurd h
along-between (n ∷ ns) (a ∷ ps) (b ∷ bs) [] h = absurd h
along-between (n ∷ ns) (a ∷ ps) (b ∷ bs) (i ∷ is) h = (clip-between (nat_eq n 1) a b i h.0, along-between ns ps bs is h.1)

between-lengths : (ps bs is : List ℕ) → AreBetween ps bs is → length bs ≡ length ps
between-lengths [] [] [] h = refl
between-lengths [] [] (i ∷ is) h = refl
between-lengths [] (b ∷ bs) is h = absurd h
between-lengths (a ∷ ps) [] is h = absurd h
between-lengths (a ∷ ps) (b ∷ bs) [] h = absurd h
between-lengths (a ∷ ps) (b ∷ bs) (i ∷ is) h = ap suc (between-lengths ps bs is h.1)

pub under-between : (ns ps bs is : List ℕ) → AreBetween ps bs is → AreBetween (under ns ps) (under ns bs) (under ns is)
under-between ns ps bs is h =
    let n : ℕ = length ps - length ns in
    subst (λ m. AreBetween (under ns ps) (under_along ns (drop (m - length ns) bs)) (under ns is)) (sym (between-lengths ps bs is h))
    (subst (λ m. AreBetween (under ns ps) (under_along ns (drop (length ps - length ns) bs)) (under_along ns (drop (m - length ns) is))) (sym (between-length ps bs is h))
    (along-between ns (drop n ps) (drop n bs) (drop n is) (between-drop n ps bs is h)))

-- ---- transposes

map-between : (f g h : ℕ → ℕ) (xs : List ℕ) → ((x : ℕ) → IsBetween (f x) (g x) (h x)) → AreBetween (map f xs) (map g xs) (map h xs)
map-between f g h [] all = tt
map-between f g h (x ∷ xs) all = (all x, map-between f g h xs all)

pub turned-between : (axes ps bs is : List ℕ) → AreBetween ps bs is → AreBetween (turned axes ps) (turned axes bs) (turned axes is)
turned-between axes ps bs is h =
    map-between (λ a. get_or ps (position_or_len (nat_eq a) axes) 0) (λ a. get_or bs (position_or_len (nat_eq a) axes) 0) (λ a. get_or is (position_or_len (nat_eq a) axes) 0)
    (range_with_len 0 (length axes)) (λ a. between-at ps bs is (position_or_len (nat_eq a) axes) h)

-- ---- slices

forwards : (s m x y : ℕ) → x ≤ y → unsigned_abs (pos s +ℤ (pos m *ℤ pos x)) ≤ unsigned_abs (pos s +ℤ (pos m *ℤ pos y))
forwards s m x y h = omega (arith, ints, mul-le-mul_left m h)

backwards : (s m x y : ℕ) → x ≤ y → pos 0 ≤ℤ (pos s +ℤ (negsuc m *ℤ pos y)) → unsigned_abs (pos s +ℤ (negsuc m *ℤ pos y)) ≤ unsigned_abs (pos s +ℤ (negsuc m *ℤ pos x))
backwards s m x y h low = omega (arith, ints, mul-le-mul_left (suc m) h)

turned-round : (a b i : ℕ) → IsBetween a b i → IsBetween b a i
turned-round a b i (inl h) = inr h
turned-round a b i (inr h) = inl h

steps-between : (s : ℕ) (step : ℤ) (a b i : ℕ) → a ≤ i → i ≤ b → pos 0 ≤ℤ (pos s +ℤ (step *ℤ pos i)) → pos 0 ≤ℤ (pos s +ℤ (step *ℤ pos b))
    → IsBetween (unsigned_abs (pos s +ℤ (step *ℤ pos a))) (unsigned_abs (pos s +ℤ (step *ℤ pos b))) (unsigned_abs (pos s +ℤ (step *ℤ pos i)))
steps-between s (pos m) a b i h k x y = inl (forwards s m a i h, forwards s m i b k)
steps-between s (negsuc m) a b i h k x y = inr (backwards s m i b k y, backwards s m a i h x)

coordinate-between : (s : Steps) (n a b i : ℕ) → StepsFitAxis s n → a < s.count → b < s.count → i < s.count → IsBetween a b i → IsBetween (coordinate s a) (coordinate s b) (coordinate s i)
coordinate-between s n a b i f ha hb hi (inl h) = steps-between s.start s.step a b i h.0 h.1 (f.low i hi) (f.low b hb)
coordinate-between s n a b i f ha hb hi (inr h) = turned-round (coordinate s b) (coordinate s a) (coordinate s i) (steps-between s.start s.step b a i h.0 h.1 (f.low i hi) (f.low a ha))

pub front-in : (n : ℕ) (ns is : List ℕ) → IsIn (n ∷ ns) is → (get_or is 0 0 < n) × IsIn ns (drop 1 is)
front-in n ns [] h = absurd h
front-in n ns (i ∷ is) h = h

pub sliced-between : (k : ℕ) (ss : List Steps) (ns gone ps bs is : List ℕ) → SlicesFit k ss ns gone → IsIn (sliced_shape k ss gone) ps → IsIn (sliced_shape k ss gone) bs → IsIn (sliced_shape k ss gone) is → AreBetween ps bs is
    → AreBetween (sliced_from k ss gone ps) (sliced_from k ss gone bs) (sliced_from k ss gone is)
sliced-between k [] ns gone ps bs is f ha hb hi h = tt
sliced-between k (s ∷ ss) [] gone ps bs is f ha hb hi h = absurd f
sliced-between k (s ∷ ss) (n ∷ ns) gone ps bs is f ha hb hi h = by_case (λ x y z p q r e. sliced-between (suc k) ss ns gone x y z f.2 p q r e) (is_among k gone) ha hb hi
  where
    by_case : ((x y z : List ℕ) → IsIn (sliced_shape (suc k) ss gone) x → IsIn (sliced_shape (suc k) ss gone) y → IsIn (sliced_shape (suc k) ss gone) z → AreBetween x y z → AreBetween (sliced_from (suc k) ss gone x) (sliced_from (suc k) ss gone y) (sliced_from (suc k) ss gone z))
        → (g : Bool) → IsIn (cond g (sliced_shape (suc k) ss gone) (s.count ∷ sliced_shape (suc k) ss gone)) ps → IsIn (cond g (sliced_shape (suc k) ss gone) (s.count ∷ sliced_shape (suc k) ss gone)) bs → IsIn (cond g (sliced_shape (suc k) ss gone) (s.count ∷ sliced_shape (suc k) ss gone)) is
        → AreBetween (cond g (s.start ∷ sliced_from (suc k) ss gone ps) (coordinate s (get_or ps 0 0) ∷ sliced_from (suc k) ss gone (drop 1 ps)))
        (cond g (s.start ∷ sliced_from (suc k) ss gone bs) (coordinate s (get_or bs 0 0) ∷ sliced_from (suc k) ss gone (drop 1 bs)))
        (cond g (s.start ∷ sliced_from (suc k) ss gone is) (coordinate s (get_or is 0 0) ∷ sliced_from (suc k) ss gone (drop 1 is)))
    by_case rest true ha hb hi = (same-between s.start, rest ps bs is ha hb hi h)
    by_case rest false ha hb hi =
        let a = front-in s.count (sliced_shape (suc k) ss gone) ps ha in
        let b = front-in s.count (sliced_shape (suc k) ss gone) bs hb in
        let i = front-in s.count (sliced_shape (suc k) ss gone) is hi in (
          coordinate-between s n (get_or ps 0 0) (get_or bs 0 0) (get_or is 0 0) f.0 a.0 b.0 i.0 (between-at ps bs is 0 h),
          rest (drop 1 ps) (drop 1 bs) (drop 1 is) a.1 b.1 i.1 (between-drop 1 ps bs is h),
        )

-- ---- one other coordinate

pub between-set : (k a b i : ℕ) (ps bs is : List ℕ) → IsBetween a b i → AreBetween ps bs is → AreBetween (set ps k a) (set bs k b) (set is k i)
between-set k a b i [] [] [] x h = tt
between-set k a b i [] [] (j ∷ is) x h = absurd h
between-set k a b i [] (d ∷ bs) is x h = absurd h
between-set k a b i (c ∷ ps) [] is x h = absurd h
between-set k a b i (c ∷ ps) (d ∷ bs) [] x h = absurd h
between-set zero a b i (c ∷ ps) (d ∷ bs) (j ∷ is) x h = (x, h.1)
between-set (suc k) a b i (c ∷ ps) (d ∷ bs) (j ∷ is) x h = (h.0, between-set k a b i ps bs is x h.1)

-- ---- from a first to a last index

pub from-to-first : (ps bs is : List ℕ) → IsFromTo ps bs is → IsFromTo ps bs ps
from-to-first [] [] [] h = tt
from-to-first [] [] (i ∷ is) h = absurd h
from-to-first [] (b ∷ bs) is h = absurd h
from-to-first (a ∷ ps) [] is h = absurd h
from-to-first (a ∷ ps) (b ∷ bs) [] h = absurd h
from-to-first (a ∷ ps) (b ∷ bs) (i ∷ is) h = (omega arith, omega (arith, h.0, h.1), from-to-first ps bs is h.2)

pub from-to-low : (ps bs is : List ℕ) (k : ℕ) → IsFromTo ps bs is → get_or ps k 0 ≤ get_or is k 0
from-to-low [] [] [] k h = omega arith
from-to-low [] [] (i ∷ is) k h = absurd h
from-to-low [] (b ∷ bs) is k h = absurd h
from-to-low (a ∷ ps) [] is k h = absurd h
from-to-low (a ∷ ps) (b ∷ bs) [] k h = absurd h
from-to-low (a ∷ ps) (b ∷ bs) (i ∷ is) zero h = h.0
from-to-low (a ∷ ps) (b ∷ bs) (i ∷ is) (suc k) h = from-to-low ps bs is k h.2

pub from-to-high : (ps bs is : List ℕ) (k : ℕ) → IsFromTo ps bs is → get_or is k 0 ≤ get_or bs k 0
from-to-high [] [] [] k h = omega arith
from-to-high [] [] (i ∷ is) k h = absurd h
from-to-high [] (b ∷ bs) is k h = absurd h
from-to-high (a ∷ ps) [] is k h = absurd h
from-to-high (a ∷ ps) (b ∷ bs) [] k h = absurd h
from-to-high (a ∷ ps) (b ∷ bs) (i ∷ is) zero h = h.1
from-to-high (a ∷ ps) (b ∷ bs) (i ∷ is) (suc k) h = from-to-high ps bs is k h.2

pub from-to-set : (k x : ℕ) (ps bs is : List ℕ) → get_or ps k 0 ≤ x → x ≤ get_or bs k 0 → IsFromTo ps bs is → IsFromTo ps bs (set is k x)
from-to-set k x [] [] [] l m h = tt
from-to-set k x [] [] (i ∷ is) l m h = absurd h
from-to-set k x [] (b ∷ bs) is l m h = absurd h
from-to-set k x (a ∷ ps) [] is l m h = absurd h
from-to-set k x (a ∷ ps) (b ∷ bs) [] l m h = absurd h
from-to-set zero x (a ∷ ps) (b ∷ bs) (i ∷ is) l m h = (l, m, h.2)
from-to-set (suc k) x (a ∷ ps) (b ∷ bs) (i ∷ is) l m h = (h.0, h.1, from-to-set k x ps bs is l m h.2)

pub from-to-lengths : (ps bs is : List ℕ) → IsFromTo ps bs is → (length bs ≡ length ps) × (length is ≡ length ps)
from-to-lengths ps bs is h = (between-lengths ps bs is (from-between ps bs is h), between-length ps bs is (from-between ps bs is h))

pub from-to-all : (ps bs is : List ℕ) → length bs ≡ length ps → length is ≡ length ps → ((k : ℕ) → k < length ps → (get_or ps k 0 ≤ get_or is k 0) × (get_or is k 0 ≤ get_or bs k 0)) → IsFromTo ps bs is
from-to-all [] [] [] e f h = tt
from-to-all [] [] (i ∷ is) e f h = absurd (omega (arith, f))
from-to-all [] (b ∷ bs) is e f h = absurd (omega (arith, e))
from-to-all (a ∷ ps) [] is e f h = absurd (omega (arith, e))
from-to-all (a ∷ ps) (b ∷ bs) [] e f h = absurd (omega (arith, f))
from-to-all (a ∷ ps) (b ∷ bs) (i ∷ is) e f h = ((h 0 (omega arith)).0, (h 0 (omega arith)).1, from-to-all ps bs is (omega (arith, e)) (omega (arith, f)) (λ k b. h (suc k) (omega (arith, b))))

-- ---- the axes of two operands

pub from-to-front : (n : ℕ) (ps bs is : List ℕ) → IsFromTo ps bs is → IsFromTo (take n ps) (take n bs) (take n is)
from-to-front zero ps bs is h = tt
from-to-front (suc n) [] [] [] h = tt
from-to-front (suc n) [] [] (i ∷ is) h = absurd h
from-to-front (suc n) [] (b ∷ bs) is h = absurd h
from-to-front (suc n) (a ∷ ps) [] is h = absurd h
from-to-front (suc n) (a ∷ ps) (b ∷ bs) [] h = absurd h
from-to-front (suc n) (a ∷ ps) (b ∷ bs) (i ∷ is) h = (h.0, h.1, from-to-front n ps bs is h.2)

pub from-to-back : (n : ℕ) (ps bs is : List ℕ) → IsFromTo ps bs is → IsFromTo (drop n ps) (drop n bs) (drop n is)
from-to-back zero ps bs is h = h
from-to-back (suc n) [] [] [] h = tt
from-to-back (suc n) [] [] (i ∷ is) h = absurd h
from-to-back (suc n) [] (b ∷ bs) is h = absurd h
from-to-back (suc n) (a ∷ ps) [] is h = absurd h
from-to-back (suc n) (a ∷ ps) (b ∷ bs) [] h = absurd h
from-to-back (suc n) (a ∷ ps) (b ∷ bs) (i ∷ is) h = from-to-back n ps bs is h.2

-- an index whose front, or whose back, is another one's
pub from-to-with-front : (n : ℕ) (ps bs is : List ℕ) → n ≤ length ps → IsFromTo ps bs bs → IsFromTo (take n ps) (take n bs) is → IsFromTo ps bs (is ++ drop n ps)
from-to-with-front zero ps bs [] h o f = from-to-first ps bs bs o
from-to-with-front zero ps bs (i ∷ is) h o f = absurd f
from-to-with-front (suc n) [] bs is h o f = absurd (omega (arith, h))
from-to-with-front (suc n) (a ∷ ps) [] is h o f = absurd o
from-to-with-front (suc n) (a ∷ ps) (b ∷ bs) [] h o f = absurd f
from-to-with-front (suc n) (a ∷ ps) (b ∷ bs) (i ∷ is) h o f = (f.0, f.1, from-to-with-front n ps bs is (omega (arith, h)) o.2 f.2)

pub from-to-with-back : (n : ℕ) (ps bs is : List ℕ) → n ≤ length ps → IsFromTo ps bs bs → IsFromTo (drop n ps) (drop n bs) is → IsFromTo ps bs (take n ps ++ is)
from-to-with-back zero ps bs is h o f = f
from-to-with-back (suc n) [] bs is h o f = absurd (omega (arith, h))
from-to-with-back (suc n) (a ∷ ps) [] is h o f = absurd o
from-to-with-back (suc n) (a ∷ ps) (b ∷ bs) is h o f = (omega arith, omega (arith, o.0), from-to-with-back n ps bs is (omega (arith, h)) o.2 f)
