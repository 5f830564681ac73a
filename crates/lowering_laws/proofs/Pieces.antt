-- A block that is put together of parts of blocks of another layout.
use Rattle.std.proofs.Common.{◌≡◌, ℕ, suc, ◌+◌, ◌-◌, ◌<◌, ◌≤◌, cond, Bool, true, false, ◌&&◌, ◌||◌, min, max, List, [], ◌∷◌, ◌++◌, length, map, take, get_or, refl, ap, sym, subst, ◌∙◌, arith, inl, inr}
use Rattle.std.specs.Prelude.{nat_lt, not}
use Rattle.std.specs.List.{list_any, flat_map, AllByRecursion}
use Rattle.std.proofs.lemmas.Bool.{cases_lt, or_right, or_left, ltb-true}
use Rattle.nd_shape.specs.Index.{IsIn}
use Rattle.nd_shape.specs.Region.{moved}
use Rattle.nd_shape.specs.Chunk.{total}
use Rattle.nd_shape.proofs.Places.{IsIn-length}
use Rattle.std.proofs.lemmas.List.{length-map}
use Rattle.std.proofs.Math.Nat.{add-zero}
use Rattle.small_facts.proofs.Every.{all_join}
use Rattle.small_facts.proofs.Truth.{and_first, and_second}
use Rattle.chunk_layout.proofs.Parting.{total-before, length-lengths, length-starts}
use Rattle.nd_grid.specs.Grid.{Grid, Holds}
use Rattle.chunk_layout.specs.Layouts.{counts, lengths, starts_at, lengths_at, box_at}
use Rattle.chunk_layout.specs.Plans.{Overlap, with_overlap, overlaps_from, overlaps, overlaps_at, tuples, chunks_in, from_box, to_box, parts}
use Rattle.block_kernels.specs.Kernels.{nth, counted, is_within, in_pieces, assembled}
use Rattle.lowering_laws.specs.Sources.{placed}
use Rattle.task_graph.proofs.Rising.{all-mapped}
use Rattle.chunk_layout.proofs.Crossing.{nothing}

-- ---- the overlaps of one axis

-- the part lies in its chunk, and is the same place of the axis there as in the range that begins at `low`
pub record OverlapFits (sizes : List ℕ) (low : ℕ) (o : Overlap) : Type 0 where
  pub there : o.chunk < length sizes
  pub inside : o.from + o.len ≤ get_or sizes o.chunk 0
  pub same : total (take o.chunk sizes) + o.from ≡ low + o.to

-- sizes of which the first ones were passed
record Passed (all : List ℕ) (k at : ℕ) (rest : List ℕ) : Type 0 where
  before : k + length rest ≡ length all
  sum : total (take k all) ≡ at
  each : (j : ℕ) → get_or rest j 0 ≡ get_or all (k + j) 0
  more : (j : ℕ) → total (take j rest) + at ≡ total (take (k + j) all)

passed-next : (all : List ℕ) (k at s : ℕ) (rest : List ℕ) → Passed all k at (s ∷ rest) → Passed all (suc k) (at + s) rest
passed-next all k at s rest p =
    let one : k + 1 ≡ suc k = omega arith in
    record {
      before = omega (arith, p.before);
      sum = let m : total (take 1 (s ∷ rest)) + at ≡ total (take (k + 1) all) = p.more 1 in ap (λ j. total (take j all)) (sym one) ∙ sym m ∙ omega arith;
      each = λ j. let e : k + suc j ≡ suc k + j = omega arith in p.each (suc j) ∙ ap (λ i. get_or all i 0) e;
      more = λ j. let e : k + suc j ≡ suc k + j = omega arith in let m : total (take (suc j) (s ∷ rest)) + at ≡ total (take (k + suc j) all) = p.more (suc j) in regroup (total (take j rest)) at s ∙ m ∙ ap (λ i. total (take i all)) e;
    }
  where
    regroup : (t at s : ℕ) → t + (at + s) ≡ s + t + at
    regroup t at s = omega arith

pub some-overlap : (k at low a b : ℕ) (more : List Overlap) → a < b → with_overlap k at low a b more ≡ record { chunk = k; from = a - at; to = a - low; len = b - a } ∷ more
some-overlap k at low a b more h = grind arith

fits-from : (all : List ℕ) (k at low high : ℕ) (rest : List ℕ) → Passed all k at rest → low ≤ high → AllByRecursion (OverlapFits all low) (overlaps_from k at low high rest)
fits-from all k at low high [] p h = tt
fits-from all k at low high (s ∷ rest) p h =
    let r = fits-from all (suc k) (at + s) low high rest (passed-next all k at s rest p) h in
    elim (cases_lt (max low at) (min high (at + s))) [
      | inl lt ↦ subst (AllByRecursion (OverlapFits all low)) (sym (some-overlap k at low (max low at) (min high (at + s)) _ lt))
          (let b = p.before in let z : k + 0 ≡ k = omega arith in
          let e : s ≡ get_or all k 0 = p.each 0 ∙ ap (λ i. get_or all i 0) z in
          let m = p.sum in
          (record { there = omega arith; inside = omega (arith, e); same = omega arith }, r))
      | inr ge ↦ subst (AllByRecursion (OverlapFits all low)) (sym (nothing k at low (max low at) (min high (at + s)) _ ge)) r
    ]

passed-none : (all : List ℕ) → Passed all 0 0 all
passed-none all = record {
  before = omega arith;
  sum = refl;
  each = λ j. let e : 0 + j ≡ j = omega arith in ap (λ i. get_or all i 0) (sym e);
  more = λ j. let e : 0 + j ≡ j = omega arith in add-zero (total (take j all)) ∙ ap (λ i. total (take i all)) (sym e);
}

pub overlaps-fit : (from to : List ℕ) (b : ℕ) → AllByRecursion (OverlapFits from (total (take b to))) (overlaps from to b)
overlaps-fit from to b = fits-from from 0 0 (total (take b to)) (total (take b to) + get_or to b 0) from (passed-none from) (omega arith)

-- ---- each place of the range is in one of them

abbrev pub covers : ℕ → Overlap → Bool
covers i o = not (nat_lt i o.to) && nat_lt i (o.to + o.len)

covered : (i to len : ℕ) → to ≤ i → i < to + len → (not (nat_lt i to) && nat_lt i (to + len)) ≡ true
covered i to len a b = grind arith

any-from : (k at low high i : ℕ) (rest : List ℕ) → at ≤ low + i → low + i < at + total rest → low + i < high → list_any (covers i) (overlaps_from k at low high rest) ≡ true
any-from k at low high i [] a b c = absurd (omega arith)
any-from k at low high i (s ∷ rest) a b c = elim (cases_lt (low + i) (at + s)) [
  | inl lt ↦ let o : max low at < min high (at + s) = omega arith in
      ap (list_any (covers i)) (some-overlap k at low (max low at) (min high (at + s)) (overlaps_from (suc k) (at + s) low high rest) o)
      ∙ or_left (covers i (record { chunk = k; from = max low at - at; to = max low at - low; len = min high (at + s) - max low at })) _ (covered i (max low at - low) (min high (at + s) - max low at) (omega arith) (omega arith))
  | inr ge ↦ let r = any-from (suc k) (at + s) low high i rest ge (omega arith) c in
      elim (cases_lt (max low at) (min high (at + s))) [
        | inl o ↦ ap (list_any (covers i)) (some-overlap k at low (max low at) (min high (at + s)) (overlaps_from (suc k) (at + s) low high rest) o) ∙ or_right _ _ r
        | inr o ↦ ap (list_any (covers i)) (nothing k at low (max low at) (min high (at + s)) (overlaps_from (suc k) (at + s) low high rest) o) ∙ r
      ]
]

pub overlaps-any : (from to : List ℕ) (b i : ℕ) → total (take b to) + get_or to b 0 ≤ total from → i < get_or to b 0 → list_any (covers i) (overlaps from to b) ≡ true
overlaps-any from to b i h lt = any-from 0 0 (total (take b to)) (total (take b to) + get_or to b 0) i from (omega arith) (omega arith) (omega arith)

-- ---- on all axes

-- the parts on each axis fit the cut there
abbrev pub TupleFits : List (List ℕ) → List ℕ → List Overlap → Type 0
TupleFits [] lows os = os ≡ []
TupleFits (sizes ∷ from) [] os = ⊥
TupleFits (sizes ∷ from) (low ∷ lows) [] = ⊥
TupleFits (sizes ∷ from) (low ∷ lows) (o ∷ os) = OverlapFits sizes low o × TupleFits from lows os

pub all-tuples : {A : Type 0} (P : A → Type 0) (Q R : List A → Type 0) (xs : List A) (ts : List (List A)) → ((x : A) (t : List A) → P x → Q t → R (x ∷ t)) → AllByRecursion P xs → AllByRecursion Q ts
    → AllByRecursion R (flat_map (λ x. map (λ t. x ∷ t) ts) xs)
all-tuples P Q R [] ts h a b = tt
all-tuples P Q R (x ∷ xs) ts h a b =
    all_join R (map (λ t. x ∷ t) ts) (flat_map (λ x. map (λ t. x ∷ t) ts) xs) (all-mapped Q R (λ t. x ∷ t) ts (λ t q. h x t a.0 q) b) (all-tuples P Q R xs ts h a.1 b)

pub parts-fit : (from to : List (List ℕ)) (bs : List ℕ) → length from ≡ length to → IsIn (counts to) bs → AllByRecursion (TupleFits from (starts_at to bs)) (parts from to bs)
parts-fit [] to bs e h = (refl, tt)
parts-fit (xs ∷ from) [] bs e h = absurd (omega arith)
parts-fit (xs ∷ from) (ys ∷ to) [] e h = absurd h
parts-fit (xs ∷ from) (ys ∷ to) (b ∷ bs) e h =
    all-tuples (OverlapFits xs (total (take b ys))) (TupleFits from (starts_at to bs)) (TupleFits (xs ∷ from) (starts_at (ys ∷ to) (b ∷ bs))) (overlaps xs ys b) (tuples (overlaps_at from to bs))
    (λ x t p q. (p, q)) (overlaps-fit xs ys b) (parts-fit from to bs (omega arith) h.1)

abbrev within : List ℕ → List Overlap → Bool
within is os = is_within (to_box os).start (to_box os).lengths is

any-append : {A : Type 0} (p : A → Bool) (xs ys : List A) → list_any p ys ≡ true → list_any p (xs ++ ys) ≡ true
any-append p [] ys h = h
any-append p (x ∷ xs) ys h = or_right (p x) (list_any p (xs ++ ys)) (any-append p xs ys h)

any-front : {A : Type 0} (p : A → Bool) (xs ys : List A) → list_any p xs ≡ true → list_any p (xs ++ ys) ≡ true
any-front p [] ys h = cc
any-front p (x ∷ xs) ys h = one (p x) (list_any p xs) (list_any p (xs ++ ys)) h (any-front p xs ys)
  where
    one : (a b c : Bool) → (a || b) ≡ true → (b ≡ true → c ≡ true) → (a || c) ≡ true
    one true b c h k = refl
    one false b c h k = k h

any-mapped : (i : ℕ) (is : List ℕ) (o : Overlap) (ts : List (List Overlap)) → covers i o ≡ true → list_any (within is) ts ≡ true → list_any (within (i ∷ is)) (map (λ t. o ∷ t) ts) ≡ true
any-mapped i is o [] c h = cc
any-mapped i is o (t ∷ ts) c h = one (covers i o) (within is t) (list_any (within is) ts) (list_any (within (i ∷ is)) (map (λ t. o ∷ t) ts)) c h (any-mapped i is o ts c)
  where
    one : (a b c d : Bool) → a ≡ true → (b || c) ≡ true → (c ≡ true → d ≡ true) → ((a && b) || d) ≡ true
    one true true c d e h k = refl
    one true false c d e h k = k h
    one false b c d e h k = cc

any-tuples : (i : ℕ) (is : List ℕ) (os : List Overlap) (ts : List (List Overlap)) → list_any (covers i) os ≡ true → list_any (within is) ts ≡ true
    → list_any (within (i ∷ is)) (flat_map (λ x. map (λ t. x ∷ t) ts) os) ≡ true
any-tuples i is [] ts a b = cc
any-tuples i is (o ∷ os) ts a b =
    elim (covers i o) as (λ c. covers i o ≡ c → (c || list_any (covers i) os) ≡ true → list_any (within (i ∷ is)) (map (λ t. o ∷ t) ts ++ flat_map (λ x. map (λ t. x ∷ t) ts) os) ≡ true) [
      | true ↦ λ e h. any-front (within (i ∷ is)) (map (λ t. o ∷ t) ts) _ (any-mapped i is o ts e b)
      | false ↦ λ e h. any-append (within (i ∷ is)) (map (λ t. o ∷ t) ts) _ (any-tuples i is os ts h b)
    ] refl a

pub parts-any : (from to : List (List ℕ)) (bs is : List ℕ) → lengths from ≡ lengths to → IsIn (counts to) bs → IsIn (lengths_at to bs) is → list_any (within is) (parts from to bs) ≡ true
parts-any [] [] bs is e h g = refl
parts-any [] (ys ∷ to) bs is e h g = absurd cc
parts-any (xs ∷ from) [] bs is e h g = absurd cc
parts-any (xs ∷ from) (ys ∷ to) [] is e h g = absurd h
parts-any (xs ∷ from) (ys ∷ to) (b ∷ bs) [] e h g = absurd g
parts-any (xs ∷ from) (ys ∷ to) (b ∷ bs) (i ∷ is) e h g =
    let head : total xs ≡ total ys = cc in
    let tail : lengths from ≡ lengths to = cc in
    any-tuples i is (overlaps xs ys b) (tuples (overlaps_at from to bs)) (overlaps-any xs ys b i (omega (arith, total-before ys b h.0)) g.0) (parts-any from to bs is tail h.1 g.1)

-- what a part has of an index that it covers
record PartAt (from : List (List ℕ)) (lows is : List ℕ) (os : List Overlap) : Type 0 where
  chunks : IsIn (counts from) (chunks_in os)
  inside : IsIn (lengths_at from (chunks_in os)) (moved (from_box os).start (counted (to_box os).start is))
  same : moved (starts_at from (chunks_in os)) (moved (from_box os).start (counted (to_box os).start is)) ≡ moved lows is

not-below : (i n : ℕ) → not (nat_lt i n) ≡ true → n ≤ i
not-below i n h = grind arith

part-at : (from : List (List ℕ)) (lows is : List ℕ) (os : List Overlap) → length is ≡ length from → TupleFits from lows os → length lows ≡ length from → within is os ≡ true → PartAt from lows is os
part-at [] [] [] os e f l w = record {
  chunks = subst (λ (xs : List Overlap). IsIn [] (chunks_in xs)) (sym f) tt;
  inside = subst (λ (xs : List Overlap). IsIn (lengths_at [] (chunks_in xs)) (moved (from_box xs).start (counted (to_box xs).start []))) (sym f) tt;
  same = refl;
}
part-at [] [] (i ∷ is) os e f l w = absurd (omega arith)
part-at [] (low ∷ lows) is os e f l w = absurd (omega arith)
part-at (sizes ∷ from) [] is os e f l w = absurd (omega arith)
part-at (sizes ∷ from) (low ∷ lows) [] os e f l w = absurd (omega arith)
part-at (sizes ∷ from) (low ∷ lows) (i ∷ is) [] e f l w = absurd f
part-at (sizes ∷ from) (low ∷ lows) (i ∷ is) (o ∷ os) e f l w =
    let head : covers i o ≡ true = and_first (covers i o) (within is os) w in
    let r : PartAt from lows is os = part-at from lows is os (omega arith) f.1 (omega arith) (and_second (covers i o) (within is os) w) in
    let a : o.to ≤ i = not-below i o.to (and_first _ _ head) in
    let b : i < o.to + o.len = ltb-true i (o.to + o.len) (and_second (not (nat_lt i o.to)) _ head) in
    let fit : OverlapFits sizes low o = f.0 in
    let fi = fit.inside in
    let fs = fit.same in
    let step : total (take o.chunk sizes) + (o.from + (i - o.to)) ≡ low + i = omega arith in
    record {
      chunks = (fit.there, r.chunks);
      inside = (omega arith, r.inside);
      same = ap (λ x. x ∷ moved (starts_at from (chunks_in os)) (moved (from_box os).start (counted (to_box os).start is))) step ∙ ap (λ xs. (low + i) ∷ xs) r.same;
    }

-- ---- the pieces

pieces-hold : (gs : List Grid) (w : Grid) (from : List (List ℕ)) (lows is : List ℕ) (p : ℕ) (oss : List (List Overlap)) → length is ≡ length from → length lows ≡ length from → AllByRecursion (TupleFits from lows) oss
    → ((j : ℕ) → j < length oss → IsIn (counts from) (chunks_in (get_or oss j [])) → Holds (nth gs (p + j)) w (box_at from (chunks_in (get_or oss j [])))) → list_any (within is) oss ≡ true
    → in_pieces (placed p oss) gs is ≡ w.at (moved lows is)
pieces-hold gs w from lows is p [] e l f h a = cc
pieces-hold gs w from lows is p (os ∷ oss) e l f h a =
    elim (within is os) as (λ c. within is os ≡ c → (c || list_any (within is) oss) ≡ true
    → cond c ((nth gs p).at (moved (from_box os).start (counted (to_box os).start is))) (in_pieces (placed (suc p) oss) gs is) ≡ w.at (moved lows is)) [
      | true ↦ λ t q.
          let r : PartAt from lows is os = part-at from lows is os e f.0 l t in
          let z : p + 0 ≡ p = omega arith in
          let hold : Holds (nth gs p) w (box_at from (chunks_in os)) = subst (λ k. Holds (nth gs k) w (box_at from (chunks_in os))) z (h 0 (omega arith) r.chunks) in
          hold.at (moved (from_box os).start (counted (to_box os).start is)) r.inside ∙ ap w.at r.same
      | false ↦ λ t q. pieces-hold gs w from lows is (suc p) oss e l f.1 (λ j lt c. let z : p + suc j ≡ suc p + j = omega arith in subst (λ k. Holds (nth gs k) w (box_at from (chunks_in (get_or oss j [])))) z (h (suc j) (omega arith) c)) q
    ] refl a

pub assembled-local : (gs : List Grid) (w : Grid) (from to : List (List ℕ)) (bs : List ℕ) → lengths from ≡ lengths to → IsIn (counts to) bs
    → ((j : ℕ) → j < length (parts from to bs) → IsIn (counts from) (chunks_in (get_or (parts from to bs) j [])) → Holds (nth gs j) w (box_at from (chunks_in (get_or (parts from to bs) j []))))
    → Holds (assembled (placed 0 (parts from to bs)) (lengths_at to bs) gs) w (box_at to bs)
assembled-local gs w from to bs e h holds =
    let same : length from ≡ length to = sym (length-map from (λ (sizes : List ℕ). total sizes)) ∙ ap length e ∙ length-map to (λ (sizes : List ℕ). total sizes) in
    record {
      shape = refl;
      at = λ is g. pieces-hold gs w from (starts_at to bs) is 0 (parts from to bs)
          (IsIn-length (lengths_at to bs) is g ∙ length-lengths to bs h ∙ sym same) (length-starts to bs h ∙ sym same) (parts-fit from to bs same h)
          (λ j lt c. let z : 0 + j ≡ j = omega arith in subst (λ k. Holds (nth gs k) w (box_at from (chunks_in (get_or (parts from to bs) j [])))) (sym z) (holds j lt c))
          (parts-any from to bs is e h g);
    }
