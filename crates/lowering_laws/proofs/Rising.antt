-- The parts of a block stand in the order of the blocks that they lie in.
use Rattle.std.proofs.Common.{◌≡◌, ℕ, suc, ◌+◌, ◌*◌, ◌<◌, ◌≤◌, List, [], ◌∷◌, length, map, get_or, sym, subst, arith, inl, inr}
use Rattle.std.specs.Prelude.{min, max, take}
use Rattle.std.specs.List.{AllByRecursion, flat_map}
use Rattle.std.proofs.lemmas.Bool.{cases_lt}
use Rattle.std.proofs.Math.Nat.{le-add_right, mul-le-mul_right}
use Rattle.nd_shape.specs.Index.{IsIn, place}
use Rattle.nd_shape.specs.Shape.{elements}
use Rattle.nd_shape.specs.Chunk.{total}
use Rattle.nd_shape.proofs.Places.{place-below}
use Rattle.cluster_msgs.proofs.Dags.{all-weaker}
use Rattle.chunk_layout.specs.Layouts.{counts, starts_at}
use Rattle.chunk_layout.specs.Plans.{Overlap, overlaps_from, overlaps, overlaps_at, tuples, chunks_in, parts}
use Rattle.task_graph.proofs.Rising.{Rises, all-mapped, rises-join}
use Rattle.lowering_laws.proofs.Pieces.{some-overlap, all-tuples, parts-fit, OverlapFits, TupleFits}
use Rattle.chunk_layout.proofs.Crossing.{nothing}

abbrev chunk_number : Overlap → ℕ
chunk_number o = o.chunk

overlaps-from : (k at low high : ℕ) (rest : List ℕ) → Rises chunk_number (overlaps_from k at low high rest) × AllByRecursion (λ o. k ≤ o.chunk) (overlaps_from k at low high rest)
overlaps-from k at low high [] = (tt, tt)
overlaps-from k at low high (s ∷ ss) =
    let r = overlaps-from (suc k) (at + s) low high ss in
    let more = overlaps_from (suc k) (at + s) low high ss in
    elim (cases_lt (max low at) (min high (at + s))) [
      | inl lt ↦ subst (λ (os : List Overlap). Rises chunk_number os × AllByRecursion (λ o. k ≤ o.chunk) os) (sym (some-overlap k at low (max low at) (min high (at + s)) more lt))
          ((all-weaker (λ o. suc k ≤ o.chunk) (λ o. k < o.chunk) more (λ o h. omega arith) r.1, r.0), (omega arith, all-weaker (λ o. suc k ≤ o.chunk) (λ o. k ≤ o.chunk) more (λ o h. omega arith) r.1))
      | inr ge ↦ subst (λ (os : List Overlap). Rises chunk_number os × AllByRecursion (λ o. k ≤ o.chunk) os) (sym (nothing k at low (max low at) (min high (at + s)) more ge))
          (r.0, all-weaker (λ o. suc k ≤ o.chunk) (λ o. k ≤ o.chunk) more (λ o h. omega arith) r.1)
    ]

overlaps-rise : (from to : List ℕ) (b : ℕ) → Rises chunk_number (overlaps from to b)
overlaps-rise from to b = (overlaps-from 0 0 (total (take b to)) (total (take b to) + get_or to b 0) from).0

abbrev pub place_in : List ℕ → List Overlap → ℕ
place_in ns os = place ns (chunks_in os)

-- the tuples with one first member, which is a chunk's
one-first : (n : ℕ) (ns : List ℕ) (x : Overlap) (ts : List (List Overlap)) → AllByRecursion (λ t. IsIn ns (chunks_in t)) ts → Rises (place_in ns) ts
    → Rises (place_in (n ∷ ns)) (map (λ t. x ∷ t) ts) × AllByRecursion (λ t. place_in (n ∷ ns) t < suc x.chunk * elements ns) (map (λ t. x ∷ t) ts) × AllByRecursion (λ t. x.chunk * elements ns ≤ place_in (n ∷ ns) t) (map (λ t. x ∷ t) ts)
one-first n ns x [] a r = (tt, tt, tt)
one-first n ns x (t ∷ ts) a r =
    let m = one-first n ns x ts a.1 r.1 in
    let b : place_in ns t < elements ns = place-below ns (chunks_in t) a.0 in (
      (all-mapped (λ u. place_in ns t < place_in ns u) (λ u. place_in (n ∷ ns) (x ∷ t) < place_in (n ∷ ns) u) (λ u. x ∷ u) ts (λ u h. shifted (x.chunk * elements ns) (place_in ns t) (place_in ns u) h) r.0, m.0),
      (below x.chunk (elements ns) (place_in ns t) b, m.1),
      (le-add_right (x.chunk * elements ns) (place_in ns t), m.2),
    )
  where
    shifted : (a b c : ℕ) → b < c → a + b < a + c
    shifted a b c h = omega arith

    below : (c e p : ℕ) → p < e → c * e + p < suc c * e
    below c e p h = omega arith

all-low : (n : ℕ) (ns : List ℕ) (low : ℕ) (xs : List Overlap) (ts : List (List Overlap)) → AllByRecursion (λ o. low ≤ o.chunk) xs → AllByRecursion (λ t. low * elements ns ≤ place_in (n ∷ ns) t) (flat_map (λ x. map (λ t. x ∷ t) ts) xs)
all-low n ns low xs ts a =
    all-tuples (λ o. low ≤ o.chunk) (λ t. Unit {0}) (λ t. low * elements ns ≤ place_in (n ∷ ns) t) xs ts (λ x t h u. at low x.chunk (elements ns) (place_in ns t) h) a (all-unit ts)
  where
    at : (l c e p : ℕ) → l ≤ c → l * e ≤ c * e + p
    at l c e p h = let m : l * e ≤ c * e = mul-le-mul_right e h in omega arith

    all-unit : (ts : List (List Overlap)) → AllByRecursion (λ t. Unit {0}) ts
    all-unit [] = tt
    all-unit (t ∷ ts) = (tt, all-unit ts)

tuples-rise : (n : ℕ) (ns : List ℕ) (xs : List Overlap) (ts : List (List Overlap)) → Rises chunk_number xs → AllByRecursion (λ t. IsIn ns (chunks_in t)) ts → Rises (place_in ns) ts
    → Rises (place_in (n ∷ ns)) (flat_map (λ x. map (λ t. x ∷ t) ts) xs)
tuples-rise n ns [] ts r a h = tt
tuples-rise n ns (x ∷ xs) ts r a h =
    let one = one-first n ns x ts a h in
    rises-join (place_in (n ∷ ns)) (suc x.chunk * elements ns) (map (λ t. x ∷ t) ts) (flat_map (λ x. map (λ t. x ∷ t) ts) xs) one.0 (tuples-rise n ns xs ts r.1 a h) one.1
    (all-low n ns (suc x.chunk) xs ts (all-weaker (λ o. x.chunk < o.chunk) (λ o. suc x.chunk ≤ o.chunk) xs (λ o g. omega arith) r.0))

pub tuple-in : (from : List (List ℕ)) (lows : List ℕ) (os : List Overlap) → TupleFits from lows os → IsIn (counts from) (chunks_in os)
tuple-in [] lows os f = subst (λ (xs : List Overlap). IsIn [] (chunks_in xs)) (sym f) tt
tuple-in (sizes ∷ from) [] os f = absurd f
tuple-in (sizes ∷ from) (low ∷ lows) [] f = absurd f
tuple-in (sizes ∷ from) (low ∷ lows) (o ∷ os) f = let t : OverlapFits sizes low o = f.0 in (t.there, tuple-in from lows os f.1)

-- the parts of a block stand in the order of the blocks that they lie in
pub parts-in : (from to : List (List ℕ)) (bs : List ℕ) → AllByRecursion (TupleFits from (starts_at to bs)) (parts from to bs) → AllByRecursion (λ t. IsIn (counts from) (chunks_in t)) (parts from to bs)
parts-in from to bs a = all-weaker (TupleFits from (starts_at to bs)) (λ t. IsIn (counts from) (chunks_in t)) (parts from to bs) (λ t f. tuple-in from (starts_at to bs) t f) a

pub parts-rise : (from to : List (List ℕ)) (bs : List ℕ) → length from ≡ length to → IsIn (counts to) bs → Rises (place_in (counts from)) (parts from to bs)
parts-rise [] to bs e h = (tt, tt)
parts-rise (xs ∷ from) [] bs e h = absurd (omega arith)
parts-rise (xs ∷ from) (ys ∷ to) [] e h = absurd h
parts-rise (xs ∷ from) (ys ∷ to) (b ∷ bs) e h =
    tuples-rise (length xs) (counts from) (overlaps xs ys b) (tuples (overlaps_at from to bs)) (overlaps-rise xs ys b) (parts-in from to bs (parts-fit from to bs (omega arith) h.1)) (parts-rise from to bs (omega arith) h.1)
