-- Rechunks are well formed: their parts lie in both blocks, and cover each index once.
use Rattle.std.proofs.Common.{◌≡◌, ℕ, zero, suc, ◌+◌, ◌-◌, ◌*◌, ◌<◌, ◌≤◌, cond, Bool, true, false, ◌&&◌, min, max, List, [], ◌∷◌, ◌++◌, length, map, take, get_or, refl, ap, sym, subst, ◌∙◌, arith, inl, inr}
use Rattle.std.specs.Prelude.{nat_lt, not}
use Rattle.std.specs.List.{AllByRecursion, flat_map}
use Rattle.std.proofs.lemmas.Bool.{cases_lt}
use Rattle.std.proofs.lemmas.List.{length-map, get_or-map}
use Rattle.std.proofs.lemmas.List.Elements.{All-from_recursion}
use Rattle.nd_shape.specs.Shape.{IsShape}
use Rattle.nd_shape.specs.Index.{IsIn}
use Rattle.nd_shape.specs.Region.{IsPart}
use Rattle.nd_shape.specs.Chunk.{total}
use Rattle.nd_shape.specs.declared.region.Piece.{Piece}
use Rattle.array_expr.specs.declared.expr.Node.{Node}
use Rattle.chunk_layout.specs.Layouts.{counts, lengths, starts_at, lengths_at}
use Rattle.chunk_layout.specs.Plans.{Overlap, overlaps_from, overlaps, overlaps_at, tuples, chunks_in, from_box, to_box, parts}
use Rattle.chunk_layout.proofs.Parting.{total-before}
use Rattle.block_kernels.specs.Kernels.{is_within}
use Rattle.block_kernels.specs.WellFormed.{FitsPiece, FitsAssemble, covered}
use Rattle.lowering_laws.specs.Sources.{Source, Made, placed, rechunk_task, rechunked, same_layout, fitted}
use Rattle.lowering_laws.proofs.Pieces.{covers, TupleFits, some-overlap, all-tuples, parts-fit}
use Rattle.lowering_laws.proofs.Formed.{AreFormed, formed-each, box-shape}
use Rattle.chunk_layout.proofs.Crossing.{nothing}

-- ---- each part lies in both blocks

part-cons : (s l n : ℕ) (ss ls ns : List ℕ) → s + l ≤ n → IsPart (record { start = ss; lengths = ls }) ns → IsPart (record { start = s ∷ ss; lengths = l ∷ ls }) (n ∷ ns)
part-cons s l n ss ls ns h p = record { starts = ap suc p.starts; lengths = ap suc p.lengths; ends = ends s l n ss ls ns h p.ends }
  where
    ends : (s l n : ℕ) (ss ls ns : List ℕ) → s + l ≤ n → ((k : ℕ) → k < length ns → get_or ss k 0 + get_or ls k 0 ≤ get_or ns k 0) → (k : ℕ) → k < length (n ∷ ns) → get_or (s ∷ ss) k 0 + get_or (l ∷ ls) k 0 ≤ get_or (n ∷ ns) k 0
    ends s l n ss ls ns h e zero lt = h
    ends s l n ss ls ns h e (suc k) lt = e k (omega arith)

none-part : IsPart (record { start = []; lengths = [] }) []
none-part = record { starts = refl; lengths = refl; ends = λ k lt. absurd (omega arith) }

from-part : (from : List (List ℕ)) (lows : List ℕ) (os : List Overlap) → TupleFits from lows os → IsPart (from_box os) (lengths_at from (chunks_in os))
from-part [] lows os f = subst (λ (xs : List Overlap). IsPart (from_box xs) (lengths_at [] (chunks_in xs))) (sym f) none-part
from-part (sizes ∷ from) [] os f = absurd f
from-part (sizes ∷ from) (low ∷ lows) [] f = absurd f
from-part (sizes ∷ from) (low ∷ lows) (o ∷ os) f =
    part-cons o.from o.len (get_or sizes o.chunk 0) (map (λ (o : Overlap). o.from) os) (map (λ (o : Overlap). o.len) os) (lengths_at from (chunks_in os)) f.0.inside (from-part from lows os f.1)

-- the parts end in a block of these lengths
abbrev TupleEnds : List ℕ → List Overlap → Type 0
TupleEnds [] [] = Unit {0}
TupleEnds [] (o ∷ os) = ⊥
TupleEnds (n ∷ ns) [] = ⊥
TupleEnds (n ∷ ns) (o ∷ os) = (o.to + o.len ≤ n) × TupleEnds ns os

to-part : (ns : List ℕ) (os : List Overlap) → TupleEnds ns os → IsPart (to_box os) ns
to-part [] [] e = none-part
to-part [] (o ∷ os) e = absurd e
to-part (n ∷ ns) [] e = absurd e
to-part (n ∷ ns) (o ∷ os) e = part-cons o.to o.len n (map (λ (o : Overlap). o.to) os) (map (λ (o : Overlap). o.len) os) ns e.0 (to-part ns os e.1)

ends-from : (k at low n : ℕ) (rest : List ℕ) → AllByRecursion (λ (o : Overlap). o.to + o.len ≤ n) (overlaps_from k at low (low + n) rest)
ends-from k at low n [] = tt
ends-from k at low n (s ∷ rest) =
    let r = ends-from (suc k) (at + s) low n rest in
    elim (cases_lt (max low at) (min (low + n) (at + s))) [
      | inl lt ↦ subst (AllByRecursion (λ (o : Overlap). o.to + o.len ≤ n)) (sym (some-overlap k at low (max low at) (min (low + n) (at + s)) _ lt)) (omega arith, r)
      | inr ge ↦ subst (AllByRecursion (λ (o : Overlap). o.to + o.len ≤ n)) (sym (nothing k at low (max low at) (min (low + n) (at + s)) _ ge)) r
    ]

parts-end : (from to : List (List ℕ)) (bs : List ℕ) → length from ≡ length to → IsIn (counts to) bs → AllByRecursion (TupleEnds (lengths_at to bs)) (parts from to bs)
parts-end [] [] bs e h = (tt, tt)
parts-end [] (ys ∷ to) bs e h = absurd (omega arith)
parts-end (xs ∷ from) [] bs e h = absurd (omega arith)
parts-end (xs ∷ from) (ys ∷ to) [] e h = absurd h
parts-end (xs ∷ from) (ys ∷ to) (b ∷ bs) e h =
    all-tuples (λ (o : Overlap). o.to + o.len ≤ get_or ys b 0) (TupleEnds (lengths_at to bs)) (TupleEnds (lengths_at (ys ∷ to) (b ∷ bs))) (overlaps xs ys b) (tuples (overlaps_at from to bs))
    (λ x t p q. (p, q)) (ends-from 0 0 (total (take b ys)) (get_or ys b 0) xs) (parts-end from to bs (omega arith) h.1)

-- pieces whose sources are the inputs from number p on
pieces-fit : (from : List (List ℕ)) (lows shape : List ℕ) (inputs : List (List ℕ)) (p : ℕ) (oss : List (List Overlap)) → p + length oss ≤ length inputs → ((j : ℕ) → j < length oss → get_or inputs (p + j) [] ≡ lengths_at from (chunks_in (get_or oss j [])))
    → AllByRecursion (TupleFits from lows) oss → AllByRecursion (TupleEnds shape) oss → AllByRecursion (λ (q : Piece). FitsPiece q inputs shape) (placed p oss)
pieces-fit from lows shape inputs p [] n at f e = tt
pieces-fit from lows shape inputs p (os ∷ oss) n at f e =
    let z : p + 0 ≡ p = omega arith in
    let here : get_or inputs p [] ≡ lengths_at from (chunks_in os) = ap (λ k. get_or inputs k []) (sym z) ∙ at 0 (omega arith) in (
      record { source_in = omega arith; source = subst (IsPart (from_box os)) (sym here) (from-part from lows os f.0); result = to-part shape os e.0; same = refl },
      pieces-fit from lows shape inputs (suc p) oss (omega arith) (λ j lt. let y : p + suc j ≡ suc p + j = omega arith in ap (λ k. get_or inputs k []) (sym y) ∙ at (suc j) (omega arith)) f.1 e.1,
    )

-- ---- each index is covered once

abbrev one_if : Bool → ℕ
one_if b = cond b 1 0

-- how many parts of an axis cover a place, and how many parts of a block an index
abbrev covering : ℕ → List Overlap → ℕ
covering i [] = 0
covering i (o ∷ os) = one_if (covers i o) + covering i os

abbrev hits : List ℕ → List (List Overlap) → ℕ
hits is [] = 0
hits is (os ∷ oss) = one_if (is_within (to_box os).start (to_box os).lengths is) + hits is oss

outside : (i to len : ℕ) → i < to → one_if (not (nat_lt i to) && nat_lt i (to + len)) ≡ 0
outside i to len h = grind arith

passed : (i to len : ℕ) → to + len ≤ i → one_if (not (nat_lt i to) && nat_lt i (to + len)) ≡ 0
passed i to len h = grind arith

inside : (i to len : ℕ) → to ≤ i → i < to + len → one_if (not (nat_lt i to) && nat_lt i (to + len)) ≡ 1
inside i to len a b = grind arith

none-before : (k at low high i : ℕ) (rest : List ℕ) → low + i < at → covering i (overlaps_from k at low high rest) ≡ 0
none-before k at low high i [] h = refl
none-before k at low high i (s ∷ rest) h =
    let r : covering i (overlaps_from (suc k) (at + s) low high rest) ≡ 0 = none-before (suc k) (at + s) low high i rest (omega arith) in
    elim (cases_lt (max low at) (min high (at + s))) [
      | inl o ↦ let c : one_if (not (nat_lt i (max low at - low)) && nat_lt i (max low at - low + (min high (at + s) - max low at))) ≡ 0 = outside i (max low at - low) (min high (at + s) - max low at) (omega arith) in
          ap (covering i) (some-overlap k at low (max low at) (min high (at + s)) (overlaps_from (suc k) (at + s) low high rest) o) ∙ both _ _ c r
      | inr o ↦ ap (covering i) (nothing k at low (max low at) (min high (at + s)) (overlaps_from (suc k) (at + s) low high rest) o) ∙ r
    ]
  where
    both : (a b : ℕ) → a ≡ 0 → b ≡ 0 → a + b ≡ 0
    both a b e f = omega arith

one-from : (k at low high i : ℕ) (rest : List ℕ) → at ≤ low + i → low + i < at + total rest → low + i < high → covering i (overlaps_from k at low high rest) ≡ 1
one-from k at low high i [] a b c = absurd (omega arith)
one-from k at low high i (s ∷ rest) a b c = elim (cases_lt (low + i) (at + s)) [
  | inl lt ↦ let o : max low at < min high (at + s) = omega arith in
      ap (covering i) (some-overlap k at low (max low at) (min high (at + s)) (overlaps_from (suc k) (at + s) low high rest) o)
      ∙ sum _ 1 _ 0 (inside i (max low at - low) (min high (at + s) - max low at) (omega arith) (omega arith)) (none-before (suc k) (at + s) low high i rest lt)
  | inr ge ↦ let r : covering i (overlaps_from (suc k) (at + s) low high rest) ≡ 1 = one-from (suc k) (at + s) low high i rest ge (omega arith) c in
      elim (cases_lt (max low at) (min high (at + s))) [
        | inl o ↦ ap (covering i) (some-overlap k at low (max low at) (min high (at + s)) (overlaps_from (suc k) (at + s) low high rest) o)
            ∙ sum _ 0 _ 1 (passed i (max low at - low) (min high (at + s) - max low at) (omega arith)) r
        | inr o ↦ ap (covering i) (nothing k at low (max low at) (min high (at + s)) (overlaps_from (suc k) (at + s) low high rest) o) ∙ r
      ]
]
  where
    sum : (a m b n : ℕ) → a ≡ m → b ≡ n → a + b ≡ m + n
    sum a m b n e f = omega arith

overlaps-once : (from to : List ℕ) (b i : ℕ) → total (take b to) + get_or to b 0 ≤ total from → i < get_or to b 0 → covering i (overlaps from to b) ≡ 1
overlaps-once from to b i h lt = one-from 0 0 (total (take b to)) (total (take b to) + get_or to b 0) i from (omega arith) (omega arith) (omega arith)

hits-append : (is : List ℕ) (xs ys : List (List Overlap)) → hits is (xs ++ ys) ≡ hits is xs + hits is ys
hits-append is [] ys = omega arith
hits-append is (x ∷ xs) ys = omega (arith, hits-append is xs ys)

hits-mapped : (i : ℕ) (is : List ℕ) (o : Overlap) (ts : List (List Overlap)) → hits (i ∷ is) (map (λ t. o ∷ t) ts) ≡ one_if (covers i o) * hits is ts
hits-mapped i is o [] = none (one_if (covers i o))
  where
    none : (n : ℕ) → 0 ≡ n * 0
    none n = omega arith
hits-mapped i is o (t ∷ ts) = step (covers i o) (is_within (to_box t).start (to_box t).lengths is) (hits (i ∷ is) (map (λ t. o ∷ t) ts)) (hits is ts) (hits-mapped i is o ts)
  where
    step : (a b : Bool) (m n : ℕ) → m ≡ one_if a * n → one_if (a && b) + m ≡ one_if a * (one_if b + n)
    step true true m n e = omega arith
    step true false m n e = omega arith
    step false b m n e = omega arith

hits-tuples : (i : ℕ) (is : List ℕ) (os : List Overlap) (ts : List (List Overlap)) → hits (i ∷ is) (flat_map (λ x. map (λ t. x ∷ t) ts) os) ≡ covering i os * hits is ts
hits-tuples i is [] ts = omega arith
hits-tuples i is (o ∷ os) ts =
    hits-append (i ∷ is) (map (λ t. o ∷ t) ts) (flat_map (λ x. map (λ t. x ∷ t) ts) os)
    ∙ spread (hits (i ∷ is) (map (λ t. o ∷ t) ts)) (hits (i ∷ is) (flat_map (λ x. map (λ t. x ∷ t) ts) os)) (one_if (covers i o)) (covering i os) (hits is ts) (hits-mapped i is o ts) (hits-tuples i is os ts)
  where
    spread : (a b m n h : ℕ) → a ≡ m * h → b ≡ n * h → a + b ≡ (m + n) * h
    spread a b m n h e f = omega arith

parts-once : (from to : List (List ℕ)) (bs is : List ℕ) → lengths from ≡ lengths to → IsIn (counts to) bs → IsIn (lengths_at to bs) is → hits is (parts from to bs) ≡ 1
parts-once [] [] bs is e h g = refl
parts-once [] (ys ∷ to) bs is e h g = absurd cc
parts-once (xs ∷ from) [] bs is e h g = absurd cc
parts-once (xs ∷ from) (ys ∷ to) [] is e h g = absurd h
parts-once (xs ∷ from) (ys ∷ to) (b ∷ bs) [] e h g = absurd g
parts-once (xs ∷ from) (ys ∷ to) (b ∷ bs) (i ∷ is) e h g =
    let head : total xs ≡ total ys = cc in
    let tail : lengths from ≡ lengths to = cc in
    hits-tuples i is (overlaps xs ys b) (tuples (overlaps_at from to bs))
    ∙ ap (λ n. n * hits is (parts from to bs)) (overlaps-once xs ys b i (omega (arith, total-before ys b h.0)) g.0)
    ∙ ap (λ n. 1 * n) (parts-once from to bs is tail h.1 g.1)

covered-placed : (is : List ℕ) (p : ℕ) (oss : List (List Overlap)) → covered (placed p oss) is ≡ hits is oss
covered-placed is p [] = refl
covered-placed is p (os ∷ oss) = ap (λ n. one_if (is_within (to_box os).start (to_box os).lengths is) + n) (covered-placed is (suc p) oss)

-- ---- the stage

assembles : (from to : List (List ℕ)) (bs : List ℕ) → lengths from ≡ lengths to → IsIn (counts to) bs
    → FitsAssemble (placed 0 (parts from to bs)) (map (λ os. lengths_at from (chunks_in os)) (parts from to bs)) (lengths_at to bs)
assembles from to bs e h =
    let oss = parts from to bs in
    let inputs = map (λ os. lengths_at from (chunks_in os)) (parts from to bs) in
    let same : length from ≡ length to = sym (length-map from (λ (sizes : List ℕ). total sizes)) ∙ ap length e ∙ length-map to (λ (sizes : List ℕ). total sizes) in
    let count : length (map (λ os. lengths_at from (chunks_in os)) (parts from to bs)) ≡ length (parts from to bs) = length-map (parts from to bs) (λ os. lengths_at from (chunks_in os)) in
    record {
      each = All-from_recursion (λ (q : Piece). FitsPiece q inputs (lengths_at to bs)) (placed 0 oss)
          (pieces-fit from (starts_at to bs) (lengths_at to bs) inputs 0 oss (omega arith)
          (λ j lt. let z : 0 + j ≡ j = omega arith in ap (λ k. get_or inputs k []) z ∙ get_or-map (λ os. lengths_at from (chunks_in os)) oss j [] [] lt)
          (parts-fit from to bs same h) (parts-end from to bs same h));
      once = λ is g. covered-placed is 0 oss ∙ parts-once from to bs is e h g;
    }

pub formed-rechunked : (nodes : List Node) (s : Source) (layout : List (List ℕ)) (base : ℕ) → lengths s.layout ≡ lengths layout → IsShape (lengths layout) → AreFormed nodes (rechunked base s layout).tasks
formed-rechunked nodes s layout base e sh =
    formed-each nodes base layout (rechunk_task s layout) (λ bs h. record { made = record { rules = assembles s.layout layout bs e h; shape = box-shape layout bs sh h }; loads = tt })

pub formed-fitted : (nodes : List Node) (s : Source) (layout : List (List ℕ)) (base : ℕ) → lengths s.layout ≡ lengths layout → IsShape (lengths layout) → AreFormed nodes (fitted base s layout).tasks
formed-fitted nodes s layout base e sh = in-case (same_layout s.layout layout)
  where
    in-case : (c : Bool) → AreFormed nodes (cond {A = Made} c (record { tasks = []; source = s }) (rechunked base s layout)).tasks
    in-case true = tt
    in-case false = formed-rechunked nodes s layout base e sh
