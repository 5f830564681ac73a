-- Loops that fold cells into totals.
use Rattle.std.proofs.Common.{◌≡◌, ◌≢◌, ℕ, ◌+◌, ◌*◌, ◌<◌, ◌≤◌, List, [], ◌∷◌, length, set, map, get_or, refl, ap, sym, subst, ◌∙◌, arith, ℤ, pos, Some, inl, inr, below_more}
use Rattle.std.specs.Prelude.{Option}
use Rattle.std.specs.List.{range_with_len}
use Rattle.std.proofs.Math.Nat.{le_refl, mul_assoc}
use Rattle.std.proofs.lemmas.Bool.{cases_lt}
use Rattle.std.proofs.lemmas.Nat.{row_fits}
use Rattle.std.proofs.lemmas.List.{get_or-set_same, get_or-set_other}
use Rattle.std.proofs.lemmas.List.FromFn.{map-range_with_len_more}
use Rattle.std.proofs.Math.Arith.{digits_lt}
use Rattle.nd_grid.specs.declared.operation.Fold.{Fold}
use Rattle.nd_grid.specs.Operation.{fold_two, combine_two, folded_from}
use Rattle.block_kernels.specs.Reducing.{TakesRow, TakesRows}
use Rattle.block_kernels.specs.Viewing.{TakesView}
use Rattle.nd_grid.proofs.Folding.{folded_from-push}

-- ---- a row

pub row-none : (fold : Fold) (place : ℕ) (cells : List ℤ) (from : ℕ) (old : List ℤ) → TakesRow fold place cells from 0 old old
row-none fold place cells from old = record { at = λ i h. absurd (omega arith); before = λ j h. refl; after = λ j h. refl }

pub row-more : (fold : Fold) (place : ℕ) (cells : List ℤ) (from i : ℕ) (old now : List ℤ) (x : ℤ) → place + i < length now → TakesRow fold place cells from i old now
    → x ≡ fold_two fold (get_or now (place + i) (pos 0)) (get_or cells (from + i) (pos 0)) → TakesRow fold place cells from (i + 1) old (set now (place + i) x)
row-more fold place cells from i old now x h t e = record {
  at = below_more (λ j. fold_two fold (get_or old (place + j) (pos 0)) (get_or cells (from + j) (pos 0)) ≡ get_or (set now (place + i) x) (place + j) (pos 0)) i
      (λ j b. let ne : place + j ≢ place + i = omega arith in t.at j b ∙ sym (get_or-set_other now (place + i) (place + j) x (pos 0) ne))
      (ap (λ y. fold_two fold y (get_or cells (from + i) (pos 0))) (sym (t.after (place + i) (omega arith))) ∙ sym e ∙ sym (get_or-set_same now (place + i) x (pos 0) h));
  before = λ j b. let ne : j ≢ place + i = omega arith in get_or-set_other now (place + i) j x (pos 0) ne ∙ t.before j b;
  after = λ j b. let ne : j ≢ place + i = omega arith in get_or-set_other now (place + i) j x (pos 0) ne ∙ t.after j (omega arith);
}

-- ---- rows

pub rows-none : (fold : Fold) (place : ℕ) (cells : List ℤ) (from count : ℕ) (old : List ℤ) → TakesRows fold place cells from 0 count old old
rows-none fold place cells from count old = record { at = λ i h. refl; before = λ j h. refl; after = λ j h. refl }

pub rows-more : (fold : Fold) (place : ℕ) (cells : List ℤ) (from rows count : ℕ) (old now new : List ℤ) → TakesRows fold place cells from rows count old now → TakesRow fold place cells (from + rows * count) count now new
    → TakesRows fold place cells from (rows + 1) count old new
rows-more fold place cells from rows count old now new t r = record {
  at = λ i h.
      let f : ℕ → Option ℤ = λ q. Some (get_or cells ((from + q * count) + i) (pos 0)) in
      let start : Option ℤ = Some (get_or old (place + i) (pos 0)) in
      ap (folded_from fold (Some (get_or old (place + i) (pos 0)))) (map-range_with_len_more f 0 rows rows (omega arith))
      ∙ folded_from-push fold (Some (get_or old (place + i) (pos 0))) (map f (range_with_len 0 rows)) (f rows)
      ∙ ap (λ x. combine_two fold x (f rows)) (t.at i h)
      ∙ ap Some (r.at i h);
  before = λ j h. r.before j h ∙ t.before j h;
  after = λ j h. r.after j h ∙ t.after j h;
}

-- ---- parts

pub view-none : (fold : Fold) (cells : List ℤ) (rows inner : ℕ) (old : List ℤ) → TakesView fold cells 0 rows inner old old
view-none fold cells rows inner old = record { at = λ o i ho hi. absurd (omega arith) }

pub next-part : (part inner : ℕ) → (part + 1) * inner ≡ part * inner + inner
next-part part inner = omega arith

cell-of : (part rows inner q i : ℕ) → (part * (rows * inner) + q * inner) + i ≡ (part * rows + q) * inner + i
cell-of part rows inner q i = omega arith

-- the list keeps the totals of the parts that are done, and those that follow
pub record Parts (fold : Fold) (cells : List ℤ) (part rows inner : ℕ) (old new : List ℤ) : Type 0 where
  pub taken : TakesView fold cells part rows inner old new
  pub later : (j : ℕ) → part * inner ≤ j → get_or new j (pos 0) ≡ get_or old j (pos 0)

pub parts-more : (fold : Fold) (cells : List ℤ) (part rows inner : ℕ) (old now new : List ℤ) → TakesView fold cells part rows inner old now → ((j : ℕ) → part * inner ≤ j → get_or now j (pos 0) ≡ get_or old j (pos 0))
    → TakesRows fold (part * inner) cells (part * (rows * inner)) rows inner now new → Parts fold cells (part + 1) rows inner old new
parts-more fold cells part rows inner old now new t l r = record {
  taken = record {
    at = λ o i ho hi.
        elim (cases_lt o part) [
          | inl b ↦ t.at o i b hi ∙ ap Some (sym (r.before (o * inner + i) (digits_lt b hi)))
          | inr b ↦ let same : part ≡ o = omega arith in
              subst (λ p. folded_from fold (Some (get_or old (p * inner + i) (pos 0))) (map (λ q. Some (get_or cells ((p * rows + q) * inner + i) (pos 0))) (range_with_len 0 rows)) ≡ Some (get_or new (p * inner + i) (pos 0))) same
              (ap (λ x. folded_from fold (Some x) (map (λ q. Some (get_or cells ((part * rows + q) * inner + i) (pos 0))) (range_with_len 0 rows))) (sym (l (part * inner + i) (omega arith)))
              ∙ ap (folded_from fold (Some (get_or now (part * inner + i) (pos 0)))) (map-cells i)
              ∙ r.at i hi)
        ];
  };
  later = λ j h. let n : (part + 1) * inner ≡ part * inner + inner = next-part part inner in r.after j (omega arith) ∙ l j (omega arith);
}
  where
    cell : (i q : ℕ) → ◌≡◌ {A = Option ℤ} (Some (get_or cells ((part * rows + q) * inner + i) (pos 0))) (Some (get_or cells ((part * (rows * inner) + q * inner) + i) (pos 0)))
    cell i q = ap (λ x. Some (get_or cells x (pos 0))) (sym (cell-of part rows inner q i))

    each : (i : ℕ) (xs : List ℕ) → map (λ q. Some (get_or cells ((part * rows + q) * inner + i) (pos 0))) xs ≡ map (λ q. Some (get_or cells ((part * (rows * inner) + q * inner) + i) (pos 0))) xs
    each i [] = refl
    each i (x ∷ xs) = ap (λ y. y ∷ map (λ q. Some (get_or cells ((part * rows + q) * inner + i) (pos 0))) xs) (cell i x) ∙ ap (λ ys. Some (get_or cells ((part * (rows * inner) + x * inner) + i) (pos 0)) ∷ ys) (each i xs)

    map-cells : (i : ℕ) → map (λ q. Some (get_or cells ((part * rows + q) * inner + i) (pos 0))) (range_with_len 0 rows) ≡ map (λ q. Some (get_or cells ((part * (rows * inner) + q * inner) + i) (pos 0))) (range_with_len 0 rows)
    map-cells i = each i (range_with_len 0 rows)

-- ---- rooms

pub row-room : (from row rows count len : ℕ) → row < rows → from + rows * count ≤ len → (from + row * count) + count ≤ len
row-room from row rows count len h e = omega (arith, row_fits row count rows count h (le_refl count))

pub part-room : (part outer inner len : ℕ) → part < outer → outer * inner ≤ len → part * inner + inner ≤ len
part-room part outer inner len h e = omega (arith, row_fits part inner outer inner h (le_refl inner))

pub part-cells : (part outer rows inner len : ℕ) → part < outer → (outer * rows) * inner ≤ len → part * (rows * inner) + rows * inner ≤ len
part-cells part outer rows inner len h e = part-room part outer (rows * inner) len h (subst (λ x. x ≤ len) (mul_assoc outer rows inner) e)

-- ---- one total

pub line-more : (fold : Fold) (total : ℤ) (cells : List ℤ) (from q : ℕ) (all x : ℤ) → folded_from fold (Some total) (map (λ p. Some (get_or cells (from + p) (pos 0))) (range_with_len 0 q)) ≡ Some all → x ≡ fold_two fold all (get_or cells (from + q) (pos 0))
    → folded_from fold (Some total) (map (λ p. Some (get_or cells (from + p) (pos 0))) (range_with_len 0 (q + 1))) ≡ Some x
line-more fold total cells from q all x h e =
    let f : ℕ → Option ℤ = λ p. Some (get_or cells (from + p) (pos 0)) in
    ap (folded_from fold (Some total)) (map-range_with_len_more f 0 q q (omega arith))
    ∙ folded_from-push fold (Some total) (map f (range_with_len 0 q)) (f q)
    ∙ ap (λ y. combine_two fold y (f q)) h
    ∙ ap Some (sym e)

-- a part with one total is a row of one
pub line-row : (fold : Fold) (part rows : ℕ) (cells now : List ℤ) (inner : ℕ) (x : ℤ) → inner ≡ 1 → part < length now
    → folded_from fold (Some (get_or now part (pos 0))) (map (λ q. Some (get_or cells (part * rows + q) (pos 0))) (range_with_len 0 rows)) ≡ Some x
    → TakesRows fold (part * inner) cells (part * (rows * inner)) rows inner now (set now part x)
line-row fold part rows cells now inner x one h e =
    let at : part * inner ≡ part = ap (λ n. part * n) one ∙ omega arith in
    record {
      at = λ i hi.
          let zi : i ≡ 0 = omega arith in
          let p0 : part * inner + i ≡ part = omega arith in
          ap (λ y. folded_from fold (Some (get_or now y (pos 0))) (map (λ q. Some (get_or cells ((part * (rows * inner) + q * inner) + i) (pos 0))) (range_with_len 0 rows))) p0
          ∙ ap (folded_from fold (Some (get_or now part (pos 0)))) (each i zi (range_with_len 0 rows))
          ∙ e
          ∙ ap Some (sym (ap (λ y. get_or (set now part x) y (pos 0)) p0 ∙ get_or-set_same now part x (pos 0) h));
      before = λ j hj. let ne : j ≢ part = omega arith in get_or-set_other now part j x (pos 0) ne;
      after = λ j hj. let ne : j ≢ part = omega arith in get_or-set_other now part j x (pos 0) ne;
    }
  where
    cell-place : (q i : ℕ) → i ≡ 0 → (part * (rows * inner) + q * inner) + i ≡ part * rows + q
    cell-place q i zi = ap (λ n. (part * (rows * n) + q * n) + i) one ∙ omega arith

    each : (i : ℕ) → i ≡ 0 → (xs : List ℕ) → map (λ q. Some (get_or cells ((part * (rows * inner) + q * inner) + i) (pos 0))) xs ≡ map (λ q. Some (get_or cells (part * rows + q) (pos 0))) xs
    each i zi [] = refl
    each i zi (q ∷ xs) =
        ap (λ y. Some (get_or cells y (pos 0)) ∷ map (λ q. Some (get_or cells ((part * (rows * inner) + q * inner) + i) (pos 0))) xs) (cell-place q i zi)
        ∙ ap (λ ys. Some (get_or cells (part * rows + q) (pos 0)) ∷ ys) (each i zi xs)

pub parts-none : (fold : Fold) (cells : List ℤ) (rows inner : ℕ) (old : List ℤ) → Parts fold cells 0 rows inner old old
parts-none fold cells rows inner old = record { taken = view-none fold cells rows inner old; later = λ j h. refl }

pub view-end : (fold : Fold) (cells : List ℤ) (part outer rows inner : ℕ) (old new : List ℤ) → outer ≤ part → Parts fold cells part rows inner old new → TakesView fold cells outer rows inner old new
view-end fold cells part outer rows inner old new h p = record { at = λ o i ho hi. p.taken.at o i (omega arith) hi }

-- the same numbers for a part with one total
pub line-cells : (part outer rows inner len : ℕ) → inner ≡ 1 → part < outer → (outer * rows) * inner ≤ len → part * rows + rows ≤ len
line-cells part outer rows inner len one h e = part-room part outer rows len h (subst (λ x. x ≤ len) (times-one (outer * rows) inner one) e)
  where
    times-one : (m n : ℕ) → n ≡ 1 → m * n ≡ m
    times-one m n e = ap (λ x. m * x) e ∙ omega arith

pub line-total : (part outer inner len : ℕ) → inner ≡ 1 → part < outer → outer * inner ≤ len → part < len
line-total part outer inner len one h e = let f : part * inner + inner ≤ len = part-room part outer inner len h e in let at : part * inner ≡ part = ap (λ n. part * n) one ∙ omega arith in omega arith
