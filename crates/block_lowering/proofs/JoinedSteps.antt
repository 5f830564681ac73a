-- Concatenations: the common cuts on the axes along which nothing is put together.
use Rattle.std.proofs.Common.{◌≡◌, ℕ, zero, suc, ◌+◌, ◌<◌, ◌≤◌, List, [], ◌∷◌, ◌++◌, length, map, get_or, set, replicate, refl, ap, sym, ◌∙◌, arith}
use Rattle.std.proofs.Math.Logic.{⊎_elim}
use Rattle.std.specs.Prelude.{slice_index_or}
use Rattle.std.specs.List.{range_with_len}
use Rattle.std.proofs.lemmas.List.{ext_get_or, get_or_append_left, get_or_push, length_push, length-map}
use Rattle.std.proofs.lemmas.List.FromFn.{get_or-map-range_with_len, length-range_with_len}
use Rattle.std.proofs.lemmas.Bool.{cases_lt}
use Rattle.nd_shape.specs.Region.{Box}
use Rattle.nd_shape.specs.declared.region.Piece.{Piece}
use Rattle.lowering_laws.specs.Sources.{Source}
use Rattle.lowering_laws.specs.Stages.{joined_all, common_axis, common_layout, whole_piece}
use Rattle.block_lowering.specs.Args.{AreCommon}
use Rattle.block_lowering.specs.Joining.{sizes_along, layouts_in}

-- ---- the whole of a block

zeros : (lens : List ℕ) → replicate {A = ℕ} (length lens) 0 ≡ map (λ n. 0) lens
zeros [] = refl
zeros (n ∷ lens) = ap (λ (xs : List ℕ). 0 ∷ xs) (zeros lens)

abbrev box_from : List ℕ → List ℕ → Box
box_from start lens = record { start = start; lengths = lens }

whole-box : (lens ds : List ℕ) (a : Box) → ds ≡ lens → a ≡ box_from (replicate {A = ℕ} (length ds) 0) ds → a ≡ box_from (map (λ n. 0) lens) lens
whole-box lens ds a d e = e ∙ ap (λ (xs : List ℕ). box_from (replicate {A = ℕ} (length xs) 0) xs) d ∙ ap (λ (zs : List ℕ). box_from zs lens) (zeros lens)

abbrev piece_from : Box → Box → Piece
piece_from a b = record { source = 0; from = a; to = b }

pub whole-is : (lens ds : List ℕ) (a b : Box) → ds ≡ lens → a ≡ box_from (replicate {A = ℕ} (length ds) 0) ds → b ≡ box_from (replicate {A = ℕ} (length ds) 0) ds → piece_from a b ≡ whole_piece lens
whole-is lens ds a b d e f = ap (λ (x : Box). piece_from x b) (whole-box lens ds a d e) ∙ ap (λ (x : Box). piece_from (box_from (map (λ n. 0) lens) lens) x) (whole-box lens ds b d f)

-- ---- common cuts

sizes-layouts : (k : ℕ) (sources : List Source) → map (λ (layout : List (List ℕ)). get_or layout k []) (layouts_in sources) ≡ map (sizes_along k) sources
sizes-layouts k [] = refl
sizes-layouts k (s ∷ sources) = ap (λ xs. get_or s.layout k [] ∷ xs) (sizes-layouts k sources)

common-axis : (k : ℕ) (sources : List Source) → common_axis (layouts_in sources) k ≡ joined_all (map (sizes_along k) sources)
common-axis k sources = ap joined_all (sizes-layouts k sources)

-- the first k axes, but for one, have the common cuts
pub record CommonTo (sources : List Source) (axis k : ℕ) (axes : List (List ℕ)) : Type 0 where
  pub count : length axes ≡ k
  pub each : (j : ℕ) → j < k → (j ≡ axis → ⊥) → get_or axes j [] ≡ common_axis (layouts_in sources) j

pub common-more : (sources : List Source) (axis k : ℕ) (axes : List (List ℕ)) (x : List ℕ) → ((k ≡ axis → ⊥) → x ≡ joined_all (map (sizes_along k) sources))
    → CommonTo sources axis k axes → CommonTo sources axis (k + 1) (axes ++ x ∷ [])
common-more sources axis k axes x here done = record {
  count = length_push axes x ∙ ap (λ n. n + 1) done.count;
  each = λ j lt ne. ⊎_elim (λ below. before j below ne) (λ above. at j lt above ne) (cases_lt j k);
}
  where
    before : (j : ℕ) → j < k → (j ≡ axis → ⊥) → get_or (axes ++ x ∷ []) j [] ≡ common_axis (layouts_in sources) j
    before j below ne = let within : j < length axes = omega (arith, done.count) in get_or_append_left axes (x ∷ []) [] j within ∙ done.each j below ne

    at : (j : ℕ) → j < k + 1 → k ≤ j → (j ≡ axis → ⊥) → get_or (axes ++ x ∷ []) j [] ≡ common_axis (layouts_in sources) j
    at j lt above ne =
        let e : k ≡ j = omega arith in
        get_or_push axes x [] j (done.count ∙ e) ∙ here (λ w. ne (sym e ∙ w)) ∙ sym (common-axis k sources) ∙ ap (common_axis (layouts_in sources)) e

-- lists that differ at one place alone
same-but : (xs ys : List (List ℕ)) (i : ℕ) (v : List ℕ) → length xs ≡ length ys → ((j : ℕ) → j < length xs → (j ≡ i → ⊥) → get_or xs j [] ≡ get_or ys j []) → set xs i v ≡ set ys i v
same-but [] [] i v e h = refl
same-but [] (y ∷ ys) i v e h = absurd (omega arith)
same-but (x ∷ xs) [] i v e h = absurd (omega arith)
same-but (x ∷ xs) (y ∷ ys) zero v e h = ap (λ (zs : List (List ℕ)). v ∷ zs) (ext_get_or [] xs ys (omega arith) (λ j lt. h (suc j) (omega arith) (λ w. omega arith)))
same-but (x ∷ xs) (y ∷ ys) (suc i) v e h =
    ap (λ (z : List ℕ). z ∷ set xs i v) (h 0 (omega arith) (λ w. omega arith))
    ∙ ap (λ (zs : List (List ℕ)). y ∷ zs) (same-but xs ys i v (omega arith) (λ j lt ne. h (suc j) (omega arith) (λ w. ne (omega arith))))

first-axes : (sources : List Source) (s : Source) → 0 < length sources → slice_index_or (layouts_in sources) 0 [] ≡ (get_or sources 0 s).layout
first-axes [] s lt = absurd (omega arith)
first-axes (t ∷ sources) s lt = refl

pub common-end : (sources : List Source) (axis k : ℕ) (axes : List (List ℕ)) (s : Source) → 0 < length sources → k ≡ length (get_or sources 0 s).layout → CommonTo sources axis k axes
    → AreCommon (common_layout (layouts_in sources)) axis axes
common-end sources axis k axes s lt e done = record { others = λ sizes. same-but axes (common_layout (layouts_in sources)) axis sizes (done.count ∙ sym count) (λ j h ne. done.each j (omega (arith, done.count)) ne ∙ sym (at j (omega (arith, done.count)))) }
  where
    first : length (slice_index_or (layouts_in sources) 0 []) ≡ k
    first = ap length (first-axes sources s lt) ∙ sym e

    count : length (common_layout (layouts_in sources)) ≡ k
    count =
        length-map (range_with_len 0 (length (slice_index_or (layouts_in sources) 0 []))) (common_axis (layouts_in sources)) ∙ length-range_with_len 0 (length (slice_index_or (layouts_in sources) 0 [])) ∙ first

    at : (j : ℕ) → j < k → get_or (common_layout (layouts_in sources)) j [] ≡ common_axis (layouts_in sources) j
    at j h =
        let within : j < length (slice_index_or (layouts_in sources) 0 []) = omega (arith, first) in
        get_or-map-range_with_len (common_axis (layouts_in sources)) 0 (length (slice_index_or (layouts_in sources) 0 [])) j j [] within (omega arith)
