-- Steps of the loops that cut the axes of an array as it is asked for.
use Rattle.std.proofs.Common.{◌≡◌, ℕ, zero, suc, ◌+◌, ◌*◌, ◌<◌, ◌^◌, ◌-◌, min, List, [], ◌∷◌, ◌++◌, append_assoc, length, get_or, take, drop, refl, ap, sym, subst, ◌∙◌, arith, inl, inr, Some}
use Rattle.std.specs.Prelude.{slice_get}
use Rattle.std.proofs.Math.Numerals.{add-one}
use Rattle.std.proofs.lemmas.List.{drop_more, take_more, map_push}
use Rattle.std.proofs.lemmas.Option.{get_or_from_slice_get}
use Rattle.std.proofs.lemmas.Bool.{cases_lt}
use Rattle.nd_shape.specs.declared.chunk.ChunkSpec.{ChunkSpec}
use Rattle.nd_shape.specs.Chunk.{total, chunks_of, CanCut}
use Rattle.chunk_layout.specs.Layouts.{normalized, lengths, blocks}
use Rattle.chunk_layout.specs.Cuts.{IsCut, AllCut}
use Rattle.chunk_layout.proofs.Cutting.{all_cut-push}
use Rattle.chunk_layout.proofs.Numbering.{blocks-push, held}

-- one axis more
normalized-suc : (dims : List ℕ) (specs : List ChunkSpec) (k : ℕ) (d : ChunkSpec) → k < length dims → k < length specs
    → normalized (take (suc k) dims) (take (suc k) specs) ≡ normalized (take k dims) (take k specs) ++ chunks_of (get_or dims k 0) (get_or specs k d) ∷ []
normalized-suc [] specs k d h g = absurd (omega arith)
normalized-suc (n ∷ dims) [] k d h g = absurd (omega arith)
normalized-suc (n ∷ dims) (s ∷ specs) zero d h g = refl
normalized-suc (n ∷ dims) (s ∷ specs) (suc k) d h g = ap (λ (xs : List (List ℕ)). chunks_of n s ∷ xs) (normalized-suc dims specs k d (omega arith) (omega arith))

pub count-more : (dims : List ℕ) (specs : List ChunkSpec) (k count chunks sat : ℕ) (spec : ChunkSpec) → k < length dims → k < length specs
    → spec ≡ get_or specs k spec → count ≡ min (blocks (normalized (take k dims) (take k specs))) (2 ^ 64 - 1)
    → chunks ≡ length (chunks_of (get_or dims k 0) spec) → sat ≡ min (count * chunks) (2 ^ 64 - 1)
    → sat ≡ min (blocks (normalized (take (k + 1) dims) (take (k + 1) specs))) (2 ^ 64 - 1)
count-more dims specs k count chunks sat spec h g is ec eh es =
    let b = normalized (take k dims) (take k specs) in
    let t : normalized (take (k + 1) dims) (take (k + 1) specs) ≡ b ++ chunks_of (get_or dims k 0) spec ∷ [] =
    rw add-one (normalized-suc dims specs k spec h g ∙ ap (λ (s : ChunkSpec). b ++ chunks_of (get_or dims k 0) s ∷ []) (sym is)) in
    es ∙ ap (λ c. min (c * chunks) (2 ^ 64 - 1)) ec ∙ held (2 ^ 64 - 1) (blocks b) chunks ∙ ap (λ x. min (blocks b * x) (2 ^ 64 - 1)) eh
    ∙ ap (λ x. min x (2 ^ 64 - 1)) (sym (ap blocks t ∙ blocks-push b (chunks_of (get_or dims k 0) spec)))

pub record AxesMore (axes : List (List ℕ)) (dims : List ℕ) (specs : List ChunkSpec) (k : ℕ) (x : List ℕ) : Type 0 where
  pub cuts : AllCut (axes ++ x ∷ [])
  pub lengths_is : lengths (axes ++ x ∷ []) ≡ take (k + 1) dims
  pub value : (axes ++ x ∷ []) ++ normalized (drop (k + 1) dims) (drop (k + 1) specs) ≡ normalized dims specs

pub axes-more : (axes : List (List ℕ)) (dims : List ℕ) (specs : List ChunkSpec) (k : ℕ) (spec : ChunkSpec) (x : List ℕ)
    → k < length dims → k < length specs → spec ≡ get_or specs k spec → x ≡ chunks_of (get_or dims k 0) spec → IsCut x → total x ≡ get_or dims k 0
    → AllCut axes → lengths axes ≡ take k dims → axes ++ normalized (drop k dims) (drop k specs) ≡ normalized dims specs → AxesMore axes dims specs k x
axes-more axes dims specs k spec x h g is e c t a l v = record {
  cuts = all_cut-push axes x a c;
  lengths_is = map_push (λ (ss : List ℕ). total ss) axes x ∙ ap (λ (xs : List ℕ). xs ++ total x ∷ []) l ∙ ap (λ (n : ℕ). take k dims ++ n ∷ []) t ∙ sym (take_more dims k 0 h);
  value = append_assoc axes (x ∷ []) (normalized (drop (k + 1) dims) (drop (k + 1) specs))
      ∙ ap (λ (y : List ℕ). axes ++ y ∷ normalized (drop (k + 1) dims) (drop (k + 1) specs)) (e ∙ ap (chunks_of (get_or dims k 0)) is)
      ∙ ap (λ (ns : List ℕ). axes ++ normalized ns (get_or specs k spec ∷ drop (k + 1) specs)) (sym (drop_more dims k 0 h))
      ∙ ap (λ (ss : List ChunkSpec). axes ++ normalized (drop k dims) ss) (sym (drop_more specs k spec g)) ∙ v;
}

pub cut-more : (dims : List ℕ) (specs : List ChunkSpec) (axis : ℕ) (here : ChunkSpec) → here ≡ get_or specs axis here → CanCut (get_or dims axis 0) here
    → ((k : ℕ) (spec : ChunkSpec) → k < axis → slice_get specs k ≡ Some spec → CanCut (get_or dims k 0) spec)
    → (k : ℕ) (spec : ChunkSpec) → k < axis + 1 → slice_get specs k ≡ Some spec → CanCut (get_or dims k 0) spec
cut-more dims specs axis here is cut before k spec h e = elim (cases_lt k axis) [
  | inl lt ↦ before k spec lt e
  | inr ge ↦ let same : k ≡ axis = omega arith in
      let es : here ≡ spec = is ∙ ap (λ (j : ℕ). get_or specs j here) (sym same) ∙ get_or_from_slice_get specs k spec here e in
      subst (λ (j : ℕ). CanCut (get_or dims j 0) spec) (sym same) (subst (CanCut (get_or dims axis 0)) es cut)
]
