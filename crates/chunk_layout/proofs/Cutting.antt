-- Sizes that cut an axis, their running sums, and what is known of all axes.
use Rattle.std.proofs.Common.{◌≡◌, ◌≢◌, ℕ, zero, suc, ◌+◌, ◌*◌, ◌/◌, ◌%◌, ◌<◌, ◌≤◌, ◌^◌, cond, List, [], ◌∷◌, ◌++◌, length, get_or, take, replicate, refl, ap, sym, subst, ◌∙◌, arith, inl, inr, lit≤}
use Rattle.std.specs.Prelude.{nat_eq}
use Rattle.std.proofs.lemmas.List.{get_or_append_left, get_or_push}
use Rattle.std.proofs.lemmas.Bool.{cases_eq, cases_lt}
use Rattle.std.proofs.lemmas.Nat.{mul-le}
use Rattle.nd_shape.specs.declared.chunk.ChunkSpec.{ChunkSpec}
use Rattle.nd_shape.specs.declared.chunk.ChunkSpec.TheVariants.{Even, List as Listed}
use Rattle.nd_shape.specs.Shape.{elements}
use Rattle.nd_shape.specs.Chunk.{total, even_chunks, chunks_of, CanCut}
use Rattle.nd_shape.proofs.Totals.{total-more, total-chunks_of}
use Rattle.chunk_layout.specs.Layouts.{lengths, blocks}
use Rattle.chunk_layout.specs.Cuts.{AllSome, IsCut, AllCut}

-- ---- running sums

pub starts-more : (sizes starts : List ℕ) (i end : ℕ) → i < length sizes → length starts ≡ suc i → end ≡ total (take i sizes)
    → ((k : ℕ) → k ≤ i → get_or starts k 0 ≡ total (take k sizes))
    → (k : ℕ) → k ≤ i + 1 → get_or (starts ++ (end + get_or sizes i 0) ∷ []) k 0 ≡ total (take k sizes)
starts-more sizes starts i end h n e at k b = elim (cases_lt k (i + 1)) [
  | inl lt ↦ get_or_append_left starts ((end + get_or sizes i 0) ∷ []) 0 k (omega arith) ∙ at k (omega arith)
  | inr ge ↦ let same : k ≡ i + 1 = omega arith in
      let long : length starts ≡ k = omega arith in
      get_or_push starts (end + get_or sizes i 0) 0 k long ∙ ap (λ x. x + get_or sizes i 0) e ∙ sym (total-more sizes i h) ∙ ap (λ j. total (take j sizes)) (sym same)
]

-- ---- counts

-- no more chunks than elements
count-some : (sizes : List ℕ) → AllSome sizes → length sizes ≤ total sizes
count-some [] h = omega arith
count-some (s ∷ ss) h = let r : length ss ≤ total ss = count-some ss h.1 in let p : 0 < s = h.0 in omega arith

pub count-cut : (sizes : List ℕ) → IsCut sizes → 0 < total sizes → length sizes ≤ total sizes
count-cut sizes c p = elim c.each [
  | inl e ↦ absurd (let z : total sizes ≡ 0 = ap total e in omega arith)
  | inr s ↦ count-some sizes s
]

pub count-small : (sizes : List ℕ) → IsCut sizes → length sizes ≤ 2 ^ 31
count-small sizes c = elim c.each [
  | inl e ↦ let one : length sizes ≡ 1 = ap length e in omega arith
  | inr s ↦ let a : length sizes ≤ total sizes = count-some sizes s in let b : total sizes ≤ 2 ^ 31 = c.small in omega arith
]

factor-pos : (n s : ℕ) → 0 < n * s → (0 < n) × (0 < s)
factor-pos zero s h = absurd (omega arith)
factor-pos (suc n) zero h = absurd (omega arith)
factor-pos (suc n) (suc s) h = (omega arith, omega arith)

-- no more blocks than elements
pub blocks-cut : (layout : List (List ℕ)) → AllCut layout → 0 < elements (lengths layout) → blocks layout ≤ elements (lengths layout)
blocks-cut [] c p = omega arith
blocks-cut (sizes ∷ layout) c p =
    let f = factor-pos (total sizes) (elements (lengths layout)) p in
    mul-le (length sizes) (blocks layout) (total sizes) (elements (lengths layout)) (count-cut sizes c.0 f.0) (blocks-cut layout c.1 f.1)

pub all_cut-push : (layout : List (List ℕ)) (sizes : List ℕ) → AllCut layout → IsCut sizes → AllCut (layout ++ sizes ∷ [])
all_cut-push [] sizes a c = (c, tt)
all_cut-push (s ∷ layout) sizes a c = (a.0, all_cut-push layout sizes a.1 c)

-- ---- sizes as they are asked for

pub some-append : (xs ys : List ℕ) → AllSome xs → AllSome ys → AllSome (xs ++ ys)
some-append [] ys a b = b
some-append (x ∷ xs) ys a b = (a.0, some-append xs ys a.1 b)

some-replicate : (n x : ℕ) → 0 < x → AllSome (replicate n x)
some-replicate zero x h = tt
some-replicate (suc n) x h = (h, some-replicate n x h)

some-rest : (n : ℕ) → AllSome (cond (nat_eq n 0) [] (n ∷ []))
some-rest n = elim (cases_eq n 0) [
  | inl e ↦ subst AllSome (sym (none n e)) tt
  | inr d ↦ subst AllSome (sym (one n d)) (omega arith, tt)
]
  where
    none : (n : ℕ) → n ≡ 0 → cond (nat_eq n 0) [] (n ∷ []) ≡ []
    none n e = grind arith

    one : (n : ℕ) → n ≢ 0 → cond (nat_eq n 0) [] (n ∷ []) ≡ n ∷ []
    one n d = grind arith

some-even : (len size : ℕ) → size ≢ 0 → AllSome (even_chunks len size)
some-even len size h = some-append (replicate (len / size) size) _ (some-replicate (len / size) size (omega arith)) (some-rest (len % size))

some-listed : (sizes : List ℕ) → ((k : ℕ) → k < length sizes → get_or sizes k 0 ≢ 0) → AllSome sizes
some-listed [] h = tt
some-listed (s ∷ ss) h = let p : s ≢ 0 = h 0 (omega arith) in (omega arith, some-listed ss (λ k b. h (suc k) (omega arith)))

nonempty : (sizes : List ℕ) (n : ℕ) → total sizes ≡ suc n → 0 < length sizes
nonempty [] n e = absurd (omega arith)
nonempty (s ∷ ss) n e = omega arith

some-chunks : (n : ℕ) (spec : ChunkSpec) → CanCut (suc n) spec → AllSome (chunks_of (suc n) spec)
some-chunks n (Even size) c = some-even (suc n) size c
some-chunks n (Listed sizes) c = some-listed sizes (λ k b. c.0 k 0 b)

-- what is cut as it is asked for
pub is_cut-chunks : (len : ℕ) (spec : ChunkSpec) → len ≤ 2 ^ 31 → CanCut len spec → IsCut (chunks_of len spec)
is_cut-chunks zero spec h c = record { some = omega arith; each = inl refl; small = lit≤ tt }
is_cut-chunks (suc n) spec h c =
    let t : total (chunks_of (suc n) spec) ≡ suc n = total-chunks_of (suc n) spec c in
    record { some = nonempty _ n t; each = inr (some-chunks n spec c); small = omega arith }
