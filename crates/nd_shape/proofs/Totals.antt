-- Sums of sizes, and even chunks.
use Rattle.std.proofs.Common.{◌≡◌, ◌≢◌, ℕ, zero, suc, ◌+◌, ◌*◌, ◌/◌, ◌%◌, ◌<◌, ◌≤◌, min, cond, true, List, [], ◌∷◌, ◌++◌, length, get_or, take, replicate, append-nil, refl, ap, sym, ◌∙◌, arith, inl, inr}
use Rattle.std.specs.Prelude.{nat_eq}
use Rattle.std.proofs.lemmas.List.{take_more}
use Rattle.std.proofs.lemmas.Bool.{cases_lt, ne_eqb}
use Rattle.std.proofs.lemmas.Nat.{div-mul-add, div-add-mod'}
use Rattle.nd_shape.specs.declared.chunk.ChunkSpec.{ChunkSpec}
use Rattle.nd_shape.specs.declared.chunk.ChunkSpec.TheVariants.{Even, List as Listed}
use Rattle.nd_shape.specs.Chunk.{total, even_chunks, chunks_of, CanCut}

pub total-push : (xs : List ℕ) (x : ℕ) → total (xs ++ x ∷ []) ≡ total xs + x
total-push [] x = omega arith
total-push (n ∷ xs) x = ap (λ k. n + k) (total-push xs x) ∙ omega arith

pub total-more : (xs : List ℕ) (i : ℕ) → i < length xs → total (take (i + 1) xs) ≡ total (take i xs) + get_or xs i 0
total-more xs i h = ap total (take_more xs i 0 h) ∙ total-push (take i xs) (get_or xs i 0)

-- no size is above the sum
pub total-ge : (xs : List ℕ) (i : ℕ) → i < length xs → get_or xs i 0 ≤ total xs
total-ge [] i h = absurd (omega arith)
total-ge (x ∷ xs) zero h = omega arith
total-ge (x ∷ xs) (suc i) h = let b : get_or xs i 0 ≤ total xs = total-ge xs i (omega arith) in omega arith

pub chunks_of-even : (len size : ℕ) → len ≢ 0 → chunks_of len (Even size) ≡ even_chunks len size
chunks_of-even zero size h = absurd (h refl)
chunks_of-even (suc len) size h = refl

-- a size above the length leaves no whole chunk
whole_chunks : (len size : ℕ) → 0 < size → replicate (len / size) (min size len) ≡ replicate (len / size) size
whole_chunks len size h = elim (cases_lt len size) [
  | inl b ↦ let z : len / size ≡ 0 = ap (λ n. n / size) (omega arith) ∙ div-mul-add 0 size len b in rw z refl
  | inr b ↦ let e : min size len ≡ size = omega arith in rw e refl
]

pub can_cut-even : (len size : ℕ) → len ≢ 0 → CanCut len (Even size) → 0 < size
can_cut-even zero size h c = absurd (h refl)
can_cut-even (suc len) zero h c = absurd (c refl)
can_cut-even (suc len) (suc size) h c = omega arith

-- ---- the exits of `even`

pub exit_whole : (len size whole : ℕ) (items : List ℕ) → len ≢ 0 → CanCut len (Even size) → whole ≡ min size len → items ≡ replicate (len / size) whole → len % size ≡ 0 → items ≡ chunks_of len (Even size)
exit_whole len size whole items h cut hw hi z =
    hi ∙ ap (replicate (len / size)) hw ∙ whole_chunks len size (can_cut-even len size h cut) ∙ sym (append-nil (replicate (len / size) size))
    ∙ ap (λ b. replicate (len / size) size ++ cond b [] (len % size ∷ [])) (sym (is-zero (len % size) z)) ∙ sym (chunks_of-even len size h)
  where
    is-zero : (n : ℕ) → n ≡ 0 → nat_eq n 0 ≡ true
    is-zero n e = grind arith

pub exit_rest : (len size whole : ℕ) (items : List ℕ) → len ≢ 0 → CanCut len (Even size) → whole ≡ min size len → items ≡ replicate (len / size) whole → len % size ≢ 0 → items ++ len % size ∷ [] ≡ chunks_of len (Even size)
exit_rest len size whole items h cut hw hi z =
    ap (λ xs. xs ++ len % size ∷ []) (hi ∙ ap (replicate (len / size)) hw ∙ whole_chunks len size (can_cut-even len size h cut))
    ∙ ap (λ b. replicate (len / size) size ++ cond b [] (len % size ∷ [])) (sym (ne_eqb (len % size) 0 z)) ∙ sym (chunks_of-even len size h)

-- the sizes make up the length
pub total-append : (xs ys : List ℕ) → total (xs ++ ys) ≡ total xs + total ys
total-append [] ys = omega arith
total-append (x ∷ xs) ys = ap (λ k. x + k) (total-append xs ys) ∙ omega arith

pub total-replicate : (n x : ℕ) → total (replicate n x) ≡ n * x
total-replicate zero x = omega arith
total-replicate (suc n) x = ap (λ k. x + k) (total-replicate n x) ∙ omega arith

pub rest-total : (n : ℕ) → total (cond (nat_eq n 0) [] (n ∷ [])) ≡ n
rest-total zero = refl
rest-total (suc n) = grind arith

total-even : (len size : ℕ) → total (even_chunks len size) ≡ len
total-even len size =
    total-append (replicate (len / size) size) _ ∙ ap (λ k. k + total (cond (nat_eq (len % size) 0) [] (len % size ∷ []))) (total-replicate (len / size) size)
    ∙ ap (λ k. len / size * size + k) (rest-total (len % size)) ∙ div-add-mod' len size

pub total-chunks_of : (len : ℕ) (spec : ChunkSpec) → CanCut len spec → total (chunks_of len spec) ≡ len
total-chunks_of zero spec c = refl
total-chunks_of (suc len) (Even size) c = total-even (suc len) size
total-chunks_of (suc len) (Listed sizes) c = c.1
