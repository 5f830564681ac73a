-- The tree of partial results, level by level.
use Rattle.std.proofs.Common.{◌≡◌, ◌≢◌, ℕ, zero, suc, ◌+◌, ◌*◌, ◌/◌, ◌%◌, ◌<◌, ◌≤◌, cond, List, [], ◌∷◌, ◌++◌, append-nil, append_assoc, length, replicate, refl, ap, sym, ◌∙◌, arith, inl, inr}
use Rattle.std.specs.Prelude.{nat_eq, nat_lt}
use Rattle.std.proofs.lemmas.List.{length-append, length-replicate}
use Rattle.std.proofs.lemmas.Bool.{cases_eq, cases_lt}
use Rattle.std.proofs.lemmas.Nat.{div-add-mod'}
use Rattle.nd_shape.specs.Chunk.{even_chunks}
use Rattle.chunk_layout.specs.Trees.{levels_within, tree}

no-rest : (n : ℕ) → n ≡ 0 → cond {A = List ℕ} (nat_eq n 0) [] (n ∷ []) ≡ []
no-rest n e = grind arith

one-rest : (n : ℕ) → n ≢ 0 → cond {A = List ℕ} (nat_eq n 0) [] (n ∷ []) ≡ n ∷ []
one-rest n d = grind arith

pub even-whole : (n split : ℕ) → n % split ≡ 0 → replicate (n / split) split ≡ even_chunks n split
even-whole n split e = sym (append-nil (replicate (n / split) split)) ∙ ap (λ (xs : List ℕ). replicate (n / split) split ++ xs) (sym (no-rest (n % split) e))

pub even-rest : (n split : ℕ) → n % split ≢ 0 → replicate (n / split) split ++ n % split ∷ [] ≡ even_chunks n split
even-rest n split d = ap (λ (xs : List ℕ). replicate (n / split) split ++ xs) (sym (one-rest (n % split) d))

-- fewer groups than members
fewer : (n split q r : ℕ) → 2 ≤ n → 2 ≤ split → q * split + r ≡ n → (r ≡ 0 → q < n) × (r ≢ 0 → q + 1 < n)
fewer n split q r h s e = let m : q * 2 ≤ q * split = twice q split s in (
  λ z. omega arith,
  λ d. elim (cases_lt n (q + 2)) [
    | inl lt ↦ small n q r h m e lt d
    | inr ge ↦ omega arith
  ],
)
  where
    twice : (q split : ℕ) → 2 ≤ split → q * 2 ≤ q * split
    twice zero split s = omega arith
    twice (suc q) split s = let t : q * 2 ≤ q * split = twice q split s in omega arith

    small : (n q r : ℕ) → 2 ≤ n → q * 2 ≤ q * split → q * split + r ≡ n → n < q + 2 → r ≢ 0 → q + 1 < n
    small n zero r h m e lt d = omega arith
    small n (suc q) r h m e lt d = absurd (omega arith)

pub fewer-groups : (n split : ℕ) → 2 ≤ n → 2 ≤ split → length (even_chunks n split) < n
fewer-groups n split h s =
    let f = fewer n split (n / split) (n % split) h s (div-add-mod' n split) in
    let l : length (replicate (n / split) split) ≡ n / split = length-replicate (n / split) split in
    elim (cases_eq (n % split) 0) [
      | inl z ↦ let e : length (even_chunks n split) ≡ n / split = sym (ap length (even-whole n split z)) ∙ l in
          let b : n / split < n = f.0 z in omega arith
      | inr d ↦ let e : length (even_chunks n split) ≡ n / split + 1 =
          sym (ap length (even-rest n split d)) ∙ length-append (replicate (n / split) split) (n % split ∷ []) ∙ ap (λ (k : ℕ). k + 1) l in
          let b : n / split + 1 < n = f.1 d in omega arith
    ]

few : (n : ℕ) (more : List (List ℕ)) → n < 2 → cond (nat_lt n 2) [] more ≡ []
few n more h = grind arith

many : (n : ℕ) (more : List (List ℕ)) → 2 ≤ n → cond (nat_lt n 2) [] more ≡ more
many n more h = grind arith

-- the fuel is no matter
same-levels : (f g n split : ℕ) → 2 ≤ split → n ≤ f → n ≤ g → levels_within f n split ≡ levels_within g n split
same-levels zero zero n split s h k = refl
same-levels zero (suc g) n split s h k = sym (few n _ (omega arith))
same-levels (suc f) zero n split s h k = few n _ (omega arith)
same-levels (suc f) (suc g) n split s h k = elim (cases_lt n 2) [
  | inl b ↦ few n _ b ∙ sym (few n _ b)
  | inr b ↦ let l : length (even_chunks n split) < n = fewer-groups n split b s in
      many n _ b ∙ ap (λ (ls : List (List ℕ)). even_chunks n split ∷ ls) (same-levels f g (length (even_chunks n split)) split s (omega arith) (omega arith)) ∙ sym (many n _ b)
]

pub tree-more : (n split : ℕ) → 2 ≤ n → 2 ≤ split → tree n split ≡ even_chunks n split ∷ tree (length (even_chunks n split)) split
tree-more zero split h s = absurd (omega arith)
tree-more (suc n) split h s =
    let l : length (even_chunks (suc n) split) < suc n = fewer-groups (suc n) split h s in
    many (suc n) _ h ∙ ap (λ (ls : List (List ℕ)). even_chunks (suc n) split ∷ ls) (same-levels n (length (even_chunks (suc n) split)) (length (even_chunks (suc n) split)) split s (omega arith) (omega arith))

pub tree-end : (n split : ℕ) → n < 2 → tree n split ≡ []
tree-end zero split h = refl
tree-end (suc n) split h = few (suc n) _ h

-- one level of the loop
pub tree-step : (levels res : List (List ℕ)) (n split : ℕ) → 2 ≤ n → 2 ≤ split → levels ++ tree n split ≡ res
    → (levels ++ even_chunks n split ∷ []) ++ tree (length (even_chunks n split)) split ≡ res
tree-step levels res n split h s e =
    append_assoc levels (even_chunks n split ∷ []) (tree (length (even_chunks n split)) split) ∙ ap (λ (ls : List (List ℕ)). levels ++ ls) (sym (tree-more n split h s)) ∙ e
