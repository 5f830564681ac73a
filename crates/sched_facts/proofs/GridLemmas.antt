-- A grid with one more row.
use Rattle.std.proofs.Common.{◌≡◌, ◌≤◌, ℕ, Bool, true, false, cond, List, [], ◌∷◌, ◌++◌, refl, sym, ap, ◌∙◌, arith, length, get_or}
use Rattle.std.proofs.lemmas.Bool.Decides.{nat_tests}
use Rattle.std.proofs.lemmas.List.{get_or_past}
use Rattle.std.proofs.Math.Dec.{eqb}
use Rattle.small_facts.proofs.Lists.{get_or_push}
use Rattle.fact_rows.specs.Rows.{read, cell}

-- a row that says nothing new at the end
pub cell-push : {A : Type 0} (n : ℕ) (rows : List (List A)) (row : List A) (d : A) → ((k : ℕ) → get_or row k d ≡ d) → cell (n, rows ++ row ∷ []) d ≡ cell (n, rows) d
cell-push n rows row d same = λ i w k. at w k i
  where
    past : (w k : ℕ) → eqb w (length rows) ≡ true → d ≡ get_or (get_or rows w []) k d
    past w k e = sym (ap (λ r. get_or r k d) (get_or_past rows w [] (within w (length rows) e)))
      where
        within : (w n : ℕ) → eqb w n ≡ true → n ≤ w
        within w n e = grind (arith, nat_tests)

    pick : (w k : ℕ) (b : Bool) → eqb w (length rows) ≡ b → get_or (cond b row (get_or rows w [])) k d ≡ get_or (get_or rows w []) k d
    pick w k true e = same k ∙ past w k e
    pick w k false e = refl

    at : (w k : ℕ) → get_or (get_or (rows ++ row ∷ []) w []) k d ≡ get_or (get_or rows w []) k d
    at w k = ap (λ r. get_or r k d) (get_or_push rows row [] w) ∙ pick w k (eqb w (length rows)) refl

-- the same of a row
pub read-push : {A : Type 0} (xs : List A) (d : A) → read (xs ++ d ∷ []) d ≡ read xs d
read-push xs d = λ i k. at k i
  where
    past : (k : ℕ) → eqb k (length xs) ≡ true → d ≡ get_or xs k d
    past k e = sym (get_or_past xs k d (within k (length xs) e))
      where
        within : (w n : ℕ) → eqb w n ≡ true → n ≤ w
        within w n e = grind (arith, nat_tests)

    pick : (k : ℕ) (b : Bool) → eqb k (length xs) ≡ b → cond b d (get_or xs k d) ≡ get_or xs k d
    pick k true e = past k e
    pick k false e = refl

    at : (k : ℕ) → get_or (xs ++ d ∷ []) k d ≡ get_or xs k d
    at k = get_or_push xs d d k ∙ pick k (eqb k (length xs)) refl
