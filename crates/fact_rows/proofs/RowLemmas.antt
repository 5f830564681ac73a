-- A grid after a write.
use Rattle.std.proofs.Common.{◌≡◌, ℕ, zero, suc, ◌<◌, Bool, true, false, cond, ◌&&◌, List, [], ◌∷◌, ◌++◌, Option, None, refl, sym, ap, ◌∙◌, arith, length, get_or, set, ⊎_elim, All, ◌≤◌, ◌+◌, ltb}
use Rattle.std.proofs.lemmas.Bool.Decides.{nat_tests}
use Rattle.std.proofs.Math.Dec.{eqb}
use Rattle.std.proofs.lemmas.Bool.{eqb-true, cases_lt, lt-ltb}
use Rattle.std.proofs.lemmas.List.{get_or_default, get_or_past}
use Rattle.small_facts.proofs.Numbers.{unequal_below_next}
use Rattle.cluster_rules.specs.Functions.{put, put_pair}
use Rattle.cluster_rules.proofs.FunctionLemmas.{set_at}
use Rattle.fact_rows.specs.Rows.{read, cell}

in_row : {A : Type 0} (b c : Bool) (x y z : A) → cond b (cond c x y) z ≡ cond (b && c) x (cond b y z)
in_row true c x y z = refl
in_row false c x y z = refl

-- a row with one new member is written into its grid
pub cell-set : {A : Type 0} (n : ℕ) (rows : List (List A)) (new : List A) (row key : ℕ) (value d : A) → (old : List A) → row < length rows → old ≡ get_or rows row old → read new d ≡ put (read old d) key value → cell (n, set rows row new) d ≡ put_pair (cell (n, rows) d) row key value
cell-set n rows new row key value d old h was e = λ i v j. at_place v j i
  where
    before : old ≡ get_or rows row []
    before = was ∙ get_or_default rows row old [] h

    pick : (b : Bool) (v j : ℕ) → eqb v row ≡ b → get_or (cond b new (get_or rows v [])) j d ≡ cond (b && eqb j key) value (get_or (get_or rows v []) j d)
    pick true v j p = ap (λ f. f j) e ∙ ap (λ r. cond (eqb j key) value (get_or r j d)) before ∙ ap (λ r. cond (eqb j key) value (get_or (get_or rows r []) j d)) (sym (eqb-true v row p))
    pick false v j p = refl

    at_place : (v j : ℕ) → get_or (get_or (set rows row new) v []) j d ≡ cond (eqb v row && eqb j key) value (get_or (get_or rows v []) j d)
    at_place v j = ap (λ r. get_or r j d) (set_at rows row new [] h v) ∙ pick (eqb v row) v j refl

-- a row whose members are all equal is written into its grid
pub cell-fill : {A : Type 0} (n : ℕ) (rows : List (List A)) (new : List A) (row : ℕ) (d : A) → row < length rows → ((k : ℕ) → read new d k ≡ d) → cell (n, set rows row new) d ≡ (λ w k. cond (eqb w row) d (cell (n, rows) d w k))
cell-fill n rows new row d h e = λ i v j. at_place v j i
  where
    pick : (b : Bool) (v j : ℕ) → get_or (cond b new (get_or rows v [])) j d ≡ cond b d (get_or (get_or rows v []) j d)
    pick true v j = e j
    pick false v j = refl

    at_place : (v j : ℕ) → get_or (get_or (set rows row new) v []) j d ≡ cond (eqb v row) d (get_or (get_or rows v []) j d)
    at_place v j = ap (λ r. get_or r j d) (set_at rows row new [] h v) ∙ pick (eqb v row) v j

-- past the length of its rows a grid has nothing
pub cell-past : {A : Type 0} (n : ℕ) (rows : List (List A)) → All (λ row. length row ≡ n) rows → (d : A) (w k : ℕ) → n ≤ k → get_or (get_or rows w []) k d ≡ d
cell-past n rows each d w k h = ⊎_elim (λ l. inside l) (λ l. outside l) (cases_lt w (length rows))
  where
    inside : w < length rows → get_or (get_or rows w []) k d ≡ d
    inside l = get_or_past (get_or rows w []) k d (let e : length (get_or rows w []) ≡ n = each w [] l in omega arith)

    outside : length rows ≤ w → get_or (get_or rows w []) k d ≡ d
    outside l = ap (λ r. get_or r k d) (get_or_past rows w [] l)

-- the rows below i have lost what the mask does not pass
pub kept_more : {A : Type 0} (base : ℕ → ℕ → A) (mask : ℕ → Bool) (other : A) (rows : List (List A)) (i : ℕ) (old new : List A) → i < length rows → old ≡ get_or rows i old → read new other ≡ (λ k. cond (mask k) (read old other k) other)
    → ((w k : ℕ) → get_or (get_or rows w []) k other ≡ cond (ltb w i) (cond (mask k) (base w k) other) (base w k))
    → (w k : ℕ) → get_or (get_or (set rows i new) w []) k other ≡ cond (ltb w (i + 1)) (cond (mask k) (base w k) other) (base w k)
kept_more base mask other rows i old new l was now done w k =
    ap (λ r. get_or r k other) (set_at rows i new [] l w) ∙ pick (eqb w i) refl
  where
    not_below : (a b : ℕ) → eqb a b ≡ true → ltb b b ≡ false
    not_below a b e = grind (arith, nat_tests)

    below_it : (a b : ℕ) → eqb a b ≡ true → true ≡ ltb a (b + 1)
    below_it a b e = grind (arith, nat_tests)

    here : eqb w i ≡ true → read old other k ≡ base w k
    here e = ap (λ r. get_or r k other) (was ∙ get_or_default rows i old [] l) ∙ done i k ∙ ap (λ b. cond b (cond (mask k) (base i k) other) (base i k)) (not_below w i e) ∙ ap (λ v. base v k) (sym (eqb-true w i e))

    pick : (b : Bool) → eqb w i ≡ b → get_or (cond b new (get_or rows w [])) k other ≡ cond (ltb w (i + 1)) (cond (mask k) (base w k) other) (base w k)
    pick true e = ap (λ f. f k) now ∙ ap (λ x. cond (mask k) x other) (here e) ∙ ap (λ b. cond b (cond (mask k) (base w k) other) (base w k)) (below_it w i e)
    pick false e = done w k ∙ ap (λ b. cond b (cond (mask k) (base w k) other) (base w k)) (unequal_below_next w i e)

pub kept_all : {A : Type 0} (base rows : List (List A)) (mask : ℕ → Bool) (other : A) (i : ℕ) → length rows ≡ length base → length rows ≤ i
    → ((w k : ℕ) → get_or (get_or rows w []) k other ≡ cond (ltb w i) (cond (mask k) (get_or (get_or base w []) k other) other) (get_or (get_or base w []) k other))
    → (w k : ℕ) → get_or (get_or rows w []) k other ≡ cond (mask k) (get_or (get_or base w []) k other) other
kept_all base rows mask other i same l done w k = ⊎_elim (λ h. inside h) (λ h. outside h) (cases_lt w i)
  where
    either : (b : Bool) → other ≡ cond b other other
    either true = refl
    either false = refl

    inside : w < i → get_or (get_or rows w []) k other ≡ cond (mask k) (get_or (get_or base w []) k other) other
    inside h = done w k ∙ ap (λ b. cond b (cond (mask k) (get_or (get_or base w []) k other) other) (get_or (get_or base w []) k other)) (lt-ltb w i h)

    outside : i ≤ w → get_or (get_or rows w []) k other ≡ cond (mask k) (get_or (get_or base w []) k other) other
    outside h =
        let none_here : get_or rows w [] ≡ [] = get_or_past rows w [] (omega arith) in
        let none_there : get_or base w [] ≡ [] = get_or_past base w [] (omega (arith, same)) in
        ap (λ r. get_or r k other) none_here ∙ either (mask k) ∙ ap (λ r. cond (mask k) (get_or r k other) other) (sym none_there)

-- one more row, with nothing in it, changes nothing
row_more : {A : Type 0} (rows : List (List (Option A))) (new : List (Option A)) → ((k : ℕ) → get_or new k None ≡ None) → (w k : ℕ) → get_or (get_or (rows ++ new ∷ []) w []) k None ≡ get_or (get_or rows w []) k None
row_more [] new e zero k = e k
row_more [] new e (suc w) k = refl
row_more (x ∷ rows) new e zero k = refl
row_more (x ∷ rows) new e (suc w) k = row_more rows new e w k

pub cell-more : {A : Type 0} (n : ℕ) (rows : List (List (Option A))) (new : List (Option A)) → ((k : ℕ) → get_or new k None ≡ None) → cell (n, rows ++ new ∷ []) None ≡ cell (n, rows) None
cell-more n rows new e = λ i w k. row_more rows new e w k i
