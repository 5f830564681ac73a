-- Sets by worker.
use Rattle.std.proofs.Common.{◌≡◌, ℕ, ◌+◌, ◌%◌, ◌<◌, ◌≤◌, Bool, true, false, ◌&&◌, eqb, ltb, cond, List, [], ◌∷◌, ◌++◌, length, get_or, set, Option, refl, sym, ap, ◌∙◌, subst, arith, ⊎_elim}
use Rattle.std.proofs.lemmas.Bool.{cases_lt, eqb-true, lt-ltb, le-ltb}
use Rattle.std.proofs.lemmas.Bool.Decides.{nat_tests}
use Rattle.std.proofs.lemmas.List.{get_or_default, get_or_past, get_or_at, get_or_append_left, length_push}
use Rattle.std.proofs.lemmas.Nat.Bits.{bit_at-zero}
use Rattle.small_facts.proofs.Numbers.{below_or_unequal, eqb_turned}
use Rattle.cluster_rules.proofs.FunctionLemmas.{set_at}
use Rattle.key_sets.specs.Sets.{has, room, IsFirst}
use Rattle.task_table.specs.Lists.{AreRows, in_row}

has_none : (k : ℕ) → has [] k ≡ false
unfolding has
has_none k = ap (λ b. eqb b 1) (bit_at-zero (k % 64))

-- a worker without a set has no key in it
pub row_past : (rows : List (List ℕ)) (w k : ℕ) → length rows ≤ w → in_row rows w k ≡ false
row_past rows w k l = ap (λ r. has r k) (get_or_past rows w [] l) ∙ has_none k

-- one key of one set is put in or out
pub row_put : (rows : List (List ℕ)) (worker key : ℕ) (to : Bool) (old new : List ℕ) → worker < length rows → old ≡ get_or rows worker old → ((k : ℕ) → has new k ≡ cond (eqb k key) to (has old k))
    → (w k : ℕ) → in_row (set rows worker new) w k ≡ cond (eqb worker w && eqb key k) (ltb worker (length rows) && to) (in_row rows w k)
row_put rows worker key to old new l was now w k =
    ap (λ r. has r k) (set_at rows worker new [] l w) ∙ pick (eqb w worker) refl
    ∙ (λ i. cond (eqb_turned w worker i && eqb_turned k key i) (ltb worker (length rows) && to) (in_row rows w k))
  where
    before : old ≡ get_or rows worker []
    before = was ∙ get_or_default rows worker old [] l

    pick : (b : Bool) → eqb w worker ≡ b → has (cond b new (get_or rows w [])) k ≡ cond (b && eqb k key) (ltb worker (length rows) && to) (in_row rows w k)
    pick true e =
        now k ∙ ap (λ t. cond (eqb k key) (t && to) (has old k)) (sym (lt-ltb worker (length rows) l))
        ∙ ap (λ r. cond (eqb k key) (ltb worker (length rows) && to) (has r k)) before
        ∙ ap (λ v. cond (eqb k key) (ltb worker (length rows) && to) (in_row rows v k)) (sym (eqb-true w worker e))
    pick false e = refl

-- there is no set to put it in
pub row_missed : (rows : List (List ℕ)) (worker key : ℕ) (to : Bool) → length rows ≤ worker → (w k : ℕ) → in_row rows w k ≡ cond (eqb worker w && eqb key k) (ltb worker (length rows) && to) (in_row rows w k)
row_missed rows worker key to l w k = pick (eqb worker w) (eqb key k) refl
  where
    pick : (a b : Bool) → eqb worker w ≡ a → in_row rows w k ≡ cond (a && b) (ltb worker (length rows) && to) (in_row rows w k)
    pick true true e = ap (λ v. in_row rows v k) (sym (eqb-true worker w e)) ∙ row_past rows worker k l ∙ sym (ap (λ t. t && to) (le-ltb worker (length rows) l))
    pick true false e = refl
    pick false b e = refl

pub rows_put : (n : ℕ) (rows : List (List ℕ)) (worker : ℕ) (old new : List ℕ) → AreRows n rows → worker < length rows → old ≡ get_or rows worker old → room new ≡ room old → length (set rows worker new) ≡ length rows → AreRows n (set rows worker new)
rows_put n rows worker old new r l was e m = record {
  many = omega (arith, r.many, m);
  wide = λ w g. wide w (omega (arith, g, m));
}
  where
    before : old ≡ get_or rows worker []
    before = was ∙ get_or_default rows worker old [] l

    at : n ≤ room new
    at = let a : n ≤ room old = subst (λ (ks : List ℕ). n ≤ room ks) (sym before) (r.wide worker l) in omega (arith, a, e)

    wide : (w : ℕ) → w < length rows → n ≤ room (get_or (set rows worker new) w [])
    wide w g = subst (λ (ks : List ℕ). n ≤ room ks) (sym (set_at rows worker new [] l w)) (pick (eqb w worker))
      where
        pick : (b : Bool) → n ≤ room (cond b new (get_or rows w []))
        pick true = at
        pick false = r.wide w g

-- one more set at the end
push_at : (rows : List (List ℕ)) (new : List ℕ) (w : ℕ) → get_or (rows ++ new ∷ []) w [] ≡ cond (eqb w (length rows)) new (get_or rows w [])
push_at rows new w = pick (eqb w (length rows)) refl
  where
    far : (a b n : ℕ) → b ≤ a → eqb a b ≡ false → n ≡ b + 1 → n ≤ a
    far a b n l e h = grind (arith, nat_tests)

    pick : (b : Bool) → eqb w (length rows) ≡ b → get_or (rows ++ new ∷ []) w [] ≡ cond b new (get_or rows w [])
    pick true e = get_or_at rows new [] [] w (sym (eqb-true w (length rows) e))
    pick false e = ⊎_elim
        (λ l. get_or_append_left rows (new ∷ []) [] w l)
        (λ l. get_or_past (rows ++ new ∷ []) w [] (far w (length rows) (length (rows ++ new ∷ [])) l e (length_push rows new)) ∙ sym (get_or_past rows w [] l))
        (cases_lt w (length rows))

pub row_pushed : (rows : List (List ℕ)) (new : List ℕ) → ((w k : ℕ) → in_row rows w k ≡ false) → ((k : ℕ) → has new k ≡ false) → (w k : ℕ) → in_row (rows ++ new ∷ []) w k ≡ false
row_pushed rows new h e w k = ap (λ r. has r k) (push_at rows new w) ∙ pick (eqb w (length rows))
  where
    pick : (b : Bool) → has (cond b new (get_or rows w [])) k ≡ false
    pick true = e k
    pick false = h w k

pub wide_pushed : (n : ℕ) (rows : List (List ℕ)) (new : List ℕ) → ((w : ℕ) → w < length rows → n ≤ room (get_or rows w [])) → n ≤ room new → (w : ℕ) → w < length (rows ++ new ∷ []) → n ≤ room (get_or (rows ++ new ∷ []) w [])
wide_pushed n rows new h e w l = subst (λ (ks : List ℕ). n ≤ room ks) (sym (push_at rows new w)) (pick (eqb w (length rows)) refl)
  where
    pick : (b : Bool) → eqb w (length rows) ≡ b → n ≤ room (cond b new (get_or rows w []))
    pick true i = e
    pick false i = h w (below_or_unequal w (length rows) (omega (arith, l, length_push rows new)) i)

-- a question of one set
pub first_there : (rows : List (List ℕ)) (worker from : ℕ) (r : Option ℕ) (ks : List ℕ) → worker < length rows → ks ≡ get_or rows worker ks → IsFirst (has ks) from r → IsFirst (in_row rows worker) from r
first_there rows worker from r ks l e h = subst (λ (xs : List ℕ). IsFirst (has xs) from r) (e ∙ get_or_default rows worker ks [] l) h
