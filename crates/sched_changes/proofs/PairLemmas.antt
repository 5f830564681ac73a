-- Lists of pairs.
use Rattle.std.proofs.Common.{◌≡◌, ℕ, Bool, true, false, cond, ◌&&◌, ◌||◌, List, [], ◌∷◌, ◌++◌, refl, sym, ap, ◌∙◌}
use Rattle.std.specs.Prelude.{Result, Ok, Err, OnErr}
use Rattle.std.proofs.lemmas.Bool.{eqb-true}
use Rattle.std.proofs.Math.Dec.{eqb}
use Rattle.std.proofs.Math.Bool.{or-false, and-false}
use Rattle.small_facts.proofs.Numbers.{eqb_turned}
use Rattle.small_facts.proofs.Truth.{or_regroup}
use Rattle.cluster_rules.specs.Functions.{put_pair}
use Rattle.sched_changes.specs.Pairs.{has_pair}

pub pair_push : (ps : List (ℕ × ℕ)) (w k v j : ℕ) → has_pair (ps ++ (w, k) ∷ []) v j ≡ (has_pair ps v j || (eqb w v && eqb k j))
pair_push [] w k v j = or-false (eqb w v && eqb k j)
pair_push (p ∷ ps) w k v j = ap (λ b. (eqb p.0 v && eqb p.1 j) || b) (pair_push ps w k v j) ∙ or_regroup (eqb p.0 v && eqb p.1 j) (has_pair ps v j) (eqb w v && eqb k j)

-- the list as a function, with one more pair
pub pair_put : (ps : List (ℕ × ℕ)) (w k : ℕ) → has_pair (ps ++ (w, k) ∷ []) ≡ put_pair (has_pair ps) w k true
pair_put ps w k = λ i v j. at v j i
  where
    turn : (a b : Bool) → (a || b) ≡ cond b true a
    turn true true = refl
    turn true false = refl
    turn false true = refl
    turn false false = refl

    at : (v j : ℕ) → has_pair (ps ++ (w, k) ∷ []) v j ≡ cond (eqb v w && eqb j k) true (has_pair ps v j)
    at v j = pair_push ps w k v j ∙ turn (has_pair ps v j) (eqb w v && eqb k j) ∙ ap (λ b. cond (b && eqb k j) true (has_pair ps v j)) (eqb_turned w v) ∙ ap (λ b. cond (eqb v w && b) true (has_pair ps v j)) (eqb_turned k j)

-- what a worker loses of one key that it holds, or does not hold
pub pair_here : (h : ℕ → ℕ → Bool) (w k : ℕ) → h w k ≡ true → (v j : ℕ) → (eqb w v && eqb k j) ≡ (h v j && (eqb v w && eqb j k))
pair_here h w k e v j = ap (λ b. b && eqb k j) (eqb_turned w v) ∙ ap (λ b. eqb v w && b) (eqb_turned k j) ∙ pick (eqb v w) (eqb j k) refl refl
  where
    pick : (a b : Bool) → eqb v w ≡ a → eqb j k ≡ b → (a && b) ≡ (h v j && (a && b))
    pick true true p q = sym (ap (λ c. c && true) (ap (λ u. h u j) (eqb-true v w p) ∙ ap (h w) (eqb-true j k q) ∙ e))
    pick true false p q = sym (and-false (h v j))
    pick false b p q = sym (and-false (h v j))

pub pair_not_here : (h : ℕ → ℕ → Bool) (w k : ℕ) → h w k ≡ false → (v j : ℕ) → (h v j && (eqb v w && eqb j k)) ≡ false
pair_not_here h w k e v j = pick (eqb v w) (eqb j k) refl refl
  where
    pick : (a b : Bool) → eqb v w ≡ a → eqb j k ≡ b → (h v j && (a && b)) ≡ false
    pick true true p q = ap (λ c. c && true) (ap (λ u. h u j) (eqb-true v w p) ∙ ap (h w) (eqb-true j k q) ∙ e)
    pick true false p q = and-false (h v j)
    pick false b p q = and-false (h v j)

-- what holds holds after want of memory too
pub after_err : {A E : Type 0} (r : Result A E) (P : Type 0) → P → OnErr r P
after_err (Ok x) P p = tt
after_err (Err e) P p = p
