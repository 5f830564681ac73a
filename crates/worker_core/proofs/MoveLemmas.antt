-- The least key that runs, as it is said of the core, and keys that are gone through by a set of them.
use Rattle.std.proofs.Common.{◌≡◌, ℕ, ◌+◌, ◌<◌, ◌≤◌, Bool, true, false, ◌&&◌, ◌||◌, List, [], ◌∷◌, ◌++◌, Option, Some, None, All, filter, cond, refl, sym, ap, ◌∙◌, subst, arith}
use Rattle.std.specs.Prelude.{◌==◌, ◌↔◌, is_some}
use Rattle.std.proofs.lemmas.Bool.{false≢true, eqb-true}
use Rattle.std.proofs.lemmas.List.Elements.{All-head, All-tail}
use Rattle.small_facts.proofs.Numbers.{eqb_turned}
use Rattle.cluster_rules.specs.Derived.{below, is_in}
use Rattle.cluster_rules.specs.Worker.{WorkerFacts, wstate, is_fetch_state}
use Rattle.cluster_rules.proofs.SchedLemmas.{filter-below}
use Rattle.key_sets.specs.Sets.{IsFirst}
use Rattle.worker_table.proofs.SearchLemmas.{filter-gap}
use Rattle.worker_core.specs.Runs.{IsNextRun}

pub next_of : (w : WorkerFacts) (from : ℕ) (o : Option ℕ) → IsFirst w.running from o → IsNextRun w from o
next_of w from None h = h
next_of w from (Some k) h = record { past = h.0; runs = h.1; before = h.2 }

-- none is to be fetched where there is no first one
pub none_fetched : (w : WorkerFacts) (o : Option ℕ) (b : Bool) → IsFirst (λ k. is_fetch_state (wstate w k)) 0 o → b ≡ is_some o → (b ≡ false) ↔ ((k : ℕ) → is_fetch_state (wstate w k) ≡ false)
none_fetched w None b h e = ((λ n k. h k (omega arith)), (λ n. e))
none_fetched w (Some r) b h e = ((λ n k. absurd (false≢true (sym n ∙ e))), (λ n. absurd (false≢true (sym (n r) ∙ h.1))))

pub named_more : (a b : Bool) (k x : ℕ) → cond (k == x) true (a || b) ≡ (a || (b || (x == k)))
named_more a b k x = pick a b (k == x) (x == k) (eqb_turned k x)
  where
    pick : (a b s t : Bool) → s ≡ t → cond s true (a || b) ≡ (a || (b || t))
    pick true b true t e = refl
    pick true b false t e = refl
    pick false true true t e = refl
    pick false true false t e = refl
    pick false false true t e = e
    pick false false false t e = e

-- one more key, where none up to it passes
pub filter-step : (p : ℕ → Bool) (a k : ℕ) → a ≤ k → ((j : ℕ) → a ≤ j → j < k → p j ≡ false) → filter p (below (k + 1)) ≡ filter p (below a) ++ cond (p k) (k ∷ []) []
filter-step p a k l h = filter-below p k ∙ ap (λ xs. xs ++ cond (p k) (k ∷ []) []) (filter-gap p a k l h)

pub in_all : (P : ℕ → Type 0) (k : ℕ) (ks : List ℕ) → is_in k ks ≡ true → All P ks → P k
in_all P k [] e a = absurd (false≢true e)
in_all P k (x ∷ xs) e a = pick (x == k) refl e (λ h. in_all P k xs h (All-tail P x xs a))
  where
    pick : (b : Bool) → (x == k) ≡ b → (b || is_in k xs) ≡ true → (is_in k xs ≡ true → P k) → P k
    pick true g h r = subst P (eqb-true x k g) (All-head P x xs a)
    pick false g h r = r h

pub and_named : (a b : Bool) → a ≡ true → b ≡ (a && b)
and_named true b e = refl
and_named false b e = absurd (false≢true e)
