-- Keys that were looked at are in the sets that they belong to, and all others stay where they were.
use Rattle.std.proofs.Common.{◌≡◌, ℕ, ◌+◌, ◌<◌, Bool, true, false, ◌||◌, List, refl, sym, ap, ◌∙◌, subst, get_or, length, take}
use Rattle.std.specs.Prelude.{◌==◌}
use Rattle.std.specs.List.{list_any}
use Rattle.std.proofs.lemmas.Bool.{true≢false, eqb-true}
use Rattle.std.proofs.lemmas.List.Folds.{list_any_more}
use Rattle.small_facts.proofs.Numbers.{eqb_turned}
use Rattle.small_facts.proofs.Truth.{or_first_false, or_second_false, or_without}
use Rattle.cluster_msgs.specs.Shape.{Shape}
use Rattle.cluster_rules.specs.Worker.{WorkerFacts, new_worker, flying, awaited}
use Rattle.worker_table.specs.Parts.{Parts, parts, fetch_of, unasked_of}
use Rattle.worker_table.specs.Plan.{IsAt, IsNowhere}
use Rattle.worker_table.specs.declared.plan.Plan.{Plan}
use Rattle.worker_table.proofs.PartLemmas.{awaited_none}

-- the others stay, of the keys that pass a test
abbrev pub Leaves : (ℕ → Bool) → Plan → Plan → Type 0
Leaves t old new = (q : Parts) (k : ℕ) → t k ≡ false → IsAt q old k → IsAt q new k

-- each key that passes is looked at
abbrev pub Looked : (ℕ → Bool) → WorkerFacts → Plan → Type 0
Looked t h new = (k : ℕ) → t k ≡ true → IsAt (parts h k) new k

pub one_looked : (h : WorkerFacts) (new : Plan) (key : ℕ) → IsAt (parts h key) new key → Looked (λ k. k == key) h new
one_looked h new key here k e = subst (λ j. IsAt (parts h j) new j) (sym (eqb-true k key e)) here

pub looked : (t : ℕ → Bool) (f h : WorkerFacts) (old new : Plan) → ((k : ℕ) → IsAt (parts f k) old k) → ((k : ℕ) → t k ≡ false → parts f k ≡ parts h k) → Looked t h new → Leaves t old new → (k : ℕ) → IsAt (parts h k) new k
looked t f h old new was same here others k = pick (t k) refl
  where
    pick : (b : Bool) → t k ≡ b → IsAt (parts h k) new k
    pick true e = here k e
    pick false e = others (parts h k) k e (subst (λ q. IsAt q old k) (same k e) (was k))

-- a key, and then a list of keys
pub looked_twice : (t u : ℕ → Bool) (f h : WorkerFacts) (old mid new : Plan) → ((k : ℕ) → IsAt (parts f k) old k) → ((k : ℕ) → t k ≡ false → u k ≡ false → parts f k ≡ parts h k)
    → Looked t h mid → Leaves t old mid → Looked u h new → Leaves u mid new → (k : ℕ) → IsAt (parts h k) new k
looked_twice t u f h old mid new was same here others here' others' k = pick (u k) refl (t k) refl
  where
    pick : (b : Bool) → u k ≡ b → (d : Bool) → t k ≡ d → IsAt (parts h k) new k
    pick true e d g = here' k e
    pick false e true g = others' (parts h k) k e (here k g)
    pick false e false g = others' (parts h k) k e (others (parts h k) k g (subst (λ q. IsAt q old k) (same k g e) (was k)))

-- one more key of a list
more_is : {A : Type 0} (at : A → ℕ) (xs : List A) (i k : ℕ) (d : A) → i < length xs → list_any (λ x. at x == k) (take (i + 1) xs) ≡ (list_any (λ x. at x == k) (take i xs) || (k == at (get_or xs i d)))
more_is at xs i k d l = list_any_more (λ x. at x == k) xs i d l ∙ ap (λ b. list_any (λ x. at x == k) (take i xs) || b) (eqb_turned (at (get_or xs i d)) k)

pub looked_more : {A : Type 0} (at : A → ℕ) (h : WorkerFacts) (old new : Plan) (xs : List A) (i : ℕ) (d : A) → i < length xs → Looked (λ k. list_any (λ x. at x == k) (take i xs)) h old
    → IsAt (parts h (at (get_or xs i d))) new (at (get_or xs i d)) → Leaves (λ k. k == at (get_or xs i d)) old new → Looked (λ k. list_any (λ x. at x == k) (take (i + 1) xs)) h new
looked_more at h old new xs i d l was here others k e = pick (k == at (get_or xs i d)) refl
  where
    pick : (b : Bool) → (k == at (get_or xs i d)) ≡ b → IsAt (parts h k) new k
    pick true g = one_looked h new (at (get_or xs i d)) here k g
    pick false g = others (parts h k) k g (was k (or_without _ _ (sym (more_is at xs i k d l) ∙ e) g))

pub leaves_more : {A : Type 0} (at : A → ℕ) (first old new : Plan) (xs : List A) (i : ℕ) (d : A) → i < length xs → Leaves (λ k. list_any (λ x. at x == k) (take i xs)) first old
    → Leaves (λ k. k == at (get_or xs i d)) old new → Leaves (λ k. list_any (λ x. at x == k) (take (i + 1) xs)) first new
leaves_more at first old new xs i d l was others q k e a =
    let g = sym (more_is at xs i k d l) ∙ e in
    others q k (or_second_false _ _ g) (was q k (or_first_false _ _ g) a)

-- a worker as it starts is in no set
pub at_first : (g : Shape) (id threads : ℕ) (p : Plan) (k : ℕ) → IsNowhere p k → IsAt (parts (new_worker g id threads) k) p k
unfolding flying
at_first g id threads p k h = record {
  runs = h.runs;
  ready = h.ready;
  fetch = h.fetch ∙ sym (none_fetch (awaited (new_worker g id threads) k) (awaited_none g id threads k));
  unasked = h.unasked ∙ sym (none_asked (awaited (new_worker g id threads) k) (awaited_none g id threads k));
}
  where
    w : WorkerFacts
    w = new_worker g id threads

    none_fetch : (b : Bool) → b ≡ false → fetch_of (record (parts w k) { flying = false; awaited = b }) ≡ false
    none_fetch true e = absurd (true≢false e)
    none_fetch false e = refl

    none_asked : (b : Bool) → b ≡ false → unasked_of (record (parts w k) { flying = false; awaited = b }) ≡ false
    none_asked true e = absurd (true≢false e)
    none_asked false e = refl
