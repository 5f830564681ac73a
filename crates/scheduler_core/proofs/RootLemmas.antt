-- Where one key without dependencies finds no worker, none does, and placing more keys changes nothing of that.
use Rattle.std.proofs.Common.{◌≡◌, ℕ, Bool, true, ◌&&◌, ◌||◌, cond, List, [], ◌∷◌, Option, None, length, is_none, sym, ap, ◌∙◌, subst, ⊎_elim}
use Rattle.std.specs.Prelude.{◌==◌}
use Rattle.std.proofs.lemmas.Bool.{or_cases, eqb-true}
use Rattle.std.proofs.lemmas.List.{nil_from_length}
use Rattle.small_facts.proofs.Options.{none_from_is_none}
use Rattle.small_facts.proofs.Truth.{and_first, and_second, cond_same}
use Rattle.cluster_msgs.specs.Shape.{deps_of}
use Rattle.cluster_rules.specs.Sched.{Facts, Setting, deps, ready}
use Rattle.cluster_rules.specs.Policies.{place, candidates, candidates_by}
use Rattle.cluster_rules.specs.SchedStep.{give, place_one}
use Rattle.cluster_rules.proofs.SchedLemmas.{keys-place_one, ready-place_one}
use Rattle.cluster_laws.proofs.Placed.{no_candidates, nowhere, nowhere_one, left_alone, left_in_turn}
use Rattle.task_table.specs.Tasks.{is_root}
use Rattle.scheduler_core.specs.Roots.{RootsWait}

no_deps : (ds : List ℕ) → (length ds == 0) ≡ true → ds ≡ []
no_deps ds e = nil_from_length ds (eqb-true (length ds) 0 e)

-- the candidates of all keys without dependencies are the same
roots_from : (f : Facts) (k : ℕ) → is_root f k ≡ true → place f k ≡ None → RootsWait f
unfolding candidates
roots_from f k d n j e = nowhere f j (ap (candidates_by f) (no_deps (deps f j) e) ∙ ap (candidates_by f) (sym (no_deps (deps f k) d)) ∙ no_candidates f k n)

-- placing only fills workers
pub roots_one : (f : Facts) (k : ℕ) → RootsWait f → RootsWait (place_one f k)
roots_one f k r j e = nowhere_one f k j (r j (ap (λ (c : Setting). length (deps_of c.shape j) == 0) (sym (keys-place_one f k)) ∙ e))

-- a key that has no place stays where it is in its turn
pub passed_over : (f : Facts) (k : ℕ) → place f k ≡ None → f ≡ place_one f k
unfolding place_one
passed_over f k n = sym (ap (λ (o : Option ℕ). cond (ready f k && is_none (f.on k)) (give f k o) f) n ∙ cond_same (ready f k && is_none (f.on k)) f)

-- a key without dependencies that is ready and on no worker after its turn had no place
roots_left : (f g : Facts) (k : ℕ) → g ≡ place_one f k → is_root f k ≡ true → (ready g k && is_none (g.on k)) ≡ true → RootsWait g
roots_left f g k q d l =
    let n : (place_one f k).on k ≡ None = ap (λ (z : Facts). z.on k) (sym q) ∙ none_from_is_none (g.on k) (and_second (ready g k) (is_none (g.on k)) l) in
    let r : ready f k ≡ true = ap (λ (z : ℕ → Bool). z k) (sym (ready-place_one f k)) ∙ ap (λ (z : Facts). ready z k) (sym q) ∙ and_first (ready g k) (is_none (g.on k)) l in
    subst RootsWait (sym q) (roots_one f k (roots_from f k d (left_in_turn f k r (left_alone f (k ∷ []) k n) n)))

-- what a turn answers
pub roots_after : (f g : Facts) (k : ℕ) (wait root left : Bool) → g ≡ place_one f k → (wait ≡ true → RootsWait f) → root ≡ is_root f k → left ≡ (ready g k && is_none (g.on k)) → (wait || (root && left)) ≡ true → RootsWait g
roots_after f g k wait root left q w r l e = ⊎_elim
    (λ a. subst RootsWait (sym q) (roots_one f k (w a)))
    (λ a. roots_left f g k q (sym r ∙ and_first root left a) (sym l ∙ and_second root left a))
    (or_cases wait (root && left) e)
