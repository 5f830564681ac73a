-- A place is connected; placing key by key; what lies between two keys that wait for a worker.
use Rattle.std.proofs.Common.{◌≡◌, ℕ, ◌+◌, ◌<◌, ◌≤◌, Bool, true, false, not, cond, ◌&&◌, ◌||◌, List, [], ◌∷◌, Option, Some, None, is_none, refl, sym, ap, ◌∙◌, subst, arith, ⊎_elim, ◌⊎◌, length, ltb}
use Rattle.std.proofs.lemmas.Bool.{false≢true, eqb-true, cases_lt, or_from, or_left, or_right}
use Rattle.std.proofs.lemmas.Bool.Decides.{nat_tests}
use Rattle.std.proofs.Math.Dec.{eqb}
use Rattle.std.specs.Prelude.{Result, Ok, Err, OnOk, IfSome}
use Rattle.std.specs.List.{filter, list_any}
use Rattle.std.proofs.Math.Bool.{or_assoc}
use Rattle.std.proofs.lemmas.List.{nil_from_length}
use Rattle.small_facts.proofs.Options.{none_from_is_none}
use Rattle.small_facts.proofs.Truth.{and_first, and_second}
use Rattle.cluster_rules.specs.Functions.{put}
use Rattle.cluster_rules.specs.Derived.{below}
use Rattle.cluster_rules.specs.Choice.{IsLeastOf}
use Rattle.cluster_rules.specs.Sched.{Setting, Facts, IsSound, keys, deps, holds, ready, workers, connected, full}
use Rattle.cluster_rules.specs.Policies.{place, place_rank, candidates, candidates_by, or_else}
use Rattle.cluster_rules.specs.SchedStep.{drop_bad, drop_has, drop_on, give, place_one, place_keys, place_all}
use Rattle.cluster_rules.proofs.ChoiceLemmas.{least_by_least}
use Rattle.cluster_rules.proofs.SchedLemmas.{place_keys-push, below-more, counter-place_one, keys-place_one, place_one-none, place_one-no, ready-past}
use Rattle.cluster_laws.proofs.Placed.{nowhere}
use Rattle.cluster_msgs.specs.declared.messages.Down.{Down}
use Rattle.key_sets.specs.Sets.{IsFirst}
use Rattle.task_table.specs.Tasks.{is_root, is_queued, queued_root, queued_other}
use Rattle.scheduler_core.specs.Roots.{RootsWait, is_due}
use Rattle.scheduler_core.specs.Firsts.{earlier}
use Rattle.scheduler_core.proofs.WalkLemmas.{gap_to}
use Rattle.scheduler_core.specs.Posted.{posted_mail}
use Rattle.scheduler_core.specs.Settling.{let_go, copy_goes, place_goes, goes}
use Rattle.cluster_rules.proofs.SoundStep.{candidate_by_connected}

-- what follows from success
pub then_ok : {A E : Type 0} (r : Result A E) (P Q : Type 0) → OnOk r P → (P → Q) → OnOk r Q
then_ok (Ok x) P Q h k = k h
then_ok (Err e) P Q h k = tt

pub let_go_is : (f : Facts) → drop_on (drop_has (drop_bad f)) ≡ let_go f
unfolding let_go
let_go_is f = refl

-- pairs that go in two steps
pub goes_both : (f g h : Facts) (before mid after : ℕ → ℕ → Bool) → g ≡ drop_bad f → h ≡ drop_has g → ((w k : ℕ) → mid w k ≡ (before w k || copy_goes g w k)) → ((w k : ℕ) → after w k ≡ (mid w k || place_goes h w k)) → (w k : ℕ) → after w k ≡ (before w k || goes f w k)
goes_both f g h before mid after p q m n w k =
    n w k ∙ ap (λ b. b || place_goes h w k) (m w k) ∙ or_assoc (before w k) (copy_goes g w k) (place_goes h w k)
    ∙ ap (λ (z : Facts). before w k || (copy_goes g w k || place_goes z w k)) q
    ∙ ap (λ (z : Facts). before w k || (copy_goes z w k || place_goes (drop_has z) w k)) p

pub setting_drop_bad : (f : Facts) → (drop_bad f).setting ≡ f.setting
unfolding drop_bad
setting_drop_bad f = refl

pub setting_drop_has : (f : Facts) → (drop_has f).setting ≡ f.setting
unfolding drop_has
setting_drop_has f = refl

pub setting_drop_on : (f : Facts) → (drop_on f).setting ≡ f.setting
unfolding drop_on
setting_drop_on f = refl

pub setting_posted : (f : Facts) (ms : List (ℕ × Down)) → (posted_mail f ms).setting ≡ f.setting
unfolding posted_mail
setting_posted f ms = refl

pub place_connected : (f : Facts) (k w : ℕ) → Some w ≡ place f k → connected f w ≡ true
unfolding place candidates
place_connected f k w e =
    let b : IsLeastOf (place_rank f k) (candidates f k) (Some w) = subst (IsLeastOf (place_rank f k) (candidates f k)) (sym e) (least_by_least (place_rank f k) (candidates f k)) in
    candidate_by_connected f (deps f k) w b.member

-- a key that is on no worker is not to be stolen
pub given_free : (f : Facts) (k w : ℕ) → IsSound f → f.on k ≡ None → record f { on = put f.on k (Some (w, f.counter)); steal = put f.steal k None; counter = f.counter + 1 } ≡ give f k (Some w)
given_free f k w s e = λ i. record f { on = put f.on k (Some (w, f.counter)); steal = λ j. at j (eqb j k) refl i; counter = f.counter + 1 }
  where
    at : (j : ℕ) (b : Bool) → eqb j k ≡ b → cond b None (f.steal j) ≡ f.steal j
    at j true p = sym (ap f.steal (eqb-true j k p) ∙ s.steal k e)
    at j false p = refl

pub placed_yes : (f : Facts) (k : ℕ) → (ready f k && is_none (f.on k)) ≡ true → give f k (place f k) ≡ place_one f k
unfolding place_one
placed_yes f k e = sym (ap (λ b. cond b (give f k (place f k)) f) e)

pub placed_no : (f : Facts) (k : ℕ) → (ready f k && is_none (f.on k)) ≡ false → f ≡ place_one f k
unfolding place_one
placed_no f k e = sym (ap (λ b. cond b (give f k (place f k)) f) e)

pub free_of : (f : Facts) (k : ℕ) (b : Bool) → b ≡ (ready f k && is_none (f.on k)) → b ≡ true → f.on k ≡ None
free_of f k b e t = none_from_is_none (f.on k) (and_second (ready f k) (is_none (f.on k)) (sym e ∙ t))

-- the first keys are placed
pub record IsPlaced (f g : Facts) (n : ℕ) : Type 0 where
  pub facts : g ≡ place_keys f (below n)
  pub setting : g.setting ≡ f.setting
  pub counter : g.counter ≤ f.counter + n

pub placed_none : (f : Facts) → IsPlaced f f 0
placed_none f = record { facts = refl; setting = refl; counter = same f.counter }
  where
    same : (n : ℕ) → n ≤ n + 0
    same n = omega arith

pub placed_next : (f g h : Facts) (n : ℕ) → h ≡ place_one g n → IsPlaced f g n → IsPlaced f h (n + 1)
placed_next f g h n e p = record {
  facts = e ∙ ap (λ (z : Facts). place_one z n) p.facts ∙ sym (ap (place_keys f) (below-more n) ∙ place_keys-push f (below n) n);
  setting = ap (λ (z : Facts). z.setting) e ∙ keys-place_one g n ∙ p.setting;
  counter = more h.counter (place_one g n).counter g.counter f.counter n (ap (λ (z : Facts). z.counter) e) (counter-place_one g n) p.counter;
}
  where
    more : (a b c d n : ℕ) → a ≡ b → b ≤ c + 1 → c ≤ d + n → a ≤ d + (n + 1)
    more a b c d n q r t = omega arith

pub placed_keys : (f g : Facts) (n k : ℕ) → IsPlaced f g n → k < keys f → k < keys g
placed_keys f g n k p l = subst (λ (z : Setting). k < length z.shape.deps) (sym p.setting) l

pub placed_all : (f g : Facts) (n : ℕ) → IsPlaced f g n → n ≡ keys f → g ≡ place_all f
unfolding place_all
placed_all f g n p e = p.facts ∙ ap (λ m. place_keys f (below m)) e

-- ## Keys between those that wait for a worker

-- a key that doesn't wait, or waits in vain, stays where it is in its turn
pub not_due : (g : Facts) (wait : Bool) (k : ℕ) → (wait ≡ true → RootsWait g) → is_due g wait k ≡ false → place_one g k ≡ g
not_due g wait k r e = pick (is_queued g k) refl wait refl (is_root g k) refl e
  where
    pick : (q : Bool) → is_queued g k ≡ q → (w : Bool) → wait ≡ w → (o : Bool) → is_root g k ≡ o → (q && not (w && o)) ≡ false → place_one g k ≡ g
    pick false a w b o c h = place_one-no g k a
    pick true a true b true c h = place_one-none g k (r b k c)
    pick true a true b false c h = absurd (false≢true (sym h))
    pick true a false b o c h = absurd (false≢true (sym h))

pub placed_over : (f g : Facts) (n m : ℕ) → IsPlaced f g n → n ≤ m → ((k : ℕ) → n ≤ k → k < m → place_one g k ≡ g) → IsPlaced f g m
placed_over f g n m p l h = record {
  facts = p.facts ∙ gap_to (λ k. place_keys f (below k)) n m l (λ k a b e. ap (place_keys f) (below-more k) ∙ place_keys-push f (below k) k ∙ ap (λ (z : Facts). place_one z k) (e ∙ sym p.facts) ∙ h k a b ∙ p.facts);
  setting = p.setting;
  counter = more g.counter f.counter n m p.counter l;
}
  where
    more : (a b n m : ℕ) → a ≤ b + n → n ≤ m → a ≤ b + m
    more a b n m i j = omega arith

-- the walk from one key to the next
pub due_between : (f g : Facts) (wait : Bool) (n key : ℕ) → IsPlaced f g n → (wait ≡ true → RootsWait g) → IsFirst (is_due g wait) n (Some key) → IsPlaced f g key
due_between f g wait n key p r h = placed_over f g n key p h.0 (λ k a b. not_due g wait k r (h.2 k a b))

pub due_no_more : (f g : Facts) (wait : Bool) (n : ℕ) → IsPlaced f g n → n ≤ keys f → (wait ≡ true → RootsWait g) → IsFirst (is_due g wait) n None → g ≡ place_all f
due_no_more f g wait n p l r h = placed_all f g (keys f) (placed_over f g n (keys f) p l (λ k a b. not_due g wait k r (h k a))) refl

-- a key that waits for a worker is there, ready and on none
pub due_ready : (f : Facts) (wait : Bool) (k : ℕ) → is_due f wait k ≡ true → (ready f k && is_none (f.on k)) ≡ true
due_ready f wait k e = and_first (is_queued f k) (not (wait && is_root f k)) e

pub due_there : (f : Facts) (wait : Bool) (k : ℕ) → IsSound f → is_due f wait k ≡ true → k < keys f
due_there f wait k s e = ⊎_elim (λ l. l) (λ l. absurd (false≢true (sym (ready-past f s k l) ∙ and_first (ready f k) (is_none (f.on k)) (due_ready f wait k e)))) (cases_lt k (keys f))

pub first_there : (f : Facts) (wait : Bool) (n : ℕ) (o : Option ℕ) → IsSound f → IsFirst (is_due f wait) n o → IfSome o (λ k. k < keys f)
first_there f wait n None s h = tt
first_there f wait n (Some k) s h = due_there f wait k s h.1

-- ## The first of two sets

pub first_both : (p q r : ℕ → Bool) (n : ℕ) (a b : Option ℕ) → ((k : ℕ) → r k ≡ (p k || q k)) → IsFirst p n a → IsFirst q n b → IsFirst r n (earlier a b)
first_both p q r n None None e h i = λ k l. e k ∙ or_from (p k) (q k) (h k l) (i k l)
first_both p q r n None (Some y) e h i = (i.0, e y ∙ or_right (p y) (q y) i.1, λ k l m. e k ∙ or_from (p k) (q k) (h k l) (i.2 k l m))
first_both p q r n (Some x) None e h i = (h.0, e x ∙ or_left (p x) (q x) h.1, λ k l m. e k ∙ or_from (p k) (q k) (h.2 k l m) (i k l))
first_both p q r n (Some x) (Some y) e h i = pick (ltb y x) refl
  where
    less : (y x : ℕ) → ltb y x ≡ true → (k : ℕ) → k < y → k < x
    less y x t k l = let u : y < x = grind (arith, nat_tests) in omega (arith, u, l)

    more : (y x : ℕ) → ltb y x ≡ false → (k : ℕ) → k < x → k < y
    more y x t k l = let u : x ≤ y = grind (arith, nat_tests) in omega (arith, u, l)

    pick : (t : Bool) → ltb y x ≡ t → IsFirst r n (Some (cond t y x))
    pick true t = (i.0, e y ∙ or_right (p y) (q y) i.1, λ k l m. e k ∙ or_from (p k) (q k) (h.2 k l (less y x t k m)) (i.2 k l m))
    pick false t = (h.0, e x ∙ or_left (p x) (q x) h.1, λ k l m. e k ∙ or_from (p k) (q k) (h.2 k l m) (i.2 k l (more y x t k m)))

-- while keys without dependencies don't wait in vain, both sets count
pub due_either : (f : Facts) (k : ℕ) → is_due f false k ≡ (queued_root f k || queued_other f k)
due_either f k = turn (is_queued f k) (is_root f k)
  where
    turn : (a b : Bool) → (a && not (false && b)) ≡ ((a && b) || (a && not b))
    turn true true = refl
    turn true false = refl
    turn false b = refl

-- ## No worker

no_one : (f : Facts) → length (workers f) ≡ 0 → workers f ≡ []
no_one f e = nil_from_length (workers f) e

no_place : (f : Facts) → length (workers f) ≡ 0 → (k : ℕ) → place f k ≡ None
unfolding candidates
no_place f e k = nowhere f k (by_deps (deps f k))
  where
    by_deps : (ds : List ℕ) → candidates_by f ds ≡ []
    by_deps [] = ap (filter (λ w. not (full f w))) (no_one f e)
    by_deps (d ∷ ds) = ap (λ ws. or_else (filter (λ w. list_any (holds f w) (d ∷ ds)) ws) ws) (no_one f e)

pub idle_all : (f : Facts) → length (workers f) ≡ 0 → f ≡ place_all f
unfolding place_all
idle_all f e = sym (idle (below (keys f)))
  where
    idle : (ks : List ℕ) → place_keys f ks ≡ f
    idle [] = refl
    idle (k ∷ ks) = ap (λ (z : Facts). place_keys z ks) (place_one-none f k (no_place f e k)) ∙ idle ks
