-- Placing keys leaves what is derived as it is, gives only ready keys, and leaves a key only where no worker could take it.
use Rattle.std.proofs.Common.{◌≡◌, ℕ, ◌*◌, ◌≤◌, Bool, true, false, not, ◌&&◌, cond, List, [], ◌∷◌, Option, Some, None, refl, sym, ap, ◌∙◌, subst, arith, is_some, is_none, ⊎_elim}
use Rattle.std.specs.Prelude.{nat_le}
use Rattle.std.proofs.lemmas.Bool.{or_cases, false≢true, eqb-true, and_from}
use Rattle.std.proofs.lemmas.Bool.Decides.{nat_tests}
use Rattle.std.proofs.Math.Dec.{eqb}
use Rattle.small_facts.proofs.Numbers.{eqb_self}
use Rattle.small_facts.proofs.Options.{some_not_none, none_from_is_none}
use Rattle.small_facts.proofs.Truth.{and_first, and_second}
use Rattle.cluster_rules.specs.Functions.{count}
use Rattle.cluster_rules.specs.Derived.{below, is_in}
use Rattle.cluster_rules.specs.Sched.{Facts, keys, deps, held, erred, wanted, known, need, ready, workers, is_on, is_for, tasks, full, threads_of}
use Rattle.cluster_rules.specs.Policies.{place, place_rank, candidates, candidates_by}
use Rattle.cluster_rules.specs.Choice.{IsLeastOf}
use Rattle.cluster_rules.specs.SchedStep.{give, place_one, place_keys}
use Rattle.cluster_rules.proofs.ChoiceLemmas.{least_by_least}
use Rattle.cluster_rules.proofs.SchedLemmas.{ready-place_one, place_one-some}
use Rattle.cluster_rules.proofs.SchedFrame.{placing_keys}
use Rattle.cluster_laws.proofs.Lists.{filter_less, count_less}

-- what placing leaves as it is
pub record IsDerivedAs (f g : Facts) : Type 0 where
  pub known : known g ≡ known f
  pub need : need g ≡ need f
  pub held : held g ≡ held f
  pub ready : ready g ≡ ready f
  pub has : g.has ≡ f.has
  pub bad : g.bad ≡ f.bad
  pub losses : g.losses ≡ f.losses
  pub setting : g.setting ≡ f.setting
  pub steal : g.steal ≡ f.steal

pub derived_self : (f : Facts) → IsDerivedAs f f
derived_self f = record { known = refl; need = refl; held = refl; ready = refl; has = refl; bad = refl; losses = refl; setting = refl; steal = refl }

derived_give : (f : Facts) (k : ℕ) (to : Option ℕ) → IsDerivedAs f (give f k to)
unfolding known need held erred wanted ready
derived_give f k None = derived_self f
derived_give f k (Some w) = record { known = refl; need = refl; held = refl; ready = refl; has = refl; bad = refl; losses = refl; setting = refl; steal = refl }

derived_one : (f : Facts) (k : ℕ) → IsDerivedAs f (place_one f k)
unfolding place_one
derived_one f k = pick (ready f k && is_none (f.on k))
  where
    pick : (b : Bool) → IsDerivedAs f (cond b (give f k (place f k)) f)
    pick true = derived_give f k (place f k)
    pick false = derived_self f

derived_then : (f g h : Facts) → IsDerivedAs f g → IsDerivedAs g h → IsDerivedAs f h
derived_then f g h p q = record {
  known = q.known ∙ p.known;
  need = q.need ∙ p.need;
  held = q.held ∙ p.held;
  ready = q.ready ∙ p.ready;
  has = q.has ∙ p.has;
  bad = q.bad ∙ p.bad;
  losses = q.losses ∙ p.losses;
  setting = q.setting ∙ p.setting;
  steal = q.steal ∙ p.steal;
}

pub derived_keys : (f : Facts) (ks : List ℕ) → IsDerivedAs f (place_keys f ks)
derived_keys f [] = derived_self f
derived_keys f (k ∷ ks) = derived_then f (place_one f k) (place_keys (place_one f k) ks) (derived_one f k) (derived_keys (place_one f k) ks)

-- ## Only ready keys are given

ready_on_one : (f : Facts) → ((j : ℕ) → is_some (f.on j) ≡ true → ready f j ≡ true) → (k j : ℕ) → is_some ((place_one f k).on j) ≡ true → ready f j ≡ true
unfolding place_one
ready_on_one f h k j e = pick (ready f k && is_none (f.on k)) refl (place f k) e
  where
    given : ready f k ≡ true → (w : ℕ) (b : Bool) → eqb j k ≡ b → is_some (cond b (Some (w, f.counter)) (f.on j)) ≡ true → ready f j ≡ true
    given r w true s x = ap (ready f) (eqb-true j k s) ∙ r
    given r w false s x = h j x

    pick : (b : Bool) → (ready f k && is_none (f.on k)) ≡ b → (to : Option ℕ) → is_some ((cond b (give f k to) f).on j) ≡ true → ready f j ≡ true
    pick true q None x = h j x
    pick true q (Some w) x = given (and_first (ready f k) (is_none (f.on k)) q) w (eqb j k) refl x
    pick false q to x = h j x

pub ready_on_keys : (f : Facts) (ks : List ℕ) → ((j : ℕ) → is_some (f.on j) ≡ true → ready f j ≡ true) → (j : ℕ) → is_some ((place_keys f ks).on j) ≡ true → ready f j ≡ true
ready_on_keys f [] h j e = h j e
ready_on_keys f (k ∷ ks) h j e = ap (λ r. r j) (sym (ready-place_one f k))
    ∙ ready_on_keys (place_one f k) ks (λ i x. ap (λ r. r i) (ready-place_one f k) ∙ ready_on_one f h k i x) j e

-- ## A key that is left has no candidate

none_is_least : (rank : ℕ → List ℕ) (xs : List ℕ) (o : Option ℕ) → IsLeastOf rank xs o → o ≡ None → xs ≡ []
none_is_least rank xs None h e = h
none_is_least rank xs (Some x) h e = absurd (some_not_none x e)

pub no_candidates : (f : Facts) (k : ℕ) → place f k ≡ None → candidates f k ≡ []
unfolding place
no_candidates f k e = none_is_least (place_rank f k) (candidates f k) (place f k) (least_by_least (place_rank f k) (candidates f k)) e

pub nowhere : (f : Facts) (k : ℕ) → candidates f k ≡ [] → place f k ≡ None
unfolding place
nowhere f k e = rw e refl

more_is_full : (a b c : ℕ) → b ≤ c → nat_le a (10 * b) ≡ true → nat_le a (10 * c) ≡ true
more_is_full a b c l e = grind (arith, nat_tests)

none_other : (b : Bool) (p : ℕ × ℕ) (o : Option (ℕ × ℕ)) (w : ℕ) → (b ≡ true → o ≡ None) → is_for w o ≡ true → is_for w (cond b (Some p) o) ≡ true
none_other false p o w h e = e
none_other true p o w h e = absurd (false≢true (sym (ap (is_for w) (h refl)) ∙ e))

-- one more task makes no worker free
full_still : (f : Facts) (k w v : ℕ) → is_none (f.on k) ≡ true → full f v ≡ true → full (give f k (Some w)) v ≡ true
unfolding full tasks
full_still f k w v free e = more_is_full (threads_of f v * f.setting.saturation) (count (is_on f v) (below (keys f))) (count (is_on (give f k (Some w)) v) (below (keys f)))
    (count_less (is_on f v) (is_on (give f k (Some w)) v) (below (keys f)) (λ j x. none_other (eqb j k) (w, f.counter) (f.on j) v (λ s. ap f.on (eqb-true j k s) ∙ none_from_is_none (f.on k) free) x)) e

no_more_candidates : (f : Facts) (k w j : ℕ) → is_none (f.on k) ≡ true → candidates f j ≡ [] → candidates (give f k (Some w)) j ≡ []
unfolding candidates
no_more_candidates f k w j free e = pick (deps f j) e
  where
    back : (a b : Bool) → (a ≡ true → b ≡ true) → not b ≡ true → not a ≡ true
    back true b h q = absurd (false≢true (sym (ap not (h refl)) ∙ q))
    back false b h q = refl

    pick : (ds : List ℕ) → candidates_by f ds ≡ [] → candidates_by (give f k (Some w)) ds ≡ []
    pick [] q = filter_less (λ v. not (full f v)) (λ v. not (full (give f k (Some w)) v)) (workers f) (λ v x. back (full f v) (full (give f k (Some w)) v) (full_still f k w v free) x) q
    pick (d ∷ ds) q = q

pub nowhere_one : (f : Facts) (k j : ℕ) → place f j ≡ None → place (place_one f k) j ≡ None
unfolding place_one
nowhere_one f k j e = pick (ready f k && is_none (f.on k)) refl (place f k)
  where
    pick : (b : Bool) → (ready f k && is_none (f.on k)) ≡ b → (to : Option ℕ) → place (cond b (give f k to) f) j ≡ None
    pick true q None = e
    pick true q (Some w) = nowhere (give f k (Some w)) j (no_more_candidates f k w j (and_second (ready f k) (is_none (f.on k)) q) (no_candidates f j e))
    pick false q to = e

nowhere_keys : (f : Facts) (ks : List ℕ) (j : ℕ) → place f j ≡ None → place (place_keys f ks) j ≡ None
nowhere_keys f [] j e = e
nowhere_keys f (k ∷ ks) j e = nowhere_keys (place_one f k) ks j (nowhere_one f k j e)

-- what is somewhere stays there
pub left_alone : (f : Facts) (ks : List ℕ) (k : ℕ) → (place_keys f ks).on k ≡ None → f.on k ≡ None
left_alone f ks k e = pick (f.on k) refl
  where
    pick : (o : Option (ℕ × ℕ)) → f.on k ≡ o → o ≡ None
    pick None q = refl
    pick (Some p) q = absurd (some_not_none p (sym ((placing_keys f ks).stays k p q) ∙ e))

-- a ready key that is on no worker after its turn had no place in its turn
pub left_in_turn : (f : Facts) (k : ℕ) → ready f k ≡ true → f.on k ≡ None → (place_one f k).on k ≡ None → place f k ≡ None
unfolding place_one
left_in_turn f k r n e = pick (place f k) refl
  where
    there : (ready f k && is_none (f.on k)) ≡ true
    there = and_from (ready f k) (is_none (f.on k)) r (ap is_none n)

    pick : (o : Option ℕ) → place f k ≡ o → o ≡ None
    pick None q = refl
    pick (Some w) q = absurd (some_not_none (w, f.counter) (ap (λ b. cond b (Some (w, f.counter)) (f.on k)) (sym (eqb_self k)) ∙ ap (λ (g : Facts). g.on k) (sym (place_one-some f k w there q)) ∙ e))

pub left_have_no_place : (f : Facts) (ks : List ℕ) (k : ℕ) → is_in k ks ≡ true → ready f k ≡ true → (place_keys f ks).on k ≡ None → place (place_keys f ks) k ≡ None
left_have_no_place f [] k i r e = absurd (false≢true i)
left_have_no_place f (j ∷ js) k i r e = ⊎_elim
    (λ s. here (eqb-true j k s))
    (λ s. left_have_no_place (place_one f j) js k s (ap (λ x. x k) (ready-place_one f j) ∙ r) e)
    (or_cases (eqb j k) (is_in k js) i)
  where
    mine : (place_keys (place_one f k) js).on k ≡ None → place (place_keys (place_one f k) js) k ≡ None
    mine q = nowhere_keys (place_one f k) js k (nowhere_one f k k (left_in_turn f k r (left_alone f (k ∷ js) k q) (left_alone (place_one f k) js k q)))

    here : j ≡ k → place (place_keys (place_one f j) js) k ≡ None
    here s = subst (λ x. (place_keys (place_one f x) js).on k ≡ None → place (place_keys (place_one f x) js) k ≡ None) (sym s) mine e
