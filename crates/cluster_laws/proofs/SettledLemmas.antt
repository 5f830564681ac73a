-- The facts settle after each event.
use Rattle.std.proofs.Common.{◌≡◌, ℕ, ◌+◌, subst, ◌<◌, ◌≤◌, Bool, true, false, ◌&&◌, cond, List, Option, Some, None, refl, sym, ap, ◌∙◌, arith, is_some, ◌⊎◌, ⊎_elim}
use Rattle.std.proofs.lemmas.Bool.{false≢true, cases_lt}
use Rattle.small_facts.proofs.Truth.{and_first, cond_else_false}
use Rattle.cluster_msgs.specs.declared.cores.SchedEvent.{SchedEvent}
use Rattle.cluster_rules.specs.Functions.{from_one}
use Rattle.cluster_rules.specs.Derived.{below, is_in, reach}
use Rattle.cluster_rules.specs.Sched.{Facts, Setting, IsSound, keys, deps, holds, held, erred, wanted, known, need, ready, fed, open_key, is_above, sched_opening, full, tasks}
use Rattle.cluster_rules.specs.Policies.{candidates}
use Rattle.cluster_rules.specs.SchedTable.{Changed, change, sched_takes}
use Rattle.cluster_rules.specs.SchedStep.{drop_bad, drop_has, drop_on, place_keys, place_all, settle, posted, down_messages, finish_step, sched_step}
use Rattle.cluster_rules.proofs.SchedLemmas.{need-past}
use Rattle.cluster_rules.proofs.SchedFrame.{in_range, placing_keys}
use Rattle.cluster_rules.proofs.NothingLemmas.{need-nowhere}
use Rattle.cluster_rules.proofs.SoundStep.{sound_changed, false_less, zero_less, none_less}
use Rattle.cluster_laws.specs.Settled.{IsSettled}
use Rattle.cluster_laws.proofs.Lists.{any_weaken}
use Rattle.cluster_laws.proofs.Fewer.{IsThinned, thinned-need, reach_by}
use Rattle.cluster_laws.proofs.Placed.{IsDerivedAs, no_candidates, nowhere, derived_keys, ready_on_keys, left_have_no_place}
use Rattle.cluster_laws.proofs.Errors.{AreApart, apart_changed, holder_of}
use Rattle.cluster_laws.proofs.Losses.{AreCapped, none_above, capped_changed}

-- what is needed is known
needed_is_known : (f : Facts) → IsSound f → (k : ℕ) → need f k ≡ true → known f k ≡ true
unfolding need known
needed_is_known f s k e = reach_by (deps f) (keys f) (wanted f) (open_key f) (λ _. true) s.shape.below (λ j p r u. refl) k e

-- dropping what isn't needed
only_kept : {A : Type 0} (b : Bool) (o : Option A) → is_some (cond b o None) ≡ true → is_some o ≡ true
only_kept true o e = e
only_kept false o e = absurd (false≢true e)

kept_is_needed : {A : Type 0} (b : Bool) (o : Option A) → is_some (cond b o None) ≡ true → b ≡ true
kept_is_needed true o e = refl
kept_is_needed false o e = absurd (false≢true e)

thinned : (f : Facts) → IsSound f → IsThinned (deps f) (keys f) (wanted f) (held f) (held (drop_has f)) f.bad
unfolding need held drop_has erred
thinned f s = record {
  low = s.shape.below;
  less = λ k e. any_weaken (λ w. is_some (cond (need f k) (f.has w k) None)) (λ w. holds f w k) (from_one f.last_worker) (λ w x. only_kept (need f k) (f.has w k) x) e;
  stays = λ k u h. any_weaken (λ w. holds f w k) (λ w. is_some (cond (need f k) (f.has w k) None)) (from_one f.last_worker) (λ w x. ap (λ b. is_some (cond b (f.has w k) None)) u ∙ x) h;
  inside = λ k u. there k u (cases_lt k (keys f));
}
  where
    there : (k : ℕ) → need f k ≡ true → (k < keys f) ⊎ (keys f ≤ k) → is_in k (below (keys f)) ≡ true
    there k u c = ⊎_elim (λ l. in_range 0 (keys f) k (omega arith) (omega (arith, l))) (λ l. absurd (false≢true (sym (need-past f s k l) ∙ u))) c

dropped-need : (f : Facts) → IsSound f → (k : ℕ) → need (drop_has f) k ≡ need f k
unfolding need erred drop_has wanted held
dropped-need f s k = thinned-need (deps f) (keys f) (wanted f) (held f) (held (drop_has f)) f.bad (thinned f s) k

-- ## The stages of settling

-- what a step keeps by name
bad_is_known : (b : Bool) (x : Bool) → cond b x false ≡ true → b ≡ true
bad_is_known true x e = refl
bad_is_known false x e = absurd (false≢true e)

ready_is_given : (f : Facts) (k : ℕ) → is_some ((drop_on f).on k) ≡ true → ready f k ≡ true
unfolding drop_on
ready_is_given f k e = kept_is_needed (ready f k) (f.on k) e

-- giving up places changes nothing that is derived
ready-drop_on : (f : Facts) → ready (drop_on f) ≡ ready f
unfolding ready need held erred wanted drop_on
ready-drop_on f = refl

need-drop_on : (f : Facts) → need (drop_on f) ≡ need f
unfolding need held erred wanted drop_on
need-drop_on f = refl

known-drop_on : (f : Facts) → known (drop_on f) ≡ known f
unfolding known wanted drop_on
known-drop_on f = refl

known-drop_has : (f : Facts) → known (drop_has f) ≡ known f
unfolding known wanted drop_has
known-drop_has f = refl

known-drop_bad : (f : Facts) → known (drop_bad f) ≡ known f
unfolding known wanted drop_bad
known-drop_bad f = refl

held-drop_on : (f : Facts) → held (drop_on f) ≡ held f
unfolding held drop_on
held-drop_on f = refl

sound_drop_bad : (f : Facts) → IsSound f → IsSound (drop_bad f)
unfolding drop_bad
sound_drop_bad f s = record {
  shape = s.shape;
  few_clients = s.few_clients;
  saturation = s.saturation;
  want = s.want;
  has = s.has;
  bad = λ k l. false_less (known f k) (f.bad k) (s.bad k l);
  losses = λ k l. zero_less (known f k) (f.losses k) (s.losses k l);
  on = s.on;
  steal = s.steal;
  numbers = s.numbers;
  threads = s.threads;
  few_workers = s.few_workers;
  few_numbers = s.few_numbers;
  holders = s.holders;
  places = s.places;
}

-- a steal that is kept is of a key that is kept
steal_is_given : (f : Facts) → IsSound f → (k : ℕ) → is_some ((drop_on f).steal k) ≡ true → (q : ℕ × ℕ) × ((drop_on f).on k ≡ Some q)
unfolding drop_on
steal_is_given f s k e = pick (ready f k) (f.steal k) (f.on k) (s.steal k) e
  where
    pick : (b : Bool) (m : Option (ℕ × Bool)) (o : Option (ℕ × ℕ)) → (o ≡ None → m ≡ None) → is_some (cond b m None) ≡ true → (q : ℕ × ℕ) × (cond b o None ≡ Some q)
    pick true m None h x = absurd (false≢true (sym (ap is_some (h refl)) ∙ x))
    pick true m (Some q) h x = (q, refl)
    pick false m o h x = absurd (false≢true x)

ready_is_needed : (f : Facts) (k : ℕ) → ready f k ≡ true → need f k ≡ true
unfolding ready
ready_is_needed f k e = and_first (need f k) (open_key f k) (and_first (need f k && open_key f k) (fed f k) e)

has_is_needed : (b : Facts) (w k : ℕ) → is_some ((drop_on (drop_has b)).has w k) ≡ true → need b k ≡ true
unfolding drop_on drop_has
has_is_needed b w k e = kept_is_needed (need b k) (b.has w k) e

held_before : (g : Facts) (w k : ℕ) → holds (drop_has (drop_bad g)) w k ≡ true → holds g w k ≡ true
unfolding drop_has drop_bad
held_before g w k e = only_kept (need (drop_bad g) k) (g.has w k) e

error_is_known : (g : Facts) (k : ℕ) → (drop_on (drop_has (drop_bad g))).bad k ≡ true → known g k ≡ true
unfolding drop_on drop_has drop_bad
error_is_known g k e = bad_is_known (known g k) (g.bad k) e

error_stood : (g : Facts) (k : ℕ) → (drop_on (drop_has (drop_bad g))).bad k ≡ true → g.bad k ≡ true
unfolding drop_on drop_has drop_bad
error_stood g k e = cond_else_false (known g k) (g.bad k) e

losses_are_less : (b : Bool) (n m : ℕ) → n ≤ m → cond b n 0 ≤ m
losses_are_less true n m l = l
losses_are_less false n m l = omega arith

uncounted : (g : Facts) (k : ℕ) → known g k ≡ false → (drop_on (drop_has (drop_bad g))).losses k ≡ 0
unfolding drop_on drop_has drop_bad
uncounted g k e = ap (λ b. cond b (g.losses k) 0) e

killed_stays : (g : Facts) → AreCapped g → (k : ℕ) → is_above g.setting.allowed ((drop_on (drop_has (drop_bad g))).losses k) ≡ true → (drop_on (drop_has (drop_bad g))).bad k ≡ true
unfolding drop_on drop_has drop_bad
killed_stays g c k e = pick (known g k) e
  where
    pick : (b : Bool) → is_above g.setting.allowed (cond b (g.losses k) 0) ≡ true → cond b (g.bad k) false ≡ true
    pick true e = c.killed k e
    pick false e = absurd (none_above g.setting.allowed e)

no_more : (g : Facts) → AreCapped g → (k a : ℕ) → g.setting.allowed ≡ Some a → (drop_on (drop_has (drop_bad g))).losses k ≤ a + 1
unfolding drop_on drop_has drop_bad
no_more g c k a e = losses_are_less (known g k) (g.losses k) (a + 1) (c.stop k a e)

-- what the facts settle to, from facts in which no held key has an error of its own
settled_placed : (g : Facts) → IsSound g → AreApart g → AreCapped g → IsSound (drop_has (drop_bad g)) → IsSettled (place_all (drop_on (drop_has (drop_bad g))))
unfolding place_all reach need erred drop_on drop_bad drop_has
settled_placed g s apart cap sh = record {
  held_are_needed = λ w k e. needs k (kept_here w k (ap (λ has. is_some (has w k)) (sym d.has) ∙ e));
  needed_are_known = λ k e. knows k (needed_is_known b sb k (needed k e));
  placed_are_ready = λ k e. ap (λ r. r k) d.ready ∙ ready_on_keys o ks (λ j x. ap (λ r. r j) (ready-drop_on h) ∙ ready_is_given h j x) k e;
  stolen_are_placed = λ k e. given k (steal_is_given h sh k (ap (λ m. is_some (m k)) (sym d.steal) ∙ e));
  errors_are_known = λ k e. knows k (ap (λ r. r k) (known-drop_bad g) ∙ error_known k (ap (λ m. m k) (sym d.bad) ∙ e));
  errors_are_not_held = λ k e. none_held k (error_was k (ap (λ m. m k) (sym d.bad) ∙ e)) (held p k) refl;
  losses_are_known = λ k e. ap (λ n. n k) d.losses ∙ uncounted g k (not_known k e);
  killed_are_errors = λ k e. ap (λ m. m k) d.bad ∙ killed_stays g cap k (ap (λ (c : Setting). is_above c.allowed (o.losses k)) (sym d.setting) ∙ ap (λ (n : ℕ → ℕ). is_above p.setting.allowed (n k)) (sym d.losses) ∙ e);
  losses_stop = λ k a e. subst (λ (n : ℕ → ℕ). n k ≤ a + 1) (sym d.losses) (no_more g cap k a (ap (λ (c : Setting). c.allowed) (sym d.setting) ∙ e));
  waiting_have_no_place = λ k r n. left_have_no_place o ks k ((thinned b sb).inside k (wanted_here k (ap (λ q. q k) (sym d.ready) ∙ r))) (ap (λ q. q k) (sym d.ready) ∙ r) n;
}
  where
    b : Facts
    b = drop_bad g

    sb : IsSound b
    sb = sound_drop_bad g s

    h : Facts
    h = drop_has b

    o : Facts
    o = drop_on h

    ks : List ℕ
    ks = below (keys o)

    p : Facts
    p = place_keys o ks

    d : IsDerivedAs o p
    d = derived_keys o ks

    needs : (k : ℕ) → need b k ≡ true → need p k ≡ true
    needs k e = ap (λ n. n k) d.need ∙ ap (λ n. n k) (need-drop_on h) ∙ dropped-need b sb k ∙ e

    needed : (k : ℕ) → need p k ≡ true → need b k ≡ true
    needed k e = sym (dropped-need b sb k) ∙ ap (λ n. n k) (sym (need-drop_on h)) ∙ ap (λ n. n k) (sym d.need) ∙ e

    knows : (k : ℕ) → known b k ≡ true → known p k ≡ true
    knows k e = ap (λ n. n k) d.known ∙ ap (λ n. n k) (known-drop_on h) ∙ ap (λ n. n k) (known-drop_has b) ∙ e

    not_known : (k : ℕ) → known p k ≡ false → known g k ≡ false
    not_known k e = pick (known b k) refl
      where
        pick : (x : Bool) → known b k ≡ x → known g k ≡ false
        pick true y = absurd (false≢true (sym e ∙ knows k y))
        pick false y = ap (λ n. n k) (sym (known-drop_bad g)) ∙ y

    kept_here : (w k : ℕ) → is_some (o.has w k) ≡ true → need b k ≡ true
    kept_here w k e = has_is_needed b w k e

    given : (k : ℕ) → (q : ℕ × ℕ) × (o.on k ≡ Some q) → is_some (p.on k) ≡ true
    given k (q, e) = ap is_some ((placing_keys o ks).stays k q e)

    error_known : (k : ℕ) → o.bad k ≡ true → known g k ≡ true
    error_known k e = error_is_known g k e

    error_was : (k : ℕ) → o.bad k ≡ true → g.bad k ≡ true
    error_was k e = error_stood g k e

    none_held : (k : ℕ) → g.bad k ≡ true → (c : Bool) → held p k ≡ c → c ≡ false
    none_held k x false e = refl
    none_held k x true e = absurd (other (holder_of h k (ap (λ n. n k) (sym (held-drop_on h)) ∙ ap (λ n. n k) (sym d.held) ∙ e)))
      where
        other : (w : ℕ) × (holds h w k ≡ true) → ⊥
        other (w, y) = apart w k x (held_before g w k y)

    wanted_here : (k : ℕ) → ready o k ≡ true → need b k ≡ true
    wanted_here k r = sym (dropped-need b sb k) ∙ ap (λ n. n k) (sym (need-drop_on h)) ∙ ready_is_needed o k r

candidates-posted : (f : Facts) (g : Changed) (k : ℕ) → candidates (posted (settle f g) (down_messages (settle f g))) k ≡ candidates (settle f g).placed k
unfolding posted candidates full tasks
candidates-posted f g k = refl

-- counting messages changes nothing of this
settled_posted : (f : Facts) (g : Changed) → IsSettled (settle f g).placed → IsSettled (posted (settle f g) (down_messages (settle f g)))
unfolding posted known need ready held erred wanted
settled_posted f g q = record {
  held_are_needed = q.held_are_needed;
  needed_are_known = q.needed_are_known;
  placed_are_ready = q.placed_are_ready;
  stolen_are_placed = q.stolen_are_placed;
  errors_are_known = q.errors_are_known;
  errors_are_not_held = q.errors_are_not_held;
  losses_are_known = q.losses_are_known;
  killed_are_errors = q.killed_are_errors;
  losses_stop = q.losses_stop;
  waiting_have_no_place = λ k r n. nowhere (posted (settle f g) (down_messages (settle f g))) k (candidates-posted f g k ∙ no_candidates (settle f g).placed k (q.waiting_have_no_place k r n));
}

sound_drop_has : (f : Facts) → IsSound f → IsSound (drop_has f)
unfolding drop_has
sound_drop_has f s = record {
  shape = s.shape;
  few_clients = s.few_clients;
  saturation = s.saturation;
  want = s.want;
  has = λ w k l. none_less (need f k) (f.has w k) (s.has w k l);
  bad = s.bad;
  losses = s.losses;
  on = s.on;
  steal = s.steal;
  numbers = s.numbers;
  threads = s.threads;
  few_workers = s.few_workers;
  few_numbers = s.few_numbers;
  holders = λ w k e. s.holders w k (only_kept (need f k) (f.has w k) e);
  places = s.places;
}

pub settled_step : (f : Facts) → IsSound f → IsSettled f → (e : SchedEvent) → sched_takes f e ≡ true → IsSettled (sched_step f e).facts
unfolding sched_step finish_step settle
settled_step f s t e h =
    let sg = sound_changed f s e h in
    settled_posted f (change f e) (settled_placed (change f e).facts sg (apart_changed f s t e) (capped_changed f s t e) (sound_drop_has (drop_bad (change f e).facts) (sound_drop_bad (change f e).facts sg)))

pub settled_opening : (c : Setting) → IsSettled (sched_opening c)
settled_opening c = record {
  held_are_needed = λ w k e. absurd (false≢true e);
  needed_are_known = λ k e. absurd (false≢true (sym (need-nowhere (sched_opening c) (λ d j. refl) k) ∙ e));
  placed_are_ready = λ k e. absurd (false≢true e);
  stolen_are_placed = λ k e. absurd (false≢true e);
  errors_are_known = λ k e. absurd (false≢true e);
  errors_are_not_held = λ k e. absurd (false≢true e);
  losses_are_known = λ k e. refl;
  killed_are_errors = λ k e. absurd (none_above c.allowed e);
  losses_stop = λ k a e. omega arith;
  waiting_have_no_place = λ k r n. absurd (false≢true (sym (need-nowhere (sched_opening c) (λ d j. refl) k) ∙ ready_is_needed (sched_opening c) k r));
}
