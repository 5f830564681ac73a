-- What settling leaves of one key.
use Rattle.std.proofs.Common.{◌≡◌, ℕ, ◌<◌, ◌≤◌, Bool, true, false, not, ◌&&◌, cond, List, [], ◌∷◌, Option, Some, None, refl, sym, ap, ◌∙◌, arith, is_some, ◌⊎◌, ⊎_elim}
use Rattle.std.specs.List.{list_any}
use Rattle.std.proofs.lemmas.Bool.{false≢true, cases_lt}
use Rattle.std.proofs.lemmas.Option.{none-some}
use Rattle.small_facts.proofs.Truth.{and_first, and_second}
use Rattle.cluster_rules.specs.Functions.{from_one, count}
use Rattle.cluster_rules.specs.Derived.{below, is_in}
use Rattle.cluster_rules.specs.Sched.{Facts, IsSound, keys, deps, holds, held, erred, wanted, need, ready, fed, open_key, holder_count}
use Rattle.cluster_rules.specs.SchedTable.{Changed}
use Rattle.cluster_rules.specs.SchedStep.{drop_bad, drop_has, drop_on, place_keys, place_all, settle}
use Rattle.cluster_rules.proofs.SchedLemmas.{need-past}
use Rattle.cluster_rules.proofs.SchedFrame.{IsPlacing, placing_keys, in_range}
use Rattle.cluster_laws.proofs.Lists.{any_weaken}
use Rattle.cluster_laws.proofs.Fewer.{IsThinned, thinned-need, thinned-err}
use Rattle.cluster_laws.proofs.Placed.{IsDerivedAs, derived_keys, ready_on_keys}
use Rattle.quiet_measure.specs.Settles.{SettlesAt}

only_kept : {A : Type 0} (b : Bool) (o : Option A) → is_some (cond b o None) ≡ true → is_some o ≡ true
only_kept true o e = e
only_kept false o e = absurd (false≢true e)

pub thinned : (f : Facts) → IsSound f → IsThinned (deps f) (keys f) (wanted f) (held f) (held (drop_has f)) f.bad
unfolding need held drop_has erred
thinned f s = record {
  low = s.shape.below;
  less = λ k e. any_weaken (λ w. is_some (cond (need f k) (f.has w k) None)) (λ w. holds f w k) (from_one f.last_worker) (λ w x. only_kept (need f k) (f.has w k) x) e;
  stays = λ k u h. any_weaken (λ w. holds f w k) (λ w. is_some (cond (need f k) (f.has w k) None)) (from_one f.last_worker) (λ w x. ap (λ b. is_some (cond b (f.has w k) None)) u ∙ x) h;
  inside = λ k u. there k u (cases_lt k (keys f));
}
  where
    there : (k : ℕ) → need f k ≡ true → (k < keys f) ⊎ (keys f ≤ k) → is_in k (below (keys f)) ≡ true
    there k u c = ⊎_elim (λ l. in_range 0 (keys f) k (omega arith) (omega (arith, l))) (λ l. absurd (false≢true (sym (need-past f s k l) ∙ u))) c

pub dropped-need : (f : Facts) → IsSound f → (k : ℕ) → need (drop_has f) k ≡ need f k
unfolding need erred drop_has wanted held
dropped-need f s k = thinned-need (deps f) (keys f) (wanted f) (held f) (held (drop_has f)) f.bad (thinned f s) k

pub dropped-err : (f : Facts) → IsSound f → (k : ℕ) → need f k ≡ true → erred (drop_has f) k ≡ erred f k
unfolding need erred drop_has wanted held
dropped-err f s k u = thinned-err (deps f) (keys f) (wanted f) (held f) (held (drop_has f)) f.bad (thinned f s) k u

ready-drop_on : (f : Facts) → ready (drop_on f) ≡ ready f
unfolding ready need held erred wanted drop_on
ready-drop_on f = refl

need-drop_on : (f : Facts) → need (drop_on f) ≡ need f
unfolding need held erred wanted drop_on
need-drop_on f = refl

erred-drop_on : (f : Facts) → erred (drop_on f) ≡ erred f
unfolding held erred drop_on
erred-drop_on f = refl

held-drop_on : (f : Facts) → held (drop_on f) ≡ held f
unfolding held drop_on
held-drop_on f = refl

held-drop_bad : (f : Facts) → held (drop_bad f) ≡ held f
unfolding held drop_bad
held-drop_bad f = refl

-- what is derived of errors depends on these facts alone
erred_as : (f g : Facts) → g.has ≡ f.has → g.bad ≡ f.bad → g.setting ≡ f.setting → g.last_worker ≡ f.last_worker → erred g ≡ erred f
unfolding erred held
erred_as f g a b c d = λ i. erred (record f { has = a i; bad = b i; setting = c i; last_worker = d i })

no_one : (xs : List ℕ) → list_any (λ i. false) xs ≡ false
no_one [] = refl
no_one (x ∷ xs) = no_one xs

held-drop_has : (f : Facts) (k : ℕ) → held (drop_has f) k ≡ (need f k && held f k)
unfolding held drop_has
held-drop_has f k = by (need f k)
  where
    by : (b : Bool) → list_any (λ i. is_some (cond b (f.has i k) None)) (from_one f.last_worker) ≡ (b && list_any (λ i. is_some (f.has i k)) (from_one f.last_worker))
    by true = refl
    by false = no_one (from_one f.last_worker)

has-drop_on : (f : Facts) → (drop_on f).has ≡ f.has
unfolding drop_on
has-drop_on f = refl

has-drops : (f : Facts) (i k : ℕ) → (drop_has (drop_bad f)).has i k ≡ cond (need (drop_bad f) k) (f.has i k) None
unfolding drop_has drop_bad
has-drops f i k = refl

on-drops : (f : Facts) (k : ℕ) → (drop_on (drop_has (drop_bad f))).on k ≡ cond (ready (drop_has (drop_bad f)) k) (f.on k) None
unfolding drop_on drop_has drop_bad
on-drops f k = refl

steal-drops : (f : Facts) (k : ℕ) → (drop_on (drop_has (drop_bad f))).steal k ≡ cond (ready (drop_has (drop_bad f)) k) (f.steal k) None
unfolding drop_on drop_has drop_bad
steal-drops f k = refl

counter-drops : (f : Facts) → (drop_on (drop_has (drop_bad f))).counter ≡ f.counter
unfolding drop_on drop_has drop_bad
counter-drops f = refl

was_ready : {A : Type 0} (b : Bool) (o : Option A) → is_some (cond b o None) ≡ true → b ≡ true
was_ready true o e = refl
was_ready false o e = absurd (false≢true e)

ready_parts : (f : Facts) (k : ℕ) → ready f k ≡ true → (need f k ≡ true) × (open_key f k ≡ true)
unfolding ready
ready_parts f k r = let p = and_first (need f k && open_key f k) (fed f k) r in (and_first (need f k) (open_key f k) p, and_second (need f k) (open_key f k) p)

setting-drops : (f : Facts) → (drop_on (drop_has (drop_bad f))).setting ≡ f.setting
unfolding drop_on drop_has drop_bad
setting-drops f = refl

last-drops : (f : Facts) → (drop_on (drop_has (drop_bad f))).last_worker ≡ f.last_worker
unfolding drop_on drop_has drop_bad
last-drops f = refl

want-drops : (f : Facts) → (drop_on (drop_has (drop_bad f))).want ≡ f.want
unfolding drop_on drop_has drop_bad
want-drops f = refl

sent-drops : (f : Facts) → (drop_on (drop_has (drop_bad f))).sent ≡ f.sent
unfolding drop_on drop_has drop_bad
sent-drops f = refl

fence-drops : (f : Facts) → (drop_on (drop_has (drop_bad f))).fence ≡ f.fence
unfolding drop_on drop_has drop_bad
fence-drops f = refl

threads-drops : (f : Facts) → (drop_on (drop_has (drop_bad f))).threads ≡ f.threads
unfolding drop_on drop_has drop_bad
threads-drops f = refl

had_there : (f : Facts) → (drop_bad f).has ≡ f.has
unfolding drop_bad
had_there f = refl

on_there : (f : Facts) → (drop_has (drop_bad f)).on ≡ f.on
unfolding drop_has drop_bad
on_there f = refl

holder_as : (f g : Facts) → g.has ≡ f.has → g.last_worker ≡ f.last_worker → (k : ℕ) → holder_count g k ≡ holder_count f k
unfolding holder_count
holder_as f g a d k = λ i. count (λ w. is_some (a i w k)) (from_one (d i))

none_count : (xs : List ℕ) → count (λ i. false) xs ≡ 0
none_count [] = refl
none_count (x ∷ xs) = let r : count (λ i. false) xs ≡ 0 = none_count xs in omega arith

count-drop_has : (f : Facts) (k : ℕ) → holder_count (drop_has (drop_bad f)) k ≡ cond (need (drop_bad f) k) (holder_count f k) 0
unfolding holder_count drop_has drop_bad
count-drop_has f k = by (need (drop_bad f) k)
  where
    by : (b : Bool) → count (λ i. is_some (cond b (f.has i k) None)) (from_one f.last_worker) ≡ cond b (count (λ i. is_some (f.has i k)) (from_one f.last_worker)) 0
    by true = refl
    by false = none_count (from_one f.last_worker)

last-drop_on : (f : Facts) → (drop_on f).last_worker ≡ f.last_worker
unfolding drop_on
last-drop_on f = refl

pub settles_at : (f : Facts) (g : Changed) → IsSound (drop_bad g.facts) → (k : ℕ) → SettlesAt (settle f g) k
unfolding settle place_all
settles_at f g sb k = record {
  has_is = λ i. ap (λ x. x i k) d.has ∙ ap (λ x. x i k) (has-drop_on n) ∙ has-drops h i k;
  need_is = needs;
  held_is = helds;
  erred_is = errs;
  kept = λ r q e. pl.stays k q (on-drops h k ∙ ap (λ x. cond x (h.on k) None) r ∙ e);
  gone = λ r. none (p.on k) refl r;
  new = λ e q x. ⊎_elim
      (λ y. absurd (none-some q (sym (on-drops h k ∙ ap (λ o. cond (ready n k) o None) e ∙ same_none (ready n k)) ∙ y)))
      (λ y. let z : o.counter ≡ h.counter = counter-drops h in omega (arith, y.0, z))
      (pl.on k q.0 q.1 x);
  steal_is = ap (λ x. x k) d.steal ∙ steal-drops h k;
  count_is = counted;
  setting_is = pl.setting ∙ setting-drops h;
  last_is = pl.last_worker ∙ last-drops h;
  want_is = pl.want ∙ want-drops h;
  sent_is = pl.sent ∙ sent-drops h;
  fence_is = pl.fence ∙ fence-drops h;
  threads_is = pl.threads ∙ threads-drops h;
  had = had_there h;
  was_on = on_there h;
  ready_is = λ r. let q = ready_parts n k r in (sym (dropped-need b sb k) ∙ q.0, ap (λ x. x k) opens ∙ q.1);
}
  where
    h : Facts
    h = g.facts

    b : Facts
    b = drop_bad h

    n : Facts
    n = drop_has b

    o : Facts
    o = drop_on n

    ks : List ℕ
    ks = below (keys o)

    p : Facts
    p = place_keys o ks

    d : IsDerivedAs o p
    d = derived_keys o ks

    pl : IsPlacing o p
    pl = placing_keys o ks

    same_none : (x : Bool) → cond {A = Option (ℕ × ℕ)} x None None ≡ None
    same_none true = refl
    same_none false = refl

    counted : holder_count p k ≡ cond (need b k) (holder_count h k) 0
    counted = holder_as n p (d.has ∙ has-drop_on n) (pl.last_worker ∙ last-drop_on n) k ∙ count-drop_has h k

    needs : need p k ≡ need b k
    needs = ap (λ x. x k) d.need ∙ ap (λ x. x k) (need-drop_on n) ∙ dropped-need b sb k

    helds : held p k ≡ (need b k && held h k)
    helds = ap (λ x. x k) d.held ∙ ap (λ x. x k) (held-drop_on n) ∙ held-drop_has b k ∙ ap (λ (x : ℕ → Bool). need b k && x k) (held-drop_bad h)

    erred_same : erred p ≡ erred n
    erred_same = erred_as o p d.has d.bad pl.setting pl.last_worker ∙ erred-drop_on n

    errs : need b k ≡ true → erred p k ≡ erred b k
    errs u = ap (λ x. x k) erred_same ∙ dropped-err b sb k u

    opens : ◌≡◌ {A = ℕ → Bool} (open_key p) (open_key n)
    opens = λ i x. not ((d.held ∙ held-drop_on n) i x) && not (erred_same i x)

    none : (y : Option (ℕ × ℕ)) → p.on k ≡ y → ready n k ≡ false → y ≡ None
    none None e r = refl
    none (Some q) e r = absurd (false≢true (sym r ∙ ap (λ x. x k) (sym (ready-drop_on n)) ∙ ready_on_keys o ks (λ j x. ap (λ y. y j) (ready-drop_on n) ∙ was_ready (ready n j) (h.on j) (sym (ap is_some (on-drops h j)) ∙ x)) k (ap is_some e)))
