-- What is derived where an event takes nothing away: no more keys are needed, and each place stays.
use Rattle.std.proofs.Common.{◌≡◌, ℕ, zero, suc, ◌+◌, ◌<◌, ◌≤◌, Bool, true, false, not, ◌&&◌, ◌||◌, cond, List, [], ◌∷◌, None, refl, sym, ap, ◌∙◌, arith, is_some, ◌⊎◌, ⊎_elim}
use Rattle.std.specs.List.{list_any, list_all}
use Rattle.std.proofs.Math.Dec.{eqb}
use Rattle.std.proofs.lemmas.Bool.{true≢false, false≢true, cases_lt, and_from, or_cases, or_left, or_right, not-true, not_from_false, eqb-true, eq-eqb}
use Rattle.small_facts.proofs.Truth.{and_first, and_second}
use Rattle.cluster_msgs.specs.Shape.{deps_of, key_count}
use Rattle.cluster_rules.specs.Functions.{from_one}
use Rattle.cluster_rules.specs.Derived.{below, is_in, reach}
use Rattle.cluster_rules.specs.Sched.{Setting, Facts, IsSound, keys, deps, held, erred, wanted, known, need, ready, fed, open_key}
use Rattle.cluster_rules.specs.SchedTable.{Changed}
use Rattle.cluster_rules.specs.SchedStep.{drop_bad, drop_has}
use Rattle.cluster_rules.proofs.SchedLemmas.{need-past, erred-is}
use Rattle.cluster_rules.proofs.SchedFrame.{in_range}
use Rattle.cluster_rules.proofs.SoundStep.{false_less, zero_less}
use Rattle.cluster_laws.specs.Settled.{IsSettled}
use Rattle.cluster_laws.proofs.Lists.{any_weaken_at}
use Rattle.cluster_laws.proofs.Fewer.{reach_by, reach_next}
use Rattle.cluster_laws.proofs.Errors.{ready_is_not_held, ready_is_not_bad}
use Rattle.quiet_measure.specs.Changes.{AreDrawn, IsCalmChange}
use Rattle.quiet_measure.proofs.Settle.{dropped-need, dropped-err}

pub sound_drop_bad : (f : Facts) → IsSound f → IsSound (drop_bad f)
unfolding drop_bad
sound_drop_bad f s = record {
  shape = s.shape;
  few_clients = s.few_clients;
  saturation = s.saturation;
  want = s.want;
  has = s.has;
  bad = λ k l. false_less (known f k) (f.bad k) (s.bad k l);
  losses = λ k l. zero_less (known f k) (f.losses k) (s.losses k l);
  on = s.on;
  steal = s.steal;
  numbers = s.numbers;
  threads = s.threads;
  few_workers = s.few_workers;
  few_numbers = s.few_numbers;
  holders = s.holders;
  places = s.places;
}

all_from : (p : ℕ → Bool) (xs : List ℕ) → ((x : ℕ) → is_in x xs ≡ true → p x ≡ true) → list_all p xs ≡ true
all_from p [] h = refl
all_from p (x ∷ xs) h = and_from (p x) (list_all p xs) (h x (or_left (eqb x x) (is_in x xs) (eq-eqb x x refl))) (all_from p xs (λ y i. h y (or_right (eqb x y) (is_in y xs) i)))

all_in : (p : ℕ → Bool) (xs : List ℕ) (x : ℕ) → list_all p xs ≡ true → is_in x xs ≡ true → p x ≡ true
all_in p [] x e i = absurd (false≢true i)
all_in p (y ∷ xs) x e i = ⊎_elim
    (λ s. ap p (sym (eqb-true y x s)) ∙ and_first (p y) (list_all p xs) e)
    (λ s. all_in p xs x (and_second (p y) (list_all p xs) e) s)
    (or_cases (eqb y x) (is_in x xs) i)

pub ready_needs : (f : Facts) (k : ℕ) → ready f k ≡ true → need f k ≡ true
unfolding ready
ready_needs f k r = and_first (need f k) (open_key f k) (and_first (need f k && open_key f k) (fed f k) r)

pub ready_open : (f : Facts) (k : ℕ) → ready f k ≡ true → open_key f k ≡ true
unfolding ready
ready_open f k r = and_second (need f k) (open_key f k) (and_first (need f k && open_key f k) (fed f k) r)

ready_fed : (f : Facts) (k : ℕ) → ready f k ≡ true → fed f k ≡ true
unfolding ready
ready_fed f k r = and_second (need f k && open_key f k) (fed f k) r

ready_from : (f : Facts) (k : ℕ) → need f k ≡ true → open_key f k ≡ true → fed f k ≡ true → ready f k ≡ true
unfolding ready
ready_from f k n o e = and_from (need f k && open_key f k) (fed f k) (and_from (need f k) (open_key f k) n o) e

pub known_as : (f g : Facts) → g.want ≡ f.want → g.setting ≡ f.setting → known g ≡ known f
unfolding known wanted
known_as f g a b = λ i. known (record f { want = a i; setting = b i })

known-drop_bad : (f : Facts) → known (drop_bad f) ≡ known f
unfolding known wanted drop_bad
known-drop_bad f = refl

pub bad-drop_bad : (f : Facts) (k : ℕ) → (drop_bad f).bad k ≡ cond (known f k) (f.bad k) false
unfolding drop_bad
bad-drop_bad f k = refl

pub held-drop_bad : (f : Facts) → held (drop_bad f) ≡ held f
unfolding held drop_bad
held-drop_bad f = refl

held-drop_has : (f : Facts) (k : ℕ) → held (drop_has f) k ≡ true → (need f k ≡ true) × (held f k ≡ true)
unfolding held drop_has
held-drop_has f k = by (need f k)
  where
    no_one : (xs : List ℕ) → list_any (λ i. false) xs ≡ false
    no_one [] = refl
    no_one (x ∷ xs) = no_one xs

    by : (b : Bool) → list_any (λ i. is_some (cond b (f.has i k) None)) (from_one f.last_worker) ≡ true → (b ≡ true) × (list_any (λ i. is_some (f.has i k)) (from_one f.last_worker) ≡ true)
    by true e = (refl, e)
    by false e = absurd (false≢true (sym (no_one (from_one f.last_worker)) ∙ e))

held-stays : (f : Facts) (k : ℕ) → need f k ≡ true → held f k ≡ true → held (drop_has f) k ≡ true
unfolding held drop_has
held-stays f k n e = ap (λ b. list_any (λ i. is_some (cond b (f.has i k) None)) (from_one f.last_worker)) n ∙ e

setting-drop_bad : (f : Facts) → (drop_bad f).setting ≡ f.setting
unfolding drop_bad
setting-drop_bad f = refl

want-drop_bad : (f : Facts) → (drop_bad f).want ≡ f.want
unfolding drop_bad
want-drop_bad f = refl

setting-drop_has : (f : Facts) → (drop_has f).setting ≡ f.setting
unfolding drop_has
setting-drop_has f = refl

-- needed through what is open, in a graph and from wants that are another's
need_as : (f g : Facts) → g.want ≡ f.want → g.setting ≡ f.setting → need g ≡ reach (deps f) (keys f) (wanted f) (open_key g)
unfolding need wanted
need_as f g a b = λ i. reach (deps_of (b i).shape) (key_count (b i).shape) (λ k. list_any (λ c. a i c k) (from_one (b i).clients)) (open_key g)

need_is_reach : (f : Facts) → need f ≡ reach (deps f) (keys f) (wanted f) (open_key f)
unfolding need
need_is_reach f = refl

-- a needed key is a key
need_there : (f : Facts) → IsSound f → (k : ℕ) → need f k ≡ true → is_in k (below (keys f)) ≡ true
need_there f s k u = by (cases_lt k (keys f))
  where
    by : (k < keys f) ⊎ (keys f ≤ k) → is_in k (below (keys f)) ≡ true
    by c = ⊎_elim (λ l. in_range 0 (keys f) k (omega arith) (omega (arith, l))) (λ l. absurd (false≢true (sym (need-past f s k l) ∙ u))) c

-- what a needed and open key depends on is needed
need_next : (f : Facts) → IsSound f → (k d : ℕ) → need f k ≡ true → open_key f k ≡ true → is_in d (deps f k) ≡ true → need f d ≡ true
need_next f s k d n o i = ap (λ r. r d) (need_is_reach f) ∙ reach_next (deps f) (keys f) (wanted f) (open_key f) s.shape.below k d (need_there f s k n) (ap (λ r. r k) (sym (need_is_reach f)) ∙ n) o i

module _ (f : Facts) (g : Changed) (own : ℕ → Bool) (sound : IsSound f) (settled : IsSettled f) (drawn : AreDrawn f) (sh : IsSound g.facts) (calm : IsCalmChange f g.facts own) where
  abbrev h : Facts
  h = g.facts

  abbrev b : Facts
  b = drop_bad g.facts

  sb : IsSound b
  sb = sound_drop_bad h sh

  deps_same : (k : ℕ) → deps b k ≡ deps f k
  deps_same k = ap (λ (s : Setting). deps_of s.shape k) (setting-drop_bad h ∙ calm.setting)

  own_ready : (k : ℕ) → own k ≡ true → ready f k ≡ true
  own_ready k e = settled.placed_are_ready k (calm.had_place k e)

  bad_kept : (k : ℕ) → f.bad k ≡ true → b.bad k ≡ true
  bad_kept k e = bad-drop_bad h k ∙ ap (λ x. cond x (h.bad k) false) (ap (λ r. r k) (known_as f h calm.want calm.setting) ∙ settled.errors_are_known k e) ∙ calm.bad k e

  bad_back : (k : ℕ) → own k ≡ false → b.bad k ≡ true → f.bad k ≡ true
  bad_back k o e = calm.bad_new k (second (known h k) (h.bad k) (sym (bad-drop_bad h k) ∙ e)) o
    where
      second : (x y : Bool) → cond x y false ≡ true → y ≡ true
      second true y e = e
      second false y e = absurd (false≢true e)

  -- an erred key is held by nobody afterwards
  erred_unheld : (k : ℕ) → erred f k ≡ true → held h k ≡ false
  erred_unheld k e = pick (held h k) refl (own k) refl
    where
      step : (not (held f k) && (f.bad k || list_any (erred f) (deps f k))) ≡ true
      step = sym (erred-is f sound k) ∙ e

      pick : (x : Bool) → held h k ≡ x → (o : Bool) → own k ≡ o → x ≡ false
      pick false q o p = refl
      pick true q true p = absurd (false≢true (sym (not-true (erred f k) (and_second (not (held f k)) (not (erred f k)) (ready_open f k (own_ready k p)))) ∙ e))
      pick true q false p = absurd (false≢true (sym (not-true (held f k) (and_first (not (held f k)) _ step)) ∙ calm.held_new k q p))

  pub err_kept : (n k : ℕ) → k < n → erred f k ≡ true → erred b k ≡ true
  err_kept zero k l e = absurd (omega (arith, l))
  err_kept (suc n) k l e = erred-is b sb k ∙ and_from (not (held b k)) (b.bad k || list_any (erred b) (deps b k))
      (not_from_false (held b k) (ap (λ r. r k) (held-drop_bad h) ∙ erred_unheld k e))
      (⊎_elim
      (λ q. or_left (b.bad k) (list_any (erred b) (deps b k)) (bad_kept k q))
      (λ q. or_right (b.bad k) (list_any (erred b) (deps b k)) (ap (list_any (erred b)) (deps_same k) ∙ any_weaken_at (λ d. Unit {0}) (erred f) (erred b) (deps f k) k (sound.shape.below k) (λ d i. tt) (λ d m c x. err_kept n d (omega (arith, l, m)) x) q))
      (or_cases (f.bad k) (list_any (erred f) (deps f k)) (and_second (not (held f k)) _ (sym (erred-is f sound k) ∙ e))))

  pub open_kept : (k : ℕ) → open_key b k ≡ true → open_key f k ≡ true
  open_kept k o = and_from (not (held f k)) (not (erred f k))
      (flip (held f k) (held b k) (λ e. ap (λ r. r k) (held-drop_bad h) ∙ calm.held_still k e) (and_first (not (held b k)) (not (erred b k)) o))
      (flip (erred f k) (erred b k) (λ e. err_kept (k + 1) k (omega arith) e) (and_second (not (held b k)) (not (erred b k)) o))
    where
      flip : (x y : Bool) → (x ≡ true → y ≡ true) → not y ≡ true → not x ≡ true
      flip true y p q = absurd (false≢true (sym (ap not (p refl)) ∙ q))
      flip false y p q = refl

  pub need_kept : (k : ℕ) → need b k ≡ true → need f k ≡ true
  need_kept k e = ap (λ r. r k) (need_is_reach f) ∙ reach_by (deps f) (keys f) (wanted f) (open_key b) (open_key f) sound.shape.below (λ j p r u. open_kept j p) k
      (ap (λ r. r k) (sym (need_as f b (want-drop_bad h ∙ calm.want) (setting-drop_bad h ∙ calm.setting))) ∙ e)

  -- a key with a place that is needed still stays ready
  pub ready_kept : (k : ℕ) → is_some (f.on k) ≡ true → own k ≡ false → need b k ≡ true → ready (drop_has b) k ≡ true
  ready_kept k p o n = ready_from (drop_has b) k (dropped-need b sb k ∙ n) opens feeds
    where
      was : ready f k ≡ true
      was = settled.placed_are_ready k p

      unheld : held b k ≡ false
      unheld = pick (held h k) refl
        where
          pick : (x : Bool) → held h k ≡ x → held b k ≡ false
          pick false q = ap (λ r. r k) (held-drop_bad h) ∙ q
          pick true q = absurd (true≢false (sym (calm.held_new k q o) ∙ ready_is_not_held f k was))

      dep_held : (d : ℕ) → is_in d (deps f k) ≡ true → held b d ≡ true
      dep_held d i = ap (λ r. r d) (held-drop_bad h) ∙ calm.held_still d (all_in (held f) (deps f k) d (ready_fed f k was) i)

      not_erred : erred b k ≡ false
      not_erred = pick (erred b k) refl
        where
          held_not : (d : ℕ) → held b d ≡ true → erred b d ≡ true → ⊥
          held_not d q e = false≢true (sym (ap (λ x. not x && (b.bad d || list_any (erred b) (deps b d))) q) ∙ sym (erred-is b sb d) ∙ e)

          pick : (x : Bool) → erred b k ≡ x → x ≡ false
          pick false e = refl
          pick true e = absurd (⊎_elim
              (λ q. ready_is_not_bad f sound k was (bad_back k o q))
              (λ q. none_erred (deps f k) (λ d i. held_not d (dep_held d i)) (ap (list_any (erred b)) (sym (deps_same k)) ∙ q))
              (or_cases (b.bad k) (list_any (erred b) (deps b k)) (and_second (not (held b k)) _ (sym (erred-is b sb k) ∙ e))))
            where
              none_erred : (xs : List ℕ) → ((d : ℕ) → is_in d xs ≡ true → erred b d ≡ true → ⊥) → list_any (erred b) xs ≡ true → ⊥
              none_erred [] m q = false≢true q
              none_erred (x ∷ xs) m q = ⊎_elim (λ y. m x (or_left (eqb x x) (is_in x xs) (eq-eqb x x refl)) y) (λ y. none_erred xs (λ d i. m d (or_right (eqb x d) (is_in d xs) i)) y) (or_cases (erred b x) (list_any (erred b) xs) q)

      open_b : open_key b k ≡ true
      open_b = and_from (not (held b k)) (not (erred b k)) (not_from_false (held b k) unheld) (not_from_false (erred b k) not_erred)

      opens : open_key (drop_has b) k ≡ true
      opens = and_from (not (held (drop_has b) k)) (not (erred (drop_has b) k)) (not_from_false (held (drop_has b) k) (gone (held (drop_has b) k) refl)) (ap not (dropped-err b sb k n) ∙ not_from_false (erred b k) not_erred)
        where
          gone : (x : Bool) → held (drop_has b) k ≡ x → x ≡ false
          gone false e = refl
          gone true e = absurd (true≢false (sym (held-drop_has b k e).1 ∙ unheld))

      feeds : fed (drop_has b) k ≡ true
      feeds = all_from (held (drop_has b)) (deps (drop_has b) k) (λ d i. let j : is_in d (deps f k) ≡ true = ap (is_in d) (sym (ap (λ (s : Setting). deps_of s.shape k) (setting-drop_has b ∙ setting-drop_bad h ∙ calm.setting))) ∙ i in
          held-stays b d (need_next b sb k d n open_b (ap (is_in d) (deps_same k) ∙ j)) (dep_held d j))
