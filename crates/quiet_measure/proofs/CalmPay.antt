-- An event that takes nothing away is paid for, key by key.
use Rattle.std.proofs.Common.{◌≡◌, ℕ, ◌+◌, ◌*◌, ◌<◌, ◌≤◌, Bool, true, false, not, ◌&&◌, ◌||◌, cond, List, length, Option, Some, None, refl, sym, ap, ◌∙◌, arith, is_some, is_none, ◌⊎◌, ⊎_elim, max}
use Rattle.std.specs.Prelude.{nat_le}
use Rattle.std.proofs.lemmas.Bool.{true≢false, false≢true, and_from, leb-true, or_left, or_right, or_cases, eqb-true, eq-eqb}
use Rattle.small_facts.proofs.Truth.{and_first, and_second}
use Rattle.cluster_msgs.specs.Shape.{deps_of, key_count}
use Rattle.cluster_rules.specs.Functions.{from_one, total}
use Rattle.cluster_rules.specs.Derived.{below}
use Rattle.cluster_rules.specs.Sched.{Setting, Facts, IsSound, keys, held, erred, need, ready, open_key, holder_count}
use Rattle.cluster_rules.specs.SchedTable.{Changed, is_asked_back, is_copy}
use Rattle.cluster_rules.specs.SchedStep.{Stages, drop_bad, settle}
use Rattle.cluster_laws.specs.Settled.{IsSettled}
use Rattle.cluster_laws.proofs.Errors.{holder_holds}
use Rattle.quiet_measure.specs.Weights.{bit, question, is_current}
use Rattle.quiet_measure.specs.Measure.{is_to_try, deaths, most_listed, most_told, most_asked, pair_weight, end_weight, try_weight, disturbance_weight, key_weight, told_weight, sched_weight}
use Rattle.quiet_measure.proofs.Sums.{total_at_most}
use Rattle.quiet_measure.specs.Lighter.{IsLighter}
use Rattle.quiet_measure.specs.Settles.{SettlesAt}
use Rattle.quiet_measure.specs.Changes.{AreDrawn, IsCalmChange}
use Rattle.quiet_measure.proofs.Settle.{settles_at}
use Rattle.quiet_measure.proofs.Posts.{total_plus, total_swap, freed_cost, new_cost, told_cost}
use Rattle.quiet_measure.proofs.Pay.{bit_most, is_new, IsBacked, settle_deaths, settle_pays, freed_most, unneeded_deaths}
use Rattle.quiet_measure.proofs.CalmChanges.{sound_drop_bad, held-drop_bad, open_kept, need_kept, ready_kept}

-- ## To try

pub to_try_parts : (f : Facts) (k : ℕ) → is_to_try f k ≡ true → (need f k ≡ true) × (open_key f k ≡ true) × ((is_none (f.on k) || is_asked_back (f.steal k)) ≡ true)
unfolding is_to_try
to_try_parts f k e = let p = and_first (need f k && open_key f k) (is_none (f.on k) || is_asked_back (f.steal k)) e in
    (and_first (need f k) (open_key f k) p, and_second (need f k) (open_key f k) p, and_second (need f k && open_key f k) (is_none (f.on k) || is_asked_back (f.steal k)) e)

pub to_try_from : (f : Facts) (k : ℕ) → need f k ≡ true → open_key f k ≡ true → (is_none (f.on k) || is_asked_back (f.steal k)) ≡ true → is_to_try f k ≡ true
unfolding is_to_try
to_try_from f k n o m = and_from (need f k && open_key f k) (is_none (f.on k) || is_asked_back (f.steal k)) (and_from (need f k) (open_key f k) n o) m

-- ## What is backed, whatever the event

module _ (t : Stages) (k : ℕ) (s : SettlesAt t k) (counted : t.before.counter ≤ t.changed.facts.counter) where
  pub placed_ready : is_some (t.placed.on k) ≡ true → ready t.needed_only k ≡ true
  placed_ready e = pick (ready t.needed_only k) refl
    where
      pick : (r : Bool) → ready t.needed_only k ≡ r → r ≡ true
      pick true q = refl
      pick false q = absurd (false≢true (sym (ap is_some (s.gone q)) ∙ e))

  new_some : (o : Option (ℕ × ℕ)) → is_new t o ≡ true → is_some o ≡ true
  new_some None e = absurd (false≢true e)
  new_some (Some q) e = refl

  pub olds_there : is_some (t.placed.on k) ≡ true → is_new t (t.placed.on k) ≡ false → is_some (t.changed.facts.on k) ≡ true
  olds_there e n = by (t.changed.facts.on k) refl (t.placed.on k) refl e n
    where
      over : (q : ℕ × ℕ) → t.before.counter ≤ q.1 → nat_le t.before.counter q.1 ≡ true
      over q l = le_true t.before.counter q.1 l
        where
          le_true : (n m : ℕ) → n ≤ m → nat_le n m ≡ true
          le_true n m l = grind (arith, l)

      by : (o : Option (ℕ × ℕ)) → t.changed.facts.on k ≡ o → (p : Option (ℕ × ℕ)) → t.placed.on k ≡ p → is_some p ≡ true → is_new t p ≡ false → is_some o ≡ true
      by (Some q) x p y e n = refl
      by None x None y e n = absurd (false≢true e)
      by None x (Some q) y e n = absurd (true≢false (sym (over q (let l : t.changed.facts.counter ≤ q.1 = s.new x q y in omega (arith, l, counted))) ∙ n))

  -- a key that is open no longer is backed by anything
  pub backed_closed : (T : Bool) → (need t.known_only k ≡ true → open_key t.placed k ≡ true → ⊥) → IsBacked t k T
  backed_closed T shut = record {
    tries = λ e. let p = to_try_parts t.placed k e in absurd (shut (sym s.need_is ∙ p.0) p.1);
    news = λ e. let r = s.ready_is (placed_ready (new_some (t.placed.on k) e)) in absurd (shut r.0 r.1);
    olds = olds_there;
  }

  -- one that is no longer to be stolen is backed where there was a try
  pub backed_asked : is_asked_back (t.changed.facts.steal k) ≡ false → IsBacked t k true
  backed_asked a = record {
    tries = λ e. refl;
    news = λ e. (refl, not_tried e);
    olds = olds_there;
  }
    where
      not_tried : is_new t (t.placed.on k) ≡ true → is_to_try t.placed k ≡ false
      not_tried e = pick (is_to_try t.placed k) refl
        where
          there : is_some (t.placed.on k) ≡ true
          there = new_some (t.placed.on k) e

          steal : is_asked_back (t.placed.steal k) ≡ false
          steal = ap is_asked_back s.steal_is ∙ ap (λ r. is_asked_back (cond r (t.changed.facts.steal k) None)) (placed_ready there) ∙ a

          none : (o : Option (ℕ × ℕ)) → is_some o ≡ true → is_none o ≡ false
          none (Some q) e = refl
          none None e = absurd (false≢true e)

          pick : (x : Bool) → is_to_try t.placed k ≡ x → x ≡ false
          pick false q = refl
          pick true q = absurd (false≢true (sym (ap (λ y. y || is_asked_back (t.placed.steal k)) (none (t.placed.on k) there) ∙ steal) ∙ (to_try_parts t.placed k q).2))

-- ## A calm event

module _ (f : Facts) (g : Changed) (own : ℕ → Bool) (sound : IsSound f) (settled : IsSettled f) (drawn : AreDrawn f) (sh : IsSound g.facts) (calm : IsCalmChange f g.facts own) where
  abbrev t : Stages
  t = settle f g

  pub at : (k : ℕ) → SettlesAt (settle f g) k
  at k = settles_at f g (sound_drop_bad g.facts sh) k

  -- what is open afterwards was open
  pub was_open : (k : ℕ) → need (drop_bad g.facts) k ≡ true → open_key (settle f g).placed k ≡ true → open_key f k ≡ true
  unfolding settle
  was_open k n o = open_kept f g own sound settled drawn sh calm k (and_from (not (held (drop_bad g.facts) k)) (not (erred (drop_bad g.facts) k))
      (ap not (ap (λ r. r k) (held-drop_bad g.facts) ∙ sym ((at k).held_is ∙ ap (λ x. x && held g.facts k) n)) ∙ and_first (not (held (settle f g).placed k)) (not (erred (settle f g).placed k)) o)
      (ap not (sym ((at k).erred_is n)) ∙ and_second (not (held (settle f g).placed k)) (not (erred (settle f g).placed k)) o))

  pub backed : (k : ℕ) → own k ≡ false → IsBacked (settle f g) k (is_to_try f k)
  unfolding settle
  backed k o = record {
    tries = λ e. let p = to_try_parts (settle f g).placed k e in let n : need (drop_bad g.facts) k ≡ true = sym s.need_is ∙ p.0 in
        to_try_from f k (need_kept f g own sound settled drawn sh calm k n) (was_open k n p.1) (by (f.on k) refl n p.2);
    news = λ e. fresh (f.on k) refl e;
    olds = olds_there (settle f g) k s calm.counter;
  }
    where
      s : SettlesAt (settle f g) k
      s = at k

      stays : (q : ℕ × ℕ) → f.on k ≡ Some q → need (drop_bad g.facts) k ≡ true → (settle f g).placed.on k ≡ Some q
      stays q e n = s.kept (ready_kept f g own sound settled drawn sh calm k (ap is_some e) o n) q (calm.on k o ∙ e)

      by : (x : Option (ℕ × ℕ)) → f.on k ≡ x → need (drop_bad g.facts) k ≡ true → (is_none ((settle f g).placed.on k) || is_asked_back ((settle f g).placed.steal k)) ≡ true → (is_none x || is_asked_back (f.steal k)) ≡ true
      by None e n m = refl
      by (Some q) e n m =
          ap is_asked_back (sym (s.steal_is ∙ ap (λ r. cond r (g.facts.steal k) None) (ready_kept f g own sound settled drawn sh calm k (ap is_some e) o n) ∙ calm.steal k o))
          ∙ sym (ap (λ y. is_none y || is_asked_back ((settle f g).placed.steal k)) (stays q e n)) ∙ m

      over : (q : ℕ × ℕ) → q.1 < f.counter → nat_le f.counter q.1 ≡ true → ⊥
      over q l e = let m : f.counter ≤ q.1 = leb-true f.counter q.1 e in omega (arith, l, m)

      some_new : (y : Option (ℕ × ℕ)) → is_new (settle f g) y ≡ true → is_some y ≡ true
      some_new None e = absurd (false≢true e)
      some_new (Some q) e = refl

      fresh : (x : Option (ℕ × ℕ)) → f.on k ≡ x → is_new (settle f g) ((settle f g).placed.on k) ≡ true → (is_to_try f k ≡ true) × (is_to_try (settle f g).placed k ≡ false)
      fresh (Some q) e m =
          let r = s.ready_is (placed_ready (settle f g) k s calm.counter (some_new ((settle f g).placed.on k) m)) in
          absurd (over q (drawn k q e) (sym (ap (is_new (settle f g)) (stays q e r.0)) ∙ m))
      fresh None e m =
          let r = s.ready_is (placed_ready (settle f g) k s calm.counter (some_new ((settle f g).placed.on k) m)) in (
            to_try_from f k (need_kept f g own sound settled drawn sh calm k r.0) (was_open k r.0 r.1) (ap (λ y. is_none y || is_asked_back (f.steal k)) e),
            ((backed_asked (settle f g) k s calm.counter (ap is_asked_back (calm.steal k o ∙ sound.steal k e))).news m).1,
          )

-- ## Weights that only the setting decides

pub end_by : (f g : Facts) → g.setting ≡ f.setting → (b : ℕ) → end_weight g b ≡ end_weight f b
end_by f g e b = ap (λ (s : Setting). max 1 s.clients * most_told b + (most_asked b + (max 1 s.clients * key_count s.shape + 3))) e

pub try_by : (f g : Facts) → g.setting ≡ f.setting → (b k : ℕ) → try_weight g b k ≡ try_weight f b k
try_by f g e b k = ap (λ (s : Setting). (max 1 s.clients * most_told b + (most_asked b + (max 1 s.clients * key_count s.shape + 3))) + (most_asked b + 6 + length (deps_of s.shape k) * most_listed b)) e

pub disturbance_by : (f g : Facts) → g.setting ≡ f.setting → (b : ℕ) → disturbance_weight g b ≡ disturbance_weight f b
unfolding disturbance_weight
disturbance_by f g e b = ap (λ (s : Setting). total (λ k. (max 1 s.clients * most_told b + (most_asked b + (max 1 s.clients * key_count s.shape + 3))) + (most_asked b + 6 + length (deps_of s.shape k) * most_listed b)) (below (key_count s.shape)) + (max 1 s.clients * key_count s.shape * (most_told b + 2) + (most_asked b + 4))) e

-- the scheduler's weight as sums over the keys of another's setting
pub sched_by : (f g : Facts) → g.setting ≡ f.setting → (b : ℕ) → sched_weight g b ≡ b * disturbance_weight f b + (total (key_weight g b) (below (keys f)) + total (λ k. total (λ c. told_weight g c k) (from_one f.setting.clients)) (below (keys f)))
unfolding sched_weight
sched_by f g e b =
    ap (λ n. b * n + (total (key_weight g b) (below (keys g)) + total (λ c. total (told_weight g c) (below (keys g))) (from_one g.setting.clients))) (disturbance_by f g e b)
    ∙ ap (λ (s : Setting). b * disturbance_weight f b + (total (key_weight g b) (below (key_count s.shape)) + total (λ c. total (told_weight g c) (below (key_count s.shape))) (from_one s.clients))) e
    ∙ ap (λ n. b * disturbance_weight f b + (total (key_weight g b) (below (keys f)) + n)) (total_swap (told_weight g) (from_one f.setting.clients) (below (keys f)))

-- ## The payment

copy_is : (c : ℕ) (o : Option ℕ) → is_copy c o ≡ true → o ≡ Some c
copy_is c None e = absurd (false≢true e)
copy_is c (Some d) e = ap (λ n. Some n) (eqb-true d c e)

some_copy : (c : ℕ) → is_copy c (Some c) ≡ true
some_copy c = eq-eqb c c refl

module _ (f : Facts) (g : Changed) (own : ℕ → Bool) (sound : IsSound f) (settled : IsSettled f) (drawn : AreDrawn f) (sh : IsSound g.facts) (calm : IsCalmChange f g.facts own)
    (b : ℕ) (back : (k : ℕ) → IsBacked (settle f g) k (is_to_try f k)) where
  here : (k : ℕ) → SettlesAt (settle f g) k
  here k = settles_at f g (sound_drop_bad g.facts sh) k

  abbrev P : Facts
  P = (settle f g).placed

  abbrev pub after : ℕ → ℕ
  after = deaths (settle f g).placed b

  any_before : (k : ℕ) → (is_some (g.facts.on k) || held g.facts k) ≡ true → (is_some (f.on k) || held f k) ≡ true
  any_before k e = pick (own k) refl (or_cases (is_some (g.facts.on k)) (held g.facts k) e)
    where
      pick : (x : Bool) → own k ≡ x → (is_some (g.facts.on k) ≡ true) ⊎ (held g.facts k ≡ true) → (is_some (f.on k) || held f k) ≡ true
      pick true o c = or_left (is_some (f.on k)) (held f k) (calm.had_place k o)
      pick false o c = ⊎_elim (λ q. or_left (is_some (f.on k)) (held f k) (ap is_some (sym (calm.on k o)) ∙ q)) (λ q. or_right (is_some (f.on k)) (held f k) (calm.held_new k q o)) c

  deaths_fall : (k : ℕ) → deaths (settle f g).placed b k ≤ deaths f b k
  unfolding deaths settle
  deaths_fall k =
      let a : bit (is_to_try P k) + bit (is_some (P.on k) || held P k) ≤ bit (is_to_try f k) + bit (is_some (g.facts.on k) || held g.facts k) = settle_deaths (settle f g) k (here k) (is_to_try f k) (back k) in
      let c : bit (is_some (g.facts.on k) || held g.facts k) ≤ bit (is_some (f.on k) || held f k) = bit_most (is_some (g.facts.on k) || held g.facts k) (is_some (f.on k) || held f k) (any_before k) in
      omega (arith, a, c)

  gone_falls : (k : ℕ) → held f k ≡ true → need (drop_bad g.facts) k ≡ false → deaths (settle f g).placed b k + 1 ≤ deaths f b k
  unfolding deaths settle
  gone_falls k h n =
      let a : deaths (settle f g).placed b k ≡ b = unneeded_deaths (settle f g) k (here k) (is_to_try f k) (back k) b n in
      let c : bit (is_some (f.on k) || held f k) ≡ 1 = ap bit (or_right (is_some (f.on k)) (held f k) h) in
      omega (arith, a, c)

  pub lighter : IsLighter f (settle f g).placed (deaths f b) (deaths (settle f g).placed b)
  unfolding settle
  lighter = record { deaths = deaths_fall; gone = gone; unheld = unheld }
    where
      gone : (x k c : ℕ) → is_current f x k c ≡ true → is_current (settle f g).placed x k c ≡ false → deaths (settle f g).placed b k + 1 ≤ deaths f b k
      gone x k c e n = pick (need (drop_bad g.facts) k) refl
        where
          had : f.has x k ≡ Some c
          had = copy_is c (f.has x k) e

          pick : (y : Bool) → need (drop_bad g.facts) k ≡ y → deaths (settle f g).placed b k + 1 ≤ deaths f b k
          pick false q = gone_falls k (holder_holds f sound x k (ap is_some had)) q
          pick true q = absurd (true≢false (sym (ap (is_copy c) ((here k).has_is x ∙ ap (λ y. cond y (g.facts.has x k) None) q ∙ calm.copies x k c had) ∙ some_copy c) ∙ n))

      unheld : (k : ℕ) → held f k ≡ true → held (settle f g).placed k ≡ false → deaths (settle f g).placed b k + 1 ≤ deaths f b k
      unheld k e n = pick (need (drop_bad g.facts) k) refl
        where
          pick : (y : Bool) → need (drop_bad g.facts) k ≡ y → deaths (settle f g).placed b k + 1 ≤ deaths f b k
          pick false q = gone_falls k e q
          pick true q = absurd (true≢false (sym ((here k).held_is ∙ ap (λ y. y && held g.facts k) q ∙ calm.held_still k e) ∙ n))

  abbrev pub cs : List ℕ
  cs = from_one f.setting.clients

  abbrev pub told_sum : Facts → ℕ → ℕ
  told_sum h k = total (λ c. told_weight h c k) cs

  abbrev pub news_sum : ℕ → ℕ
  news_sum k = total (λ c. told_cost (settle f g) after c k) cs

  abbrev pub free_sum : ℕ → ℕ
  free_sum k = total (λ i. freed_cost (settle f g) after i k) (from_one (settle f g).placed.last_worker)

  abbrev pub event_sum : ℕ → ℕ
  event_sum k = total (λ i. cond (g.freed i k) (question after k + 1) 0) (from_one (settle f g).placed.last_worker)

  -- what a key has besides its tries pays for the rest, with what the event brings
  abbrev pub Rest : ℕ → ℕ → Type 0
  Rest k gain = (told_sum (settle f g).placed k + news_sum k) + (cond (is_some (g.facts.on k)) (end_weight f b) 0 + holder_count g.facts k * pair_weight b)
      ≤ (told_sum f k + (cond (is_some (f.on k)) (end_weight f b) 0 + holder_count f k * pair_weight b)) + gain

  key_pays : (k gain : ℕ) → Rest k gain
      → (key_weight (settle f g).placed b k + told_sum (settle f g).placed k) + (free_sum k + (new_cost (settle f g) after k ((settle f g).placed.on k) + news_sum k)) ≤ (key_weight f b k + told_sum f k) + (event_sum k + gain)
  unfolding settle
  key_pays k gain rest =
      let a = settle_pays (settle f g) k (here k) (is_to_try f k) (back k) b in
      let c = freed_most (settle f g) k (here k) after in
      let x : try_weight P b k ≡ try_weight f b k = try_by f P ((here k).setting_is ∙ calm.setting) b k in
      let y : end_weight P b ≡ end_weight f b = end_by f P ((here k).setting_is ∙ calm.setting) b in
      let u : cond (is_to_try f k) (try_weight P b k) 0 ≡ cond (is_to_try f k) (try_weight f b k) 0 = ap (λ n. cond (is_to_try f k) n 0) x in
      let v : cond (is_some (g.facts.on k)) (end_weight P b) 0 ≡ cond (is_some (g.facts.on k)) (end_weight f b) 0 = ap (λ n. cond (is_some (g.facts.on k)) n 0) y in
      omega (arith, a, c, u, v, rest)

  -- all keys together
  pub sched_pays : (gain : ℕ → ℕ) → ((k : ℕ) → Rest k (gain k))
      → sched_weight (settle f g).placed b + (total free_sum (below (keys f)) + (total (λ k. new_cost (settle f g) after k ((settle f g).placed.on k)) (below (keys f)) + total news_sum (below (keys f))))
      ≤ sched_weight f b + (total event_sum (below (keys f)) + total gain (below (keys f)))
  unfolding settle
  sched_pays gain rest =
      let p = sched_by f P ((here 0).setting_is ∙ calm.setting) b in
      let q = sched_by f f refl b in
      let all : total (λ k. (key_weight P b k + told_sum P k) + (free_sum k + (new_cost (settle f g) after k (P.on k) + news_sum k))) ks ≤ total (λ k. (key_weight f b k + told_sum f k) + (event_sum k + gain k)) ks = total_at_most _ _ ks (λ k. key_pays k (gain k) (rest k)) in
      let l1 = total_plus (λ k. key_weight P b k + told_sum P k) (λ k. free_sum k + (new_cost (settle f g) after k (P.on k) + news_sum k)) ks in
      let l2 = total_plus (key_weight P b) (told_sum P) ks in
      let l3 = total_plus free_sum (λ k. new_cost (settle f g) after k (P.on k) + news_sum k) ks in
      let l4 = total_plus (λ k. new_cost (settle f g) after k (P.on k)) news_sum ks in
      let r1 = total_plus (λ k. key_weight f b k + told_sum f k) (λ k. event_sum k + gain k) ks in
      let r2 = total_plus (key_weight f b) (told_sum f) ks in
      let r3 = total_plus event_sum gain ks in
      omega (arith, p, q, all, l1, l2, l3, l4, r1, r2, r3)
    where
      ks : List ℕ
      ks = below (keys f)
