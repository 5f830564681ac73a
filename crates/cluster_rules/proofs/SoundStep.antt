-- Each event that is taken keeps every fact in range: joining, leaving, settling, and the whole step.
use Rattle.std.proofs.Common.{◌≡◌, ℕ, ◌+◌, ◌<◌, ◌≤◌, Bool, true, false, not, cond, ◌&&◌, ◌||◌, List, [], ◌∷◌, ◌++◌, length, Option, Some, None, refl, sym, ap, ◌∙◌, subst, arith, is_some, is_none, inl, inr, ◌⊎◌, ⊎_elim, length-append}
use Rattle.std.specs.Prelude.{nat_le, nat_lt}
use Rattle.std.proofs.lemmas.Bool.{false≢true, eqb-true, ltb-true, leb-true, and_parts}
use Rattle.std.proofs.lemmas.List.Elements.{filter-append}
use Rattle.std.proofs.Math.Dec.{eqb, ltb}
use Rattle.std.specs.List.{filter, list_any, Contains, AllByRecursion}
use Rattle.std.proofs.Math.Bool.{and-false}
use Rattle.std.proofs.lemmas.Option.{none-some}
use Rattle.small_facts.proofs.Numbers.{unequal_between}
use Rattle.small_facts.proofs.Options.{cond_none, some_not_none}
use Rattle.small_facts.proofs.Ranges.{range_push}
use Rattle.cluster_msgs.specs.Shape.{IsShape}
use Rattle.cluster_msgs.specs.declared.messages.Up.{Up}
use Rattle.cluster_msgs.specs.declared.messages.Up.TheVariants.{TaskFinished, TaskErred, AddKeys, ReleaseWorkerData, MissingData, RequestRefreshWhoHas, StealResponse}
use Rattle.cluster_msgs.specs.declared.messages.FromClient.{FromClient as FromClientMessage}
use Rattle.cluster_msgs.specs.declared.messages.FromClient.TheVariants.{Want, Release, Missing}
use Rattle.cluster_msgs.specs.declared.cores.Steal.{Steal}
use Rattle.cluster_msgs.specs.declared.cores.SchedEvent.{SchedEvent}
use Rattle.cluster_msgs.specs.declared.cores.SchedEvent.TheVariants.{Join, Leave, FromWorker, FromClient, Balance, Evict, Replicate}
use Rattle.cluster_rules.specs.Functions.{put, from_one}
use Rattle.cluster_rules.specs.Derived.{below, is_in}
use Rattle.cluster_rules.specs.Choice.{IsLeastOf}
use Rattle.cluster_rules.specs.Sched.{Setting, Facts, IsSound, sched_opening, keys, deps, known, need, ready, holds, is_on, is_for, is_above, workers, connected, full}
use Rattle.cluster_rules.specs.Policies.{place, place_rank, candidates, candidates_by, or_else, next_steal, steal_rank, steal_choices, may_steal, next_drop}
use Rattle.cluster_rules.specs.SchedTable.{Changed, plain, change, change_up, change_client, joined, left, wants_more, wants_less, balanced, evicted, are_keys, up_keys, client_keys, sched_takes}
use Rattle.cluster_rules.specs.SchedStep.{drop_bad, drop_has, drop_on, give, place_one, place_keys, place_all, settle, posted, down_messages, finish_step, sched_step}
use Rattle.cluster_rules.proofs.ChoiceLemmas.{least_by_least, contains_head, contains_tail}
use Rattle.cluster_rules.proofs.Members.{filter_from, range_from}
use Rattle.cluster_rules.proofs.PolicyLemmas.{worker_from, steal_choice_from}
use Rattle.cluster_rules.proofs.DerivedLemmas.{All_below}
use Rattle.cluster_rules.proofs.SoundLemmas.{IsBounded, bounded_self, sound_bounded, bounded_then, bounded_finished, bounded_failed, bounded_add_keys, bounded_released, bounded_lost_copy, bounded_answered, bounded_marked, bounded_gone, put_past, held_some, on_some, on_then, steal_less}

first_key : (f : Facts) (k : ℕ) → are_keys f (k ∷ []) ≡ true → k < keys f
first_key f k h = ltb-true k (keys f) (and_parts (ltb k (keys f)) true h).0

bounded_up : (f : Facts) → IsSound f → (w : ℕ) (up : Up) → connected f w ≡ true → are_keys f (up_keys up) ≡ true → IsBounded f (change_up f w up).facts
bounded_up f s w (TaskFinished seen k a) c l = bounded_finished f s w k a (first_key f k l) c
bounded_up f s w (TaskErred seen k a) c l = bounded_failed f s w k a (first_key f k l)
bounded_up f s w (AddKeys seen ks) c l = bounded_add_keys w seen (plain f) ks s l c
bounded_up f s w (ReleaseWorkerData seen k) c l = bounded_released f s w seen k
bounded_up f s w (MissingData seen k x n) c l = bounded_lost_copy f s x k n
bounded_up f s w (RequestRefreshWhoHas seen k) c l = bounded_self f s
bounded_up f s w (StealResponse seen k a agreed) c l = bounded_answered f s w k a agreed (first_key f k l)

-- keys that are there are not past the last
not_listed : (f : Facts) (ks : List ℕ) → are_keys f ks ≡ true → (k : ℕ) → keys f ≤ k → is_in k ks ≡ false
not_listed f [] h k l = refl
not_listed f (q ∷ qs) h k l =
    let parts = and_parts (ltb q (keys f)) (are_keys f qs) h in
    ap (λ b. b || is_in k qs) (unequal_between q k (keys f) (ltb-true q (keys f) parts.0) l) ∙ not_listed f qs parts.1 k l

bounded_wants_more : (f : Facts) → IsSound f → (c : ℕ) (ks : List ℕ) → are_keys f ks ≡ true → IsBounded f (wants_more f c ks)
unfolding wants_more
bounded_wants_more f s c ks h = record {
  setting = refl;
  threads = refl;
  last_worker = refl;
  want = λ d k l. ap (λ b. b || (eqb d c && is_in k ks)) (s.want d k l) ∙ ap (λ b. eqb d c && b) (not_listed f ks h k l) ∙ and-false (eqb d c);
  has = s.has;
  bad = s.bad;
  losses = s.losses;
  on = s.on;
  steal = s.steal;
  holders = s.holders;
  places = s.places;
}

bounded_wants_less : (f : Facts) → IsSound f → (c : ℕ) (ks : List ℕ) → IsBounded f (wants_less f c ks)
unfolding wants_less
bounded_wants_less f s c ks = record {
  setting = refl;
  threads = refl;
  last_worker = refl;
  want = λ d k l. ap (λ b. b && not (eqb d c && is_in k ks)) (s.want d k l);
  has = s.has;
  bad = s.bad;
  losses = s.losses;
  on = s.on;
  steal = s.steal;
  holders = s.holders;
  places = s.places;
}

bounded_client : (f : Facts) → IsSound f → (c : ℕ) (m : FromClientMessage) → are_keys f (client_keys m) ≡ true → IsBounded f (change_client f c m).facts
bounded_client f s c (Want ks) h = bounded_wants_more f s c ks h
bounded_client f s c (Release ks) h = bounded_wants_less f s c ks
bounded_client f s c (Missing k x n) h = bounded_lost_copy f s x k n

-- a key that may be stolen has a place
on_somebody : (f : Facts) (v k : ℕ) → is_on f v k ≡ true → f.on k ≡ None → ⊥
on_somebody f v k h e = false≢true (sym (ap (is_for v) e) ∙ h)

bounded_balanced : (f : Facts) → IsSound f → (o : Option Steal) → IsLeastOf (steal_rank f) (steal_choices f) o → IsBounded f (balanced f o).facts
unfolding may_steal
bounded_balanced f s None h = bounded_self f s
bounded_balanced f s (Some c) h =
    let r = steal_choice_from f c h.member in
    bounded_marked f s c.key (Some (c.thief, false)) (on_somebody f c.victim c.key (and_parts _ _ (and_parts _ _ r.allowed).0).0)

bounded_evicted : (f : Facts) → IsSound f → (o : Option (ℕ × ℕ)) → IsBounded f (evicted f o).facts
bounded_evicted f s None = bounded_self f s
bounded_evicted f s (Some p) = bounded_gone f s p.0 p.1

-- a test that passes less keeps no more
filter_no_more : (p q : ℕ → Bool) (xs : List ℕ) → ((x : ℕ) → Contains xs x → p x ≡ true → q x ≡ true) → length (filter p xs) ≤ length (filter q xs)
filter_no_more p q [] h = omega arith
filter_no_more p q (x ∷ xs) h = pick (p x) (q x) refl refl (filter_no_more p q xs (λ y m. h y (contains_tail x xs y m)))
  where
    pick : (a b : Bool) → p x ≡ a → q x ≡ b → length (filter p xs) ≤ length (filter q xs) → length (cond a (x ∷ filter p xs) (filter p xs)) ≤ length (cond b (x ∷ filter q xs) (filter q xs))
    pick true true e g r = omega arith
    pick true false e g r = absurd (false≢true (sym g ∙ h x (contains_head x xs) e))
    pick false true e g r = omega arith
    pick false false e g r = r

-- a worker joins
sound_joined : (f : Facts) → IsSound f → (n : ℕ) → 1 ≤ n → n ≤ 16 → length (workers f) < 64 → f.last_worker < 1024 → IsSound (joined f n)
unfolding joined
sound_joined f s n low high few last = record {
  shape = s.shape;
  few_clients = s.few_clients;
  saturation = s.saturation;
  want = s.want;
  has = s.has;
  bad = s.bad;
  losses = s.losses;
  on = s.on;
  steal = s.steal;
  numbers = λ w e. number w (eqb w (f.last_worker + 1)) refl e;
  threads = λ w m e. thread w m (eqb w (f.last_worker + 1)) e;
  few_workers = fewer;
  few_numbers = omega arith;
  holders = λ w k e. still w (eqb w (f.last_worker + 1)) (s.holders w k e);
  places = λ w k e. still w (eqb w (f.last_worker + 1)) (s.places w k e);
}
  where
    number : (w : ℕ) (b : Bool) → eqb w (f.last_worker + 1) ≡ b → is_some (cond b (Some n) (f.threads w)) ≡ true → (1 ≤ w) × (w ≤ f.last_worker + 1)
    number w true e h = let same : w ≡ f.last_worker + 1 = eqb-true w (f.last_worker + 1) e in (omega arith, omega arith)
    number w false e h = let r = s.numbers w h in (r.0, omega (arith, r.1))

    thread : (w m : ℕ) (b : Bool) → cond b (Some n) (f.threads w) ≡ Some m → (1 ≤ m) × (m ≤ 16)
    thread w m true h = let same : n ≡ m = cc in (omega arith, omega arith)
    thread w m false h = s.threads w m h

    still : (w : ℕ) (b : Bool) → connected f w ≡ true → is_some (cond b (Some n) (f.threads w)) ≡ true
    still w true h = refl
    still w false h = h

    there : ℕ → Bool
    there w = is_some (put f.threads (f.last_worker + 1) (Some n) w)

    old : (w : ℕ) → Contains (from_one f.last_worker) w → there w ≡ true → connected f w ≡ true
    old w m h = at (eqb w (f.last_worker + 1)) refl h
      where
        at : (b : Bool) → eqb w (f.last_worker + 1) ≡ b → is_some (cond b (Some n) (f.threads w)) ≡ true → connected f w ≡ true
        at true e g = let same : w ≡ f.last_worker + 1 = eqb-true w (f.last_worker + 1) e in absurd (omega (arith, (range_from 1 f.last_worker w m).1))
        at false e g = g

    one_more : (b : Bool) → length (cond b ((1 + f.last_worker) ∷ []) []) ≤ 1
    one_more true = omega arith
    one_more false = omega arith

    fewer : length (filter there (from_one (f.last_worker + 1))) ≤ 64
    fewer =
        let split : filter there (from_one (f.last_worker + 1)) ≡ filter there (from_one f.last_worker) ++ cond (there (1 + f.last_worker)) ((1 + f.last_worker) ∷ []) []
        = ap (filter there) (range_push 1 f.last_worker) ∙ filter-append there (from_one f.last_worker) ((1 + f.last_worker) ∷ []) in
        let kept = filter_no_more there (connected f) (from_one f.last_worker) old in
        let more = one_more (there (1 + f.last_worker)) in
        let whole = ap length split ∙ length-append (filter there (from_one f.last_worker)) (cond (there (1 + f.last_worker)) ((1 + f.last_worker) ∷ []) []) in
        omega (arith, whole, kept, more)

-- a worker leaves
sound_left : (f : Facts) → IsSound f → (w : ℕ) → IsSound (left f w)
unfolding left
sound_left f s w = record {
  shape = s.shape;
  few_clients = s.few_clients;
  saturation = s.saturation;
  want = s.want;
  has = λ v k l. cond_none (eqb v w) (f.has v k) (s.has v k l);
  bad = λ k l. ap (λ b. b || (is_on f w k && is_above f.setting.allowed (f.losses k + 1))) (s.bad k l) ∙ ap (λ o. is_for w o && is_above f.setting.allowed (f.losses k + 1)) (s.on k l);
  losses = λ k l. ap (λ o. cond (is_for w o) (f.losses k + 1) (f.losses k)) (s.on k l) ∙ s.losses k l;
  on = λ k l. cond_none (is_on f w k) (f.on k) (s.on k l);
  steal = λ k h. steal_less f (is_on f w k) s k h;
  numbers = λ v e. s.numbers v (was v (eqb v w) e);
  threads = λ v n e. thread v n (eqb v w) e;
  few_workers = let fewer = filter_no_more (λ v. is_some (put f.threads w None v)) (connected f) (from_one f.last_worker) (λ v m e. was v (eqb v w) e) in omega (arith, fewer, s.few_workers);
  few_numbers = s.few_numbers;
  holders = λ v k e. holder v k (eqb v w) e;
  places = λ v k e. placed v k (is_on f w k) refl e;
}
  where
    was : (v : ℕ) (b : Bool) → is_some (cond b None (f.threads v)) ≡ true → connected f v ≡ true
    was v true h = absurd (false≢true h)
    was v false h = h

    thread : (v n : ℕ) (b : Bool) → cond b None (f.threads v) ≡ Some n → (1 ≤ n) × (n ≤ 16)
    thread v n true h = absurd (none-some n h)
    thread v n false h = s.threads v n h

    holder : (v k : ℕ) (b : Bool) → is_some (cond b None (f.has v k)) ≡ true → is_some (cond b None (f.threads v)) ≡ true
    holder v k true h = h
    holder v k false h = s.holders v k h

    placed : (v k : ℕ) (b : Bool) → is_on f w k ≡ b → is_for v (cond b None (f.on k)) ≡ true → is_some (put f.threads w None v) ≡ true
    placed v k true e h = absurd (false≢true h)
    placed v k false e h = at (eqb v w) refl
      where
        at : (c : Bool) → eqb v w ≡ c → is_some (cond c None (f.threads v)) ≡ true
        at true q = absurd (false≢true (sym e ∙ ap (λ u. is_on f u k) (sym (eqb-true v w q)) ∙ h))
        at false q = s.places v k h

-- settling
pub false_less : (b x : Bool) → x ≡ false → cond b x false ≡ false
false_less true x e = e
false_less false x e = refl

pub zero_less : (b : Bool) (n : ℕ) → n ≡ 0 → cond b n 0 ≡ 0
zero_less true n e = e
zero_less false n e = refl

pub none_less : {A : Type 0} (b : Bool) (o : Option A) → o ≡ None → cond b o None ≡ None
none_less true o e = e
none_less false o e = refl

bounded_drop_bad : (f : Facts) → IsSound f → IsBounded f (drop_bad f)
unfolding drop_bad
bounded_drop_bad f s = record { setting = refl; threads = refl; last_worker = refl; want = s.want; has = s.has; bad = λ k l. false_less (known f k) (f.bad k) (s.bad k l); losses = λ k l. zero_less (known f k) (f.losses k) (s.losses k l); on = s.on; steal = s.steal; holders = s.holders; places = s.places }

bounded_drop_has : (f : Facts) → IsSound f → IsBounded f (drop_has f)
unfolding drop_has
bounded_drop_has f s = record { setting = refl; threads = refl; last_worker = refl; want = s.want; has = λ w k l. none_less (need f k) (f.has w k) (s.has w k l); bad = s.bad; losses = s.losses; on = s.on; steal = s.steal; holders = λ w k h. held_some f (need f k) s w k h; places = s.places }

bounded_drop_on : (f : Facts) → IsSound f → IsBounded f (drop_on f)
unfolding drop_on
bounded_drop_on f s = record { setting = refl; threads = refl; last_worker = refl; want = s.want; has = s.has; bad = s.bad; losses = s.losses; on = λ k l. none_less (ready f k) (f.on k) (s.on k l); steal = λ k h. steal_some k (ready f k) h; holders = s.holders; places = λ w k h. on_some f (ready f k) s w k h }
  where
    steal_some : (k : ℕ) (b : Bool) → cond b (f.on k) None ≡ None → cond b (f.steal k) None ≡ None
    steal_some k true h = s.steal k h
    steal_some k false h = refl

-- a candidate is connected
pub or_else_from : (xs ys : List ℕ) (w : ℕ) → Contains (or_else xs ys) w → Contains xs w ⊎ Contains ys w
or_else_from [] ys w h = inr h
or_else_from (x ∷ xs) ys w h = inl h

pub candidate_by_connected : (f : Facts) (ds : List ℕ) (w : ℕ) → Contains (candidates_by f ds) w → connected f w ≡ true
candidate_by_connected f [] w h = worker_from f w (filter_from (λ v. not (full f v)) (workers f) w h).0
candidate_by_connected f (d ∷ ds) w h = ⊎_elim
    (λ l. worker_from f w (filter_from (λ v. list_any (holds f v) (d ∷ ds)) (workers f) w l).0)
    (λ r. worker_from f w r)
    (or_else_from (filter (λ v. list_any (holds f v) (d ∷ ds)) (workers f)) (workers f) w h)

placed_connected : (f : Facts) (k w : ℕ) → place f k ≡ Some w → connected f w ≡ true
unfolding place candidates
placed_connected f k w e =
    let b : IsLeastOf (place_rank f k) (candidates f k) (Some w) = subst (IsLeastOf (place_rank f k) (candidates f k)) e (least_by_least (place_rank f k) (candidates f k)) in
    candidate_by_connected f (deps f k) w b.member

bounded_give : (f : Facts) → IsSound f → (k w : ℕ) → k < keys f → connected f w ≡ true → IsBounded f (give f k (Some w))
bounded_give f s k w l c = record {
  setting = refl;
  threads = refl;
  last_worker = refl;
  want = s.want;
  has = s.has;
  bad = s.bad;
  losses = s.losses;
  on = λ j m. put_past f.on k (keys f) j (Some (w, f.counter)) l m (s.on j m);
  steal = λ j h. steal_at j (eqb j k) h;
  holders = s.holders;
  places = λ v j h. on_then f (eqb j k) w f.counter s c v j h;
}
  where
    steal_at : (j : ℕ) (b : Bool) → cond b (Some (w, f.counter)) (f.on j) ≡ None → f.steal j ≡ None
    steal_at j true h = absurd (some_not_none (w, f.counter) h)
    steal_at j false h = s.steal j h

bounded_place_one : (f : Facts) → IsSound f → (k : ℕ) → k < keys f → IsBounded f (place_one f k)
unfolding place_one
bounded_place_one f s k l = pick (ready f k && is_none (f.on k)) (place f k) refl
  where
    pick : (b : Bool) (o : Option ℕ) → place f k ≡ o → IsBounded f (cond b (give f k o) f)
    pick true None e = bounded_self f s
    pick true (Some w) e = bounded_give f s k w l (placed_connected f k w e)
    pick false o e = bounded_self f s

bounded_place_keys : (f : Facts) → IsSound f → (ks : List ℕ) → AllByRecursion (λ k. k < keys f) ks → IsBounded f (place_keys f ks)
bounded_place_keys f s [] h = bounded_self f s
bounded_place_keys f s (k ∷ ks) h =
    let one = bounded_place_one f s k h.0 in
    bounded_then f (place_one f k) (place_keys (place_one f k) ks) one
    (bounded_place_keys (place_one f k) (sound_bounded f (place_one f k) s one) ks (subst (λ (c : Setting). AllByRecursion (λ j. j < length c.shape.deps) ks) (sym one.setting) h.1))

bounded_place_all : (f : Facts) → IsSound f → IsBounded f (place_all f)
unfolding place_all
bounded_place_all f s = bounded_place_keys f s (below (keys f)) (All_below 0 (keys f) (λ k l m. omega arith))

pub sound_settled : (f : Facts) (g : Changed) → IsSound g.facts → IsSound (finish_step (settle f g)).facts
unfolding finish_step settle posted
sound_settled f g s =
    let b = drop_bad g.facts in
    let sb = sound_bounded g.facts b s (bounded_drop_bad g.facts s) in
    let h = drop_has b in
    let sh = sound_bounded b h sb (bounded_drop_has b sb) in
    let o = drop_on h in
    let so = sound_bounded h o sh (bounded_drop_on h sh) in
    let p = place_all o in
    let sp = sound_bounded o p so (bounded_place_all o so) in
    sound_bounded p (posted (settle f g) (down_messages (settle f g))) sp
    (record { setting = refl; threads = refl; last_worker = refl; want = sp.want; has = sp.has; bad = sp.bad; losses = sp.losses; on = sp.on; steal = sp.steal; holders = sp.holders; places = sp.places })

pub sound_changed : (f : Facts) → IsSound f → (e : SchedEvent) → sched_takes f e ≡ true → IsSound (change f e).facts
unfolding sched_takes next_steal
sound_changed f s (Join n) h =
    let parts = and_parts (nat_le 1 n && nat_le n 16) (nat_lt (length (workers f)) 64 && nat_lt f.last_worker 1024) h in
    let t = and_parts (nat_le 1 n) (nat_le n 16) parts.0 in
    let l = and_parts (nat_lt (length (workers f)) 64) (nat_lt f.last_worker 1024) parts.1 in
    sound_joined f s n (leb-true 1 n t.0) (leb-true n 16 t.1) (ltb-true (length (workers f)) 64 l.0) (ltb-true f.last_worker 1024 l.1)
sound_changed f s (Leave w) h = sound_left f s w
sound_changed f s (FromWorker w up) h =
    let parts = and_parts (connected f w) (are_keys f (up_keys up)) h in
    sound_bounded f (change_up f w up).facts s (bounded_up f s w up parts.0 parts.1)
sound_changed f s (FromClient c m) h =
    sound_bounded f (change_client f c m).facts s (bounded_client f s c m (and_parts (nat_le 1 c && nat_le c f.setting.clients) (are_keys f (client_keys m)) h).1)
sound_changed f s Balance h = sound_bounded f (balanced f (next_steal f)).facts s (bounded_balanced f s (next_steal f) (least_by_least (steal_rank f) (steal_choices f)))
sound_changed f s (Replicate k w) h = s
sound_changed f s Evict h = sound_bounded f (evicted f (next_drop f)).facts s (bounded_evicted f s (next_drop f))

-- an event that is taken keeps all facts in range
pub sound_step : (f : Facts) → IsSound f → (e : SchedEvent) → sched_takes f e ≡ true → IsSound (sched_step f e).facts
unfolding sched_step
sound_step f s e h = sound_settled f (change f e) (sound_changed f s e h)

pub sound_opening : (c : Setting) → IsShape c.shape → c.clients ≤ 16 → (1 ≤ c.saturation) × (c.saturation ≤ 1000) → IsSound (sched_opening c)
sound_opening c shape few saturation = record {
  shape = shape;
  few_clients = few;
  saturation = saturation;
  want = λ d k l. refl;
  has = λ w k l. refl;
  bad = λ k l. refl;
  losses = λ k l. refl;
  on = λ k l. refl;
  steal = λ k h. refl;
  numbers = λ w e. absurd (false≢true e);
  threads = λ w n e. absurd (none-some n e);
  few_workers = omega arith;
  few_numbers = omega arith;
  holders = λ w k e. absurd (false≢true e);
  places = λ w k e. absurd (false≢true e);
}
