-- What each event does to who is connected and alive, and to the losses of a key.
use Rattle.std.proofs.Common.{◌≡◌, ℕ, suc, ◌+◌, ◌≤◌, Bool, true, false, not, ◌||◌, cond, List, [], ◌∷◌, length, filter, None, refl, sym, ap, ◌∙◌, arith, ⊎_elim, inl, inr, ◌⊎◌}
use Rattle.std.specs.Prelude.{◌==◌}
use Rattle.std.specs.Option.{option_map}
use Rattle.std.proofs.lemmas.Bool.{true≢false, false≢true, or_cases, or_right, eqb-true, eq-eqb}
use Rattle.cluster_msgs.specs.declared.cores.SchedEvent.TheVariants.{FromWorker, FromClient}
use Rattle.cluster_msgs.specs.declared.messages.FromClient.{FromClient as ClientMessage}
use Rattle.cluster_msgs.specs.declared.messages.Up.{Up}
use Rattle.cluster_msgs.specs.declared.events.Event.{Event}
use Rattle.cluster_msgs.specs.declared.events.Event.TheVariants.{Want, Release, Join, Lose, SeeLoss, Suspect, DeliverDown, DeliverUp, DeliverToClient, DeliverFromClient, Start, Finish, SendGather, ServeGather, ArriveGather, FailGather, Balance, Evict, Replicate, Spill, LoseSpilled}
use Rattle.cluster_rules.specs.Derived.{is_in}
use Rattle.cluster_rules.specs.Enabled.{front}
use Rattle.cluster_rules.specs.Runs.{loses, sched_event}
use Rattle.cluster_rules.specs.Sched.{Facts, connected, known}
use Rattle.cluster_rules.specs.World.{Job, World as Cluster, is_connected}
use Rattle.cluster_rules.specs.WorldStep.{world_step}
use Rattle.cluster_laws.proofs.Counted.{CountsKnown, world_losses}
use Rattle.cluster_laws.proofs.SchedPart.{sched_is}
use Rattle.safety_laws.proofs.Staying.{takes_away, alive_stays, connected_before, joined_before, left_gone, lets_join}
use Rattle.cluster_sim.proofs.WorldKeeps.{joins}

-- ## Lists

module _ (c d : ℕ → Bool) where
  -- where more of a list are gone
  pub more_gone : (xs : List ℕ) → ((v : ℕ) → is_in v xs ≡ true → d v ≡ true → c v ≡ true) → length (filter (λ v. not (c v)) xs) ≤ length (filter (λ v. not (d v)) xs)
  more_gone [] f = omega arith
  more_gone (x ∷ xs) f = pick (c x) (d x) (f x (ap (λ b. b || is_in x xs) (eq-eqb x x refl))) (more_gone xs (λ v i. f v (or_right (x == v) (is_in v xs) i)))
    where
      pick : (a b : Bool) → (b ≡ true → a ≡ true) → length (filter (λ v. not (c v)) xs) ≤ length (filter (λ v. not (d v)) xs)
          → length (cond (not a) (x ∷ filter (λ v. not (c v)) xs) (filter (λ v. not (c v)) xs)) ≤ length (cond (not b) (x ∷ filter (λ v. not (d v)) xs) (filter (λ v. not (d v)) xs))
      pick true true g r = r
      pick true false g r = omega (arith, r)
      pick false true g r = absurd (false≢true (g refl))
      pick false false g r = omega (arith, r)

  -- and among them one that wasn't
  pub one_gone : (v : ℕ) (xs : List ℕ) → ((u : ℕ) → is_in u xs ≡ true → d u ≡ true → c u ≡ true) → is_in v xs ≡ true → c v ≡ true → d v ≡ false
      → length (filter (λ u. not (c u)) xs) + 1 ≤ length (filter (λ u. not (d u)) xs)
  one_gone v [] f i cv dv = absurd (false≢true i)
  one_gone v (x ∷ xs) f i cv dv = ⊎_elim here (λ i. there (one_gone v xs later i cv dv)) (or_cases (x == v) (is_in v xs) i)
    where
      later : (u : ℕ) → is_in u xs ≡ true → d u ≡ true → c u ≡ true
      later u i = f u (or_right (x == u) (is_in u xs) i)

      first : (a b : Bool) → a ≡ true → b ≡ false → length (filter (λ u. not (c u)) xs) ≤ length (filter (λ u. not (d u)) xs)
          → length (cond (not a) (x ∷ filter (λ u. not (c u)) xs) (filter (λ u. not (c u)) xs)) + 1 ≤ length (cond (not b) (x ∷ filter (λ u. not (d u)) xs) (filter (λ u. not (d u)) xs))
      first true false p q r = omega (arith, r)
      first true true p q r = absurd (true≢false q)
      first false b p q r = absurd (false≢true p)

      rest : (a b : Bool) → (b ≡ true → a ≡ true) → length (filter (λ u. not (c u)) xs) + 1 ≤ length (filter (λ u. not (d u)) xs)
          → length (cond (not a) (x ∷ filter (λ u. not (c u)) xs) (filter (λ u. not (c u)) xs)) + 1 ≤ length (cond (not b) (x ∷ filter (λ u. not (d u)) xs) (filter (λ u. not (d u)) xs))
      rest true true g r = r
      rest true false g r = omega (arith, r)
      rest false true g r = absurd (false≢true (g refl))
      rest false false g r = omega (arith, r)

      here : (x == v) ≡ true → length (filter (λ u. not (c u)) (x ∷ xs)) + 1 ≤ length (filter (λ u. not (d u)) (x ∷ xs))
      here e = let q : x ≡ v = eqb-true x v e in first (c x) (d x) (ap c q ∙ cv) (ap d q ∙ dv) (more_gone xs later)

      there : length (filter (λ u. not (c u)) xs) + 1 ≤ length (filter (λ u. not (d u)) xs) → length (filter (λ u. not (c u)) (x ∷ xs)) + 1 ≤ length (filter (λ u. not (d u)) (x ∷ xs))
      there r = rest (c x) (d x) (f x (ap (λ b. b || is_in x xs) (eq-eqb x x refl))) r

pub few_pass : (p : ℕ → Bool) (xs : List ℕ) → length (filter p xs) ≤ length xs
few_pass p [] = omega arith
few_pass p (x ∷ xs) = pick (p x) (few_pass p xs)
  where
    pick : (b : Bool) → length (filter p xs) ≤ length xs → length (cond b (x ∷ filter p xs) (filter p xs)) ≤ suc (length xs)
    pick true r = omega (arith, r)
    pick false r = omega (arith, r)

-- one more at the front
pub longer : (b : Bool) (x : ℕ) (xs : List ℕ) → length xs ≤ length (cond b (x ∷ xs) xs)
longer true x xs = omega arith
longer false x xs = omega arith

pub longer_by_one : (b : Bool) (x : ℕ) (xs : List ℕ) → b ≡ false → length (cond (not b) (x ∷ xs) xs) ≡ length xs + 1
longer_by_one false x xs e = omega arith
longer_by_one true x xs e = absurd (true≢false e)

-- ## What an event does

-- the scheduler may take that a worker leaves
abbrev pub may_leave : Event → Bool
may_leave (SeeLoss v) = true
may_leave (Suspect v) = true
may_leave e = false

pub leaver : (e : Event) → may_leave e ≡ true → ((v : ℕ) × (e ≡ SeeLoss v)) ⊎ ((v : ℕ) × (e ≡ Suspect v))
leaver (SeeLoss v) h = inl (v, refl)
leaver (Suspect v) h = inr (v, refl)
leaver (Want c ks) h = absurd (false≢true h)
leaver (Release c ks) h = absurd (false≢true h)
leaver (Join threads) h = absurd (false≢true h)
leaver (Lose v) h = absurd (false≢true h)
leaver (DeliverDown v) h = absurd (false≢true h)
leaver (DeliverUp v) h = absurd (false≢true h)
leaver (DeliverToClient c) h = absurd (false≢true h)
leaver (DeliverFromClient c) h = absurd (false≢true h)
leaver (Start v) h = absurd (false≢true h)
leaver (Finish v k) h = absurd (false≢true h)
leaver (SendGather a p) h = absurd (false≢true h)
leaver (ServeGather p a n) h = absurd (false≢true h)
leaver (ArriveGather a p n) h = absurd (false≢true h)
leaver (FailGather a p) h = absurd (false≢true h)
leaver Balance h = absurd (false≢true h)
leaver Evict h = absurd (false≢true h)
leaver (Replicate k v) h = absurd (false≢true h)
leaver (Spill v k) h = absurd (false≢true h)
leaver (LoseSpilled v k) h = absurd (false≢true h)

up_joins : (v : ℕ) (ms : List Up) (b : Bool) → lets_join (cond b (option_map (λ m. FromWorker v m) (front ms)) None) ≡ false
up_joins v [] true = refl
up_joins v (m ∷ ms) true = refl
up_joins v ms false = refl

letter_joins : (c : ℕ) (ms : List ClientMessage) → lets_join (option_map (λ m. FromClient c m) (front ms)) ≡ false
letter_joins c [] = refl
letter_joins c (m ∷ ms) = refl

no_join : (w : Cluster) (e : Event) → joins e ≡ 0 → lets_join (sched_event w e) ≡ false
no_join w (Join threads) z = absurd (omega (arith, z))
no_join w (SeeLoss v) z = refl
no_join w (Suspect v) z = refl
no_join w (Want c ks) z = refl
no_join w (Release c ks) z = refl
no_join w (Lose v) z = refl
no_join w (DeliverDown v) z = refl
no_join w (DeliverUp v) z = up_joins v (w.up v) (is_connected w v)
no_join w (DeliverToClient c) z = refl
no_join w (DeliverFromClient c) z = letter_joins c (w.from_client c)
no_join w (Start v) z = refl
no_join w (Finish v k) z = refl
no_join w (SendGather a p) z = refl
no_join w (ServeGather p a n) z = refl
no_join w (ArriveGather a p n) z = refl
no_join w (FailGather a p) z = refl
no_join w Balance z = refl
no_join w Evict z = refl
no_join w (Replicate k v) z = refl
no_join w (Spill v k) z = refl
no_join w (LoseSpilled v k) z = refl

up_loses : (f : Facts) (k v : ℕ) (ms : List Up) (b : Bool) → loses f k (cond b (option_map (λ m. FromWorker v m) (front ms)) None) ≡ false
up_loses f k v [] true = refl
up_loses f k v (m ∷ ms) true = refl
up_loses f k v ms false = refl

letter_loses : (f : Facts) (k c : ℕ) (ms : List ClientMessage) → loses f k (option_map (λ m. FromClient c m) (front ms)) ≡ false
letter_loses f k c [] = refl
letter_loses f k c (m ∷ ms) = refl

no_loss : (w : Cluster) (e : Event) (k : ℕ) → may_leave e ≡ false → loses w.sched k (sched_event w e) ≡ false
no_loss w (SeeLoss v) k m = absurd (true≢false m)
no_loss w (Suspect v) k m = absurd (true≢false m)
no_loss w (Join threads) k m = refl
no_loss w (Want c ks) k m = refl
no_loss w (Release c ks) k m = refl
no_loss w (Lose v) k m = refl
no_loss w (DeliverDown v) k m = refl
no_loss w (DeliverUp v) k m = up_loses w.sched k v (w.up v) (is_connected w v)
no_loss w (DeliverToClient c) k m = refl
no_loss w (DeliverFromClient c) k m = letter_loses w.sched k c (w.from_client c)
no_loss w (Start v) k m = refl
no_loss w (Finish v q) k m = refl
no_loss w (SendGather a p) k m = refl
no_loss w (ServeGather p a n) k m = refl
no_loss w (ArriveGather a p n) k m = refl
no_loss w (FailGather a p) k m = refl
no_loss w Balance k m = refl
no_loss w Evict k m = refl
no_loss w (Replicate q v) k m = refl
no_loss w (Spill v q) k m = refl
no_loss w (LoseSpilled v q) k m = refl

module _ (j : Job) (w : Cluster) where
  -- who is connected after it was before
  pub before : (e : Event) → joins e ≡ 0 → (v : ℕ) → is_connected (world_step j w e) v ≡ true → is_connected w v ≡ true
  before e z v c = connected_before w.sched (sched_event w e) v (no_join w e z) (ap (λ (f : Facts). connected f v) (sym (sched_is j w e)) ∙ c)

  pub before_join : (threads v : ℕ) → (v == w.sched.last_worker + 1) ≡ false → is_connected (world_step j w (Join threads)) v ≡ true → is_connected w v ≡ true
  before_join threads v other c = joined_before w.sched threads v other (ap (λ (f : Facts). connected f v) (sym (sched_is j w (Join threads))) ∙ c)

  -- who is dead after it was before, unless it takes away just that worker
  pub dead_before : (e : Event) (v : ℕ) → takes_away e v ≡ false → (world_step j w e).alive v ≡ false → w.alive v ≡ false
  dead_before e v t a = pick (w.alive v) refl
    where
      pick : (b : Bool) → w.alive v ≡ b → b ≡ false
      pick true q = absurd (true≢false (sym (alive_stays j w e v t q) ∙ a))
      pick false q = refl

  pub seen_gone : (v : ℕ) → is_connected (world_step j w (SeeLoss v)) v ≡ false
  seen_gone v = ap (λ (f : Facts). connected f v) (sched_is j w (SeeLoss v)) ∙ left_gone w.sched v

  pub suspected_gone : (v : ℕ) → is_connected (world_step j w (Suspect v)) v ≡ false
  suspected_gone v = ap (λ (f : Facts). connected f v) (sched_is j w (Suspect v)) ∙ left_gone w.sched v

  -- the losses of a key
  pub one_more : (e : Event) (k : ℕ) → CountsKnown w.sched → (world_step j w e).sched.losses k ≤ w.sched.losses k + 1
  one_more e k u = by (known (world_step j w e).sched k) (loses w.sched k (sched_event w e)) (world_losses j w e u k)
    where
      by : (a b : Bool) → (world_step j w e).sched.losses k ≡ cond a (cond b (w.sched.losses k + 1) (w.sched.losses k)) 0 → (world_step j w e).sched.losses k ≤ w.sched.losses k + 1
      by true true h = omega (arith, h)
      by true false h = omega (arith, h)
      by false b h = omega (arith, h)

  pub no_more : (e : Event) (k : ℕ) → CountsKnown w.sched → may_leave e ≡ false → (world_step j w e).sched.losses k ≤ w.sched.losses k
  no_more e k u m = by (known (world_step j w e).sched k) (loses w.sched k (sched_event w e)) (no_loss w e k m) (world_losses j w e u k)
    where
      by : (a b : Bool) → b ≡ false → (world_step j w e).sched.losses k ≡ cond a (cond b (w.sched.losses k + 1) (w.sched.losses k)) 0 → (world_step j w e).sched.losses k ≤ w.sched.losses k
      by true false q h = omega (arith, h)
      by true true q h = absurd (true≢false q)
      by false b q h = omega (arith, h)
