-- What one worker's turn does to the measure.
use Rattle.std.proofs.Common.{◌≡◌, ℕ, ◌+◌, ◌*◌, ◌≤◌, Bool, true, false, cond, not, ◌&&◌, ◌||◌, List, [], ◌∷◌, ◌++◌, length, Option, Some, None, refl, sym, ap, ◌∙◌, subst, arith}
use Rattle.std.proofs.Math.Dec.{eqb}
use Rattle.std.specs.List.{list_any}
use Rattle.cluster_msgs.specs.declared.messages.Up.{Up}
use Rattle.cluster_msgs.specs.declared.messages.Down.{Down}
use Rattle.cluster_msgs.specs.declared.messages.Up.TheVariants.{TaskFinished, TaskErred, AddKeys, ReleaseWorkerData, MissingData, RequestRefreshWhoHas, StealResponse}
use Rattle.cluster_msgs.specs.declared.messages.FromClient.{FromClient as ClientMessage}
use Rattle.cluster_msgs.specs.declared.messages.FromClient.TheVariants.{Want, Release, Missing}
use Rattle.cluster_msgs.specs.declared.events.Asker.{Asker}
use Rattle.cluster_msgs.specs.declared.events.Asker.TheVariants.{Worker, Client}
use Rattle.cluster_rules.specs.Functions.{put, total}
use Rattle.cluster_rules.specs.Worker.{Ask, ask_to}
use Rattle.cluster_rules.specs.WorkerStep.{WorkerStep}
use Rattle.cluster_rules.specs.World.{World, Parcel, all_workers, all_clients, is_connected, open_ask}
use Rattle.cluster_rules.specs.WorldStep.{sends, worked}
use Rattle.cluster_rules.proofs.WorkerLemmas.{at_one}
use Rattle.std.proofs.lemmas.Bool.{eq-eqb}
use Rattle.quiet_measure.specs.Weights.{bit, sum_of, is_current, down_weight, up_weight, core_weight}
use Rattle.quiet_measure.specs.Measure.{counts_loss, is_wrongful, up_disturbs, letter_disturbs, death_disturbs, is_missed, missed_in, worker_disturbs, client_disturbs, answer_disturbs, disturbances, site_weight, worker_weight, client_weight, links_weight}
use Rattle.quiet_measure.proofs.Sums.{total_at_most, sum_at_most, sum_append, total_trade}
use Rattle.quiet_measure.proofs.Falling.{same_most}

any_append : {A : Type 0} (t : A → Bool) (xs ys : List A) → list_any t (xs ++ ys) ≡ (list_any t xs || list_any t ys)
any_append t [] ys = refl
any_append t (x ∷ xs) ys = ap (λ b. t x || b) (any_append t xs ys) ∙ assoc (t x)
  where
    assoc : (b : Bool) → (b || (list_any t xs || list_any t ys)) ≡ ((b || list_any t xs) || list_any t ys)
    assoc true = refl
    assoc false = refl

fewer : (b x y z : Bool) → bit (b && not (x || (y || z))) ≤ bit (b && not (x || y))
fewer false x y z = omega arith
fewer true true y z = omega arith
fewer true false true z = omega arith
fewer true false false true = omega arith
fewer true false false false = omega arith

module _ (w : World) (i : ℕ) (s : WorkerStep) where
  abbrev pub after : World
  after = worked w i s

  -- nothing becomes wrongful
  pub wrongful_less : (x k c : ℕ) → bit (is_wrongful after x k c) ≤ bit (is_wrongful w x k c)
  unfolding worked
  wrongful_less x k c = at_one i (λ b y. bit (is_current w.sched y k c && not (not (w.alive y) || list_any (counts_loss w.sched y k) (cond b (w.up i ++ sends s.out) (w.up y)))) ≤ bit (is_wrongful w y k c))
      (let e : bit (is_current w.sched i k c && not (not (w.alive i) || list_any (counts_loss w.sched i k) (w.up i ++ sends s.out)))
      ≡ bit (is_current w.sched i k c && not (not (w.alive i) || (list_any (counts_loss w.sched i k) (w.up i) || list_any (counts_loss w.sched i k) (sends s.out)))) =
      ap (λ b. bit (is_current w.sched i k c && not (not (w.alive i) || b))) (any_append (counts_loss w.sched i k) (w.up i) (sends s.out)) in
      omega (arith, e, fewer (is_current w.sched i k c) (not (w.alive i)) (list_any (counts_loss w.sched i k) (w.up i)) (list_any (counts_loss w.sched i k) (sends s.out))))
      (λ y. same_most _ _ refl) x

  pub up_less : (x : ℕ) (m : Up) → up_disturbs after x m ≤ up_disturbs w x m
  unfolding worked
  up_less x (ReleaseWorkerData seen k) = same_most _ _ refl
  up_less x (MissingData seen k p c) = wrongful_less p k c
  up_less x (TaskFinished seen k a) = same_most _ _ refl
  up_less x (AddKeys seen ks) = same_most _ _ refl
  up_less x (TaskErred seen k a) = same_most _ _ refl
  up_less x (RequestRefreshWhoHas seen k) = same_most _ _ refl
  up_less x (StealResponse seen k a agreed) = same_most _ _ refl

  pub letter_less : (m : ClientMessage) → letter_disturbs after m ≤ letter_disturbs w m
  unfolding worked
  letter_less (Want ks) = same_most _ _ refl
  letter_less (Release ks) = same_most _ _ refl
  letter_less (Missing k p c) = wrongful_less p k c

  pub missed_less : (q : Parcel) (o : Option Ask) → missed_in after q o ≤ missed_in w q o
  unfolding worked
  missed_less q None = omega arith
  missed_less q (Some a) = pick (eqb a.number q.ask)
    where
      one : (j : ℕ × ℕ) → bit (is_missed after q j) ≤ bit (is_missed w q j)
      one j = both (Rattle.cluster_rules.specs.Derived.is_in j.0 q.keys) (wrongful_less q.peer j.0 j.1)
        where
          both : (b : Bool) → bit (is_wrongful after q.peer j.0 j.1) ≤ bit (is_wrongful w q.peer j.0 j.1) → bit (not b && is_wrongful after q.peer j.0 j.1) ≤ bit (not b && is_wrongful w q.peer j.0 j.1)
          both true l = omega arith
          both false l = l

      pick : (b : Bool) → cond b (sum_of (λ j. bit (is_missed after q j)) a.items) 0 ≤ cond b (sum_of (λ j. bit (is_missed w q j)) a.items) 0
      pick true = sum_at_most _ _ a.items one
      pick false = omega arith

  -- where what it sends is no disturbance, and its asks bring none
  module _ (calm : sum_of (up_disturbs w i) (sends s.out) ≡ 0) (asks : (q : Parcel) (p : ℕ) → missed_in w q (ask_to s.facts.asks p) ≤ missed_in w q (ask_to (w.workers i).asks p)) where
    part : Bool → ℕ → ℕ
    part b x = sum_of (up_disturbs after x) (cond b (w.up i ++ sends s.out) (w.up x)) + death_disturbs w x

    part_less : (x : ℕ) → part (eqb x i) x ≤ sum_of (up_disturbs w x) (w.up x) + death_disturbs w x
    unfolding part worked
    part_less = at_one i (λ b y. part b y ≤ sum_of (up_disturbs w y) (w.up y) + death_disturbs w y)
        (let e : sum_of (up_disturbs after i) (w.up i ++ sends s.out) ≡ sum_of (up_disturbs after i) (w.up i) + sum_of (up_disturbs after i) (sends s.out) = sum_append (up_disturbs after i) (w.up i) (sends s.out) in
        let u : sum_of (up_disturbs after i) (w.up i) ≤ sum_of (up_disturbs w i) (w.up i) = sum_at_most _ _ (w.up i) (up_less i) in
        let v : sum_of (up_disturbs after i) (sends s.out) ≤ sum_of (up_disturbs w i) (sends s.out) = sum_at_most _ _ (sends s.out) (up_less i) in
        omega (arith, calm, e, u, v))
        (λ y. let u : sum_of (up_disturbs after y) (w.up y) ≤ sum_of (up_disturbs w y) (w.up y) = sum_at_most _ _ (w.up y) (up_less y) in omega arith)

    where_less : (b : Bool) (n m : ℕ) → n ≤ m → cond b n 0 ≤ cond b m 0
    where_less true n m l = l
    where_less false n m l = omega arith

    open_less : (q : Parcel) (a : Asker) → missed_in after q (open_ask after a q.peer) ≤ missed_in w q (open_ask w a q.peer)
    unfolding worked
    open_less q (Client c) = missed_less q (ask_to (w.clients c).asks q.peer)
    open_less q (Worker x) = at_one i (λ b y. missed_in after q (ask_to (cond b s.facts (w.workers y)).asks q.peer) ≤ missed_in w q (ask_to (w.workers y).asks q.peer))
        (let u : missed_in after q (ask_to s.facts.asks q.peer) ≤ missed_in w q (ask_to s.facts.asks q.peer) = missed_less q (ask_to s.facts.asks q.peer) in omega (arith, u, asks q q.peer))
        (λ y. missed_less q (ask_to (w.workers y).asks q.peer)) x

    pub disturbs_less : disturbances after ≤ disturbances w
    unfolding disturbances worker_disturbs client_disturbs answer_disturbs part worked
    disturbs_less =
        let x : total (worker_disturbs after) (all_workers w) ≤ total (worker_disturbs w) (all_workers w) = total_at_most _ _ (all_workers w) (λ y. where_less (is_connected w y) _ _ (part_less y)) in
        let y : total (client_disturbs after) (all_clients w) ≤ total (client_disturbs w) (all_clients w) = total_at_most _ _ (all_clients w) (λ c. sum_at_most _ _ (w.from_client c) letter_less) in
        let z : sum_of (answer_disturbs after) w.answers ≤ sum_of (answer_disturbs w) w.answers = sum_at_most _ _ w.answers (λ (q : Parcel). open_less q q.asker) in
        omega arith

  -- what it sends, knows and requests weighs less than what it knew
  module _ (d : ℕ → ℕ) (q : ℕ) (a : w.alive i ≡ true) (l : is_connected w i ≡ true) (low : 1 ≤ i) (high : i ≤ w.sched.last_worker)
      (less : (core_weight w.sched d s.facts + sum_of (up_weight w.sched d) (sends s.out)) + 2 * length after.requests + 1 ≤ (core_weight w.sched d (w.workers i) + 2 * length w.requests) + q) where
    place : Bool → ℕ → ℕ
    place b x = site_weight w.sched d x (w.alive x) (is_connected w x) (w.down x) (cond b s.facts (w.workers x)) (cond b (w.up i ++ sends s.out) (w.up x))

    here : (place true i + 2 * length after.requests) + 1 ≤ (worker_weight d w i + 2 * length w.requests) + q
    unfolding place site_weight worker_weight worked
    here =
        let e : sum_of (up_weight w.sched d) (w.up i ++ sends s.out) ≡ sum_of (up_weight w.sched d) (w.up i) + sum_of (up_weight w.sched d) (sends s.out) = sum_append (up_weight w.sched d) (w.up i) (sends s.out) in
        subst (λ (y : Bool). (cond (is_connected w i) (cond y (sum_of (down_weight w.sched d i) (w.down i) + core_weight w.sched d s.facts) 0 + sum_of (up_weight w.sched d) (w.up i ++ sends s.out)) 0 + 2 * length after.requests) + 1
        ≤ cond (is_connected w i) (cond y (sum_of (down_weight w.sched d i) (w.down i) + core_weight w.sched d (w.workers i)) 0 + sum_of (up_weight w.sched d) (w.up i)) 0 + 2 * length w.requests + q) (sym a)
        (subst (λ (y : Bool). (cond y ((sum_of (down_weight w.sched d i) (w.down i) + core_weight w.sched d s.facts) + sum_of (up_weight w.sched d) (w.up i ++ sends s.out)) 0 + 2 * length after.requests) + 1
        ≤ cond y ((sum_of (down_weight w.sched d i) (w.down i) + core_weight w.sched d (w.workers i)) + sum_of (up_weight w.sched d) (w.up i)) 0 + 2 * length w.requests + q) (sym l)
        (omega (arith, e, less)))

    pub links_less : links_weight d after + 1 ≤ links_weight d w + q
    unfolding links_weight worker_weight client_weight place worked
    links_less =
        let y : total (client_weight d after) (all_clients w) ≤ total (client_weight d w) (all_clients w) = total_at_most _ _ (all_clients w) (λ c. same_most _ _ refl) in
        let x : total (worker_weight d after) (all_workers w) + (1 + 2 * length after.requests) ≤ total (worker_weight d w) (all_workers w) + (2 * length w.requests + q) =
        total_trade _ _ (1 + 2 * length after.requests) (2 * length w.requests + q) i 1 w.sched.last_worker (λ y o. same_most _ _ (ap (λ b. place b y) o)) one low (omega (arith, high)) in
        omega arith
      where
        one : worker_weight d after i + (1 + 2 * length after.requests) ≤ worker_weight d w i + (2 * length w.requests + q)
        one = let e : worker_weight d after i ≡ place true i = ap (λ b. place b i) (eq-eqb i i refl) in omega (arith, here, e)

-- ## A message is taken from its link

module _ (w : World) (i : ℕ) (m : Down) (ms : List Down) (e : w.down i ≡ m ∷ ms) where
  abbrev pub popped : World
  popped = record w { down = put w.down i ms }

  pub popped_disturbs : disturbances popped ≡ disturbances w
  unfolding disturbances worker_disturbs client_disturbs answer_disturbs
  popped_disturbs = refl

  module _ (d : ℕ → ℕ) (a : w.alive i ≡ true) (l : is_connected w i ≡ true) (low : 1 ≤ i) (high : i ≤ w.sched.last_worker) where
    spot : List Down → ℕ → ℕ
    spot ds x = site_weight w.sched d x (w.alive x) (is_connected w x) ds (w.workers x) (w.up x)

    spot_here : spot ms i + down_weight w.sched d i m ≤ worker_weight d w i
    unfolding spot site_weight worker_weight
    spot_here = subst (λ (ds : List Down). cond (is_connected w i) (cond (w.alive i) (sum_of (down_weight w.sched d i) ms + core_weight w.sched d (w.workers i)) 0 + sum_of (up_weight w.sched d) (w.up i)) 0 + down_weight w.sched d i m
        ≤ cond (is_connected w i) (cond (w.alive i) (sum_of (down_weight w.sched d i) ds + core_weight w.sched d (w.workers i)) 0 + sum_of (up_weight w.sched d) (w.up i)) 0) (sym e)
        (subst (λ (y : Bool). cond y (cond (w.alive i) (sum_of (down_weight w.sched d i) ms + core_weight w.sched d (w.workers i)) 0 + sum_of (up_weight w.sched d) (w.up i)) 0 + down_weight w.sched d i m
        ≤ cond y (cond (w.alive i) ((down_weight w.sched d i m + sum_of (down_weight w.sched d i) ms) + core_weight w.sched d (w.workers i)) 0 + sum_of (up_weight w.sched d) (w.up i)) 0) (sym l)
        (subst (λ (y : Bool). (cond y (sum_of (down_weight w.sched d i) ms + core_weight w.sched d (w.workers i)) 0 + sum_of (up_weight w.sched d) (w.up i)) + down_weight w.sched d i m
        ≤ cond y ((down_weight w.sched d i m + sum_of (down_weight w.sched d i) ms) + core_weight w.sched d (w.workers i)) 0 + sum_of (up_weight w.sched d) (w.up i)) (sym a)
        (omega arith)))

    pub popped_links : links_weight d popped + down_weight w.sched d i m ≤ links_weight d w
    unfolding links_weight worker_weight client_weight spot
    popped_links =
        let y : total (client_weight d popped) (all_clients w) ≤ total (client_weight d w) (all_clients w) = total_at_most _ _ (all_clients w) (λ c. same_most _ _ refl) in
        let x : total (worker_weight d popped) (all_workers w) + down_weight w.sched d i m ≤ total (worker_weight d w) (all_workers w) + 0 =
        total_trade _ _ (down_weight w.sched d i m) 0 i 1 w.sched.last_worker (λ y o. same_most _ _ (ap (λ b. spot (cond b ms (w.down y)) y) o)) one low (omega (arith, high)) in
        omega arith
      where
        one : worker_weight d popped i + down_weight w.sched d i m ≤ worker_weight d w i + 0
        one = let q : worker_weight d popped i ≡ spot ms i = ap (λ b. spot (cond b ms (w.down i)) i) (eq-eqb i i refl) in omega (arith, spot_here, q)
