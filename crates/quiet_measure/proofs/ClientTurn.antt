-- A client asks a peer, or takes what came of an ask: what its turn must weigh for the measure to fall.
use Rattle.std.proofs.Common.{◌≡◌, ℕ, ◌+◌, ◌*◌, ◌≤◌, Bool, true, false, cond, List, ◌++◌, length, Option, Some, None, refl, ap, arith}
use Rattle.std.proofs.Math.Dec.{eqb}
use Rattle.std.specs.Prelude.{nat_le}
use Rattle.std.proofs.lemmas.Bool.{and_parts, leb-true, eq-eqb}
use Rattle.cluster_msgs.specs.declared.messages.Up.{Up}
use Rattle.cluster_msgs.specs.declared.messages.Up.TheVariants.{TaskFinished, TaskErred, AddKeys, ReleaseWorkerData, MissingData, RequestRefreshWhoHas, StealResponse}
use Rattle.cluster_msgs.specs.declared.messages.FromClient.{FromClient as ClientMessage}
use Rattle.cluster_msgs.specs.declared.messages.FromClient.TheVariants.{Want, Release, Missing}
use Rattle.cluster_msgs.specs.declared.events.Asker.{Asker}
use Rattle.cluster_msgs.specs.declared.events.Asker.TheVariants.{Worker, Client}
use Rattle.cluster_rules.specs.Functions.{total}
use Rattle.cluster_rules.specs.Worker.{Ask, ask_to}
use Rattle.cluster_rules.specs.Client.{ClientStep}
use Rattle.cluster_rules.specs.World.{World, Parcel, all_workers, all_clients, is_client, is_connected, open_ask}
use Rattle.cluster_rules.specs.WorldStep.{client_sends, client_requested, client_worked}
use Rattle.quiet_measure.specs.Weights.{sum_of, letter_weight, client_core_weight}
use Rattle.quiet_measure.specs.Measure.{missed_in, up_disturbs, letter_disturbs, worker_disturbs, client_disturbs, answer_disturbs, disturbances, deaths, worker_weight, client_site_weight, client_weight, links_weight, Falls}
use Rattle.quiet_measure.proofs.Sums.{total_at_most, sum_at_most, sum_append, total_gain, total_trade}
use Rattle.quiet_measure.proofs.Falling.{same_most, falls}

module _ (w : World) (c : ℕ) (s : ClientStep) (qs : List Parcel) where
  abbrev pub waiting : World
  waiting = record w { answers = qs }

  abbrev pub then_asks : Asker → ℕ → Option Ask
  then_asks (Worker x) p = ask_to (w.workers x).asks p
  then_asks (Client x) p = ask_to (cond (eqb x c) s.facts (w.clients x)).asks p

  abbrev last : World
  last = client_worked waiting c s

  ups : (x : ℕ) (m : Up) → up_disturbs last x m ≡ up_disturbs w x m
  unfolding client_worked
  ups x (ReleaseWorkerData seen k) = refl
  ups x (MissingData seen k p c) = refl
  ups x (TaskFinished seen k a) = refl
  ups x (AddKeys seen ks) = refl
  ups x (TaskErred seen k a) = refl
  ups x (RequestRefreshWhoHas seen k) = refl
  ups x (StealResponse seen k a agreed) = refl

  letters : (m : ClientMessage) → letter_disturbs last m ≡ letter_disturbs w m
  unfolding client_worked
  letters (Want ks) = refl
  letters (Release ks) = refl
  letters (Missing k x c) = refl

  missed_apart : (q : Parcel) (o : Option Ask) → missed_in last q o ≡ missed_in w q o
  unfolding client_worked
  missed_apart q None = refl
  missed_apart q (Some a) = refl

  module _ (calm : sum_of (letter_disturbs w) (client_sends s.out) + sum_of (λ (q : Parcel). missed_in w q (then_asks q.asker q.peer)) qs ≤ sum_of (λ (q : Parcel). missed_in w q (open_ask w q.asker q.peer)) w.answers) where
    where_less : (b : Bool) (n m : ℕ) → n ≤ m → cond b n 0 ≤ cond b m 0
    where_less true n m l = l
    where_less false n m l = omega arith

    worker : (x : ℕ) → worker_disturbs last x ≤ worker_disturbs w x
    unfolding worker_disturbs client_worked
    worker x = where_less (is_connected w x) _ _ (let u : sum_of (up_disturbs last x) (w.up x) ≤ sum_of (up_disturbs w x) (w.up x) = sum_at_most _ _ (w.up x) (λ m. same_most _ _ (ups x m)) in omega arith)

    mine : Bool → ℕ → ℕ
    mine b x = sum_of (letter_disturbs last) (cond b (w.from_client c ++ client_sends s.out) (w.from_client x))

    other : (x : ℕ) → eqb x c ≡ false → client_disturbs last x ≤ client_disturbs w x
    unfolding client_disturbs client_worked mine
    other x o =
        let u : sum_of (letter_disturbs last) (w.from_client x) ≤ sum_of (letter_disturbs w) (w.from_client x) = sum_at_most _ _ (w.from_client x) (λ m. same_most _ _ (letters m)) in
        let e : mine (eqb x c) x ≡ sum_of (letter_disturbs last) (w.from_client x) = ap (λ b. mine b x) o in
        omega (arith, u, e)

    here : client_disturbs last c ≤ client_disturbs w c + sum_of (letter_disturbs w) (client_sends s.out)
    unfolding client_disturbs client_worked mine
    here =
        let a : sum_of (letter_disturbs last) (w.from_client c ++ client_sends s.out) ≡ sum_of (letter_disturbs last) (w.from_client c) + sum_of (letter_disturbs last) (client_sends s.out) =
        sum_append (letter_disturbs last) (w.from_client c) (client_sends s.out) in
        let u : sum_of (letter_disturbs last) (w.from_client c) ≤ sum_of (letter_disturbs w) (w.from_client c) = sum_at_most _ _ (w.from_client c) (λ m. same_most _ _ (letters m)) in
        let v : sum_of (letter_disturbs last) (client_sends s.out) ≤ sum_of (letter_disturbs w) (client_sends s.out) = sum_at_most _ _ (client_sends s.out) (λ m. same_most _ _ (letters m)) in
        let e : mine (eqb c c) c ≡ sum_of (letter_disturbs last) (w.from_client c ++ client_sends s.out) = ap (λ b. mine b c) (eq-eqb c c refl) in
        omega (arith, a, u, v, e)

    answer_less : (q : Parcel) → answer_disturbs last q ≤ missed_in w q (then_asks q.asker q.peer)
    unfolding answer_disturbs client_worked
    answer_less q = by q.asker
      where
        by : (a : Asker) → missed_in last q (open_ask last a q.peer) ≤ missed_in w q (then_asks a q.peer)
        by (Worker x) = same_most _ _ (missed_apart q (ask_to (w.workers x).asks q.peer))
        by (Client x) = same_most _ _ (missed_apart q (ask_to (cond (eqb x c) s.facts (w.clients x)).asks q.peer))

    client_turn_disturbs : disturbances last ≤ disturbances w
    unfolding disturbances answer_disturbs client_worked
    client_turn_disturbs =
        let x : total (worker_disturbs last) (all_workers w) ≤ total (worker_disturbs w) (all_workers w) = total_at_most _ _ (all_workers w) worker in
        let y : total (client_disturbs last) (all_clients w) ≤ total (client_disturbs w) (all_clients w) + sum_of (letter_disturbs w) (client_sends s.out) =
        total_gain (client_disturbs last) (client_disturbs w) (sum_of (letter_disturbs w) (client_sends s.out)) c 1 w.sched.setting.clients (λ y l o. other y o) here in
        let z : sum_of (answer_disturbs last) qs ≤ sum_of (λ (q : Parcel). missed_in w q (then_asks q.asker q.peer)) qs = sum_at_most _ _ qs answer_less in
        omega (arith, x, y, z, calm)

    module _ (there : is_client w c ≡ true)
        (less : (client_core_weight w.sched (deaths w.sched (disturbances w)) s.facts + sum_of (letter_weight w.sched (deaths w.sched (disturbances w))) (client_sends s.out)) + (2 * length (client_requested (Client c) w.requests s.out) + length qs) + 1
        ≤ client_core_weight w.sched (deaths w.sched (disturbances w)) (w.clients c) + (2 * length w.requests + length w.answers)) where
      site : (ℕ → ℕ) → Bool → ℕ → ℕ
      site d b x = client_site_weight w.sched d (w.to_client x) (cond b s.facts (w.clients x)) (cond b (w.from_client c ++ client_sends s.out) (w.from_client x))

      at_client : (d : ℕ → ℕ) → (client_core_weight w.sched d s.facts + sum_of (letter_weight w.sched d) (client_sends s.out)) + (2 * length (client_requested (Client c) w.requests s.out) + length qs) + 1
          ≤ client_core_weight w.sched d (w.clients c) + (2 * length w.requests + length w.answers)
          → client_weight d last c + (2 * length (client_requested (Client c) w.requests s.out) + length qs + 1) ≤ client_weight d w c + (2 * length w.requests + length w.answers)
      unfolding client_weight client_site_weight client_worked site
      at_client d l =
          let e : site d (eqb c c) c ≡ site d true c = ap (λ b. site d b c) (eq-eqb c c refl) in
          let a : sum_of (letter_weight w.sched d) (w.from_client c ++ client_sends s.out) ≡ sum_of (letter_weight w.sched d) (w.from_client c) + sum_of (letter_weight w.sched d) (client_sends s.out) =
          sum_append (letter_weight w.sched d) (w.from_client c) (client_sends s.out) in
          omega (arith, e, a, l)

      client_links : (d : ℕ → ℕ) → (client_core_weight w.sched d s.facts + sum_of (letter_weight w.sched d) (client_sends s.out)) + (2 * length (client_requested (Client c) w.requests s.out) + length qs) + 1
          ≤ client_core_weight w.sched d (w.clients c) + (2 * length w.requests + length w.answers) → links_weight d last + 1 ≤ links_weight d w
      unfolding links_weight worker_weight client_weight client_worked site
      client_links d l =
          let p = and_parts (nat_le 1 c) (nat_le c w.sched.setting.clients) there in
          let x : total (worker_weight d last) (all_workers w) ≤ total (worker_weight d w) (all_workers w) = total_at_most _ _ (all_workers w) (λ i. same_most _ _ refl) in
          let y : total (client_weight d last) (all_clients w) + (2 * length (client_requested (Client c) w.requests s.out) + length qs + 1) ≤ total (client_weight d w) (all_clients w) + (2 * length w.requests + length w.answers) =
          total_trade _ _ (2 * length (client_requested (Client c) w.requests s.out) + length qs + 1) (2 * length w.requests + length w.answers) c 1 w.sched.setting.clients
          (λ y o. same_most _ _ (ap (λ b. site d b y) o)) (at_client d l) (leb-true 1 c p.0) (let z : c ≤ w.sched.setting.clients = leb-true c w.sched.setting.clients p.1 in omega arith) in
          omega arith

      pub client_gather_falls : Falls w (client_worked waiting c s)
      unfolding client_worked
      client_gather_falls = falls w (client_worked waiting c s) refl client_turn_disturbs (client_links (deaths w.sched (disturbances w)) less)
