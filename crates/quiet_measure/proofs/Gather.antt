-- A worker asks a peer, or takes what came of an ask: what its turn must weigh for the measure to fall.
use Rattle.std.proofs.Common.{◌≡◌, ℕ, ◌+◌, ◌*◌, ◌-◌, ◌≤◌, Bool, true, false, cond, ◌||◌, List, [], ◌∷◌, ◌++◌, length, Option, Some, None, refl, ap, ◌∙◌, arith}
use Rattle.std.proofs.Math.Dec.{eqb}
use Rattle.std.proofs.lemmas.Bool.{eq-eqb}
use Rattle.cluster_msgs.specs.declared.messages.Up.{Up}
use Rattle.cluster_msgs.specs.declared.messages.Up.TheVariants.{TaskFinished, TaskErred, AddKeys, ReleaseWorkerData, MissingData, RequestRefreshWhoHas, StealResponse}
use Rattle.cluster_msgs.specs.declared.messages.FromClient.{FromClient as ClientMessage}
use Rattle.cluster_msgs.specs.declared.messages.FromClient.TheVariants.{Want, Release, Missing}
use Rattle.cluster_msgs.specs.declared.cores.Instruction.{Instruction}
use Rattle.cluster_msgs.specs.declared.cores.Instruction.TheVariants.{Send, Execute, Gather, Keep, Drop}
use Rattle.cluster_msgs.specs.declared.events.Asker.{Asker}
use Rattle.cluster_msgs.specs.declared.events.Asker.TheVariants.{Worker, Client}
use Rattle.cluster_rules.specs.Functions.{total}
use Rattle.cluster_rules.specs.Derived.{is_in}
use Rattle.cluster_rules.specs.Worker.{Ask, ask_to, WorkerFacts}
use Rattle.cluster_rules.specs.WorkerStep.{WorkerStep, unasked_keys, seek_missing}
use Rattle.cluster_rules.specs.WorkerKept.{IsKept}
use Rattle.cluster_rules.specs.World.{World, Parcel, all_workers, all_clients, is_connected, open_ask, with_parcel}
use Rattle.cluster_rules.specs.WorldStep.{sends, requested, worked}
use Rattle.quiet_measure.specs.Weights.{sum_of, question, core_weight, up_weight}
use Rattle.quiet_measure.specs.Measure.{missed_in, up_disturbs, death_disturbs, letter_disturbs, worker_disturbs, client_disturbs, answer_disturbs, disturbances, deaths, worker_weight, client_weight, links_weight, Falls}
use Rattle.quiet_measure.proofs.Sums.{total_at_most, sum_at_most, sum_append, total_gain}
use Rattle.quiet_measure.proofs.Falling.{falls}
use Rattle.quiet_measure.proofs.Turn.{after, up_less, letter_less, missed_less, links_less}
use Rattle.quiet_measure.proofs.Start.{asked_apart, asks_nothing}
use Rattle.quiet_measure.proofs.Asked.{asking_weight, asking_calm, asking_requests}
use Rattle.quiet_measure.proofs.KeyByKey.{whole, whole_is}
use Rattle.quiet_measure.proofs.Told.{asking, split}

pub requested_both : (a : Asker) (qs : List Parcel) (xs ys : List Instruction) → requested a qs (xs ++ ys) ≡ requested a (requested a qs xs) ys
requested_both a qs [] ys = refl
requested_both a qs (Gather p n ks ∷ xs) ys = requested_both a (with_parcel (record { asker = a; peer = p; ask = n; keys = ks }) qs) xs ys
requested_both a qs (Send m ∷ xs) ys = requested_both a qs xs ys
requested_both a qs (Execute k ∷ xs) ys = requested_both a qs xs ys
requested_both a qs (Keep k ∷ xs) ys = requested_both a qs xs ys
requested_both a qs (Drop k ∷ xs) ys = requested_both a qs xs ys

-- a worker that was asked about everything has no more than it knows and does
pub whole_kept : (w : WorkerFacts) → IsKept w → unasked_keys w ≡ []
whole_kept w kept = asks_nothing w w kept refl (λ q. refl) (λ q h. h)

module _ (w : World) (i : ℕ) (s : WorkerStep) (qs : List Parcel) where
  abbrev pub waiting : World
  waiting = record w { answers = qs }

  abbrev pub then_asks : Asker → ℕ → Option Ask
  then_asks (Worker x) p = ask_to (cond (eqb x i) (seek_missing s).facts (w.workers x)).asks p
  then_asks (Client c) p = ask_to (w.clients c).asks p

  abbrev last : World
  last = worked waiting i (seek_missing s)

  up_apart : (x : ℕ) (m : Up) → up_disturbs waiting x m ≡ up_disturbs w x m
  up_apart x (ReleaseWorkerData seen k) = refl
  up_apart x (MissingData seen k p c) = refl
  up_apart x (TaskFinished seen k a) = refl
  up_apart x (AddKeys seen ks) = refl
  up_apart x (TaskErred seen k a) = refl
  up_apart x (RequestRefreshWhoHas seen k) = refl
  up_apart x (StealResponse seen k a agreed) = refl

  letters : (m : ClientMessage) → letter_disturbs last m ≤ letter_disturbs w m
  letters m = let a : letter_disturbs last m ≤ letter_disturbs waiting m = letter_less waiting i (seek_missing s) m in omega (arith, a, apart m)
    where
      apart : (m : ClientMessage) → letter_disturbs waiting m ≡ letter_disturbs w m
      apart (Want ks) = refl
      apart (Release ks) = refl
      apart (Missing k x c) = refl

  ups : (x : ℕ) (m : Up) → up_disturbs last x m ≤ up_disturbs w x m
  ups x m = let a : up_disturbs last x m ≤ up_disturbs waiting x m = up_less waiting i (seek_missing s) x m in omega (arith, a, up_apart x m)

  missed_apart : (q : Parcel) (o : Option Ask) → missed_in waiting q o ≡ missed_in w q o
  missed_apart q None = refl
  missed_apart q (Some a) = refl

  module _ (calm : sum_of (up_disturbs w i) (sends s.out) + sum_of (λ (q : Parcel). missed_in w q (then_asks q.asker q.peer)) qs ≤ sum_of (λ (q : Parcel). missed_in w q (open_ask w q.asker q.peer)) w.answers) where
    news : ℕ
    news = sum_of (up_disturbs w i) (sends s.out)

    sent : sum_of (up_disturbs w i) (sends (seek_missing s).out) ≡ sum_of (up_disturbs w i) (sends s.out)
    sent =
        let a : sum_of (up_disturbs w i) (sends (asking s.facts.seen (unasked_keys s.facts))) ≡ 0 = asking_calm w i s.facts.seen (unasked_keys s.facts) in
        let b : sum_of (up_disturbs w i) (sends (seek_missing s).out) ≡ sum_of (up_disturbs w i) (sends s.out) + sum_of (up_disturbs w i) (sends (asking s.facts.seen (unasked_keys s.facts))) =
        split (up_disturbs w i) s.out s.facts.seen (unasked_keys s.facts) in
        omega (arith, a, b)

    part : Bool → ℕ → ℕ
    part b x = sum_of (up_disturbs last x) (cond b (w.up i ++ sends (seek_missing s).out) (w.up x)) + death_disturbs w x

    where_more : (b : Bool) (n m k : ℕ) → n ≤ m + k → cond b n 0 ≤ cond b m 0 + k
    where_more true n m k l = l
    where_more false n m k l = omega arith

    other : (x : ℕ) → eqb x i ≡ false → worker_disturbs last x ≤ worker_disturbs w x
    unfolding worker_disturbs worked part
    other x o =
        let u : sum_of (up_disturbs last x) (w.up x) ≤ sum_of (up_disturbs w x) (w.up x) = sum_at_most _ _ (w.up x) (ups x) in
        let e : part (eqb x i) x ≡ sum_of (up_disturbs last x) (w.up x) + death_disturbs w x = ap (λ b. part b x) o in
        let l : cond (is_connected w x) (part (eqb x i) x) 0 ≤ cond (is_connected w x) (sum_of (up_disturbs w x) (w.up x) + death_disturbs w x) 0 + 0 = where_more (is_connected w x) _ _ 0 (omega (arith, e, u)) in
        omega (arith, l)

    here : worker_disturbs last i ≤ worker_disturbs w i + sum_of (up_disturbs w i) (sends s.out)
    unfolding worker_disturbs worked part
    here =
        let a : sum_of (up_disturbs last i) (w.up i ++ sends (seek_missing s).out) ≡ sum_of (up_disturbs last i) (w.up i) + sum_of (up_disturbs last i) (sends (seek_missing s).out) =
        sum_append (up_disturbs last i) (w.up i) (sends (seek_missing s).out) in
        let u : sum_of (up_disturbs last i) (w.up i) ≤ sum_of (up_disturbs w i) (w.up i) = sum_at_most _ _ (w.up i) (ups i) in
        let v : sum_of (up_disturbs last i) (sends (seek_missing s).out) ≤ sum_of (up_disturbs w i) (sends (seek_missing s).out) = sum_at_most _ _ (sends (seek_missing s).out) (ups i) in
        let e : part (eqb i i) i ≡ sum_of (up_disturbs last i) (w.up i ++ sends (seek_missing s).out) + death_disturbs w i = ap (λ b. part b i) (eq-eqb i i refl) in
        where_more (is_connected w i) (part (eqb i i) i) (sum_of (up_disturbs w i) (w.up i) + death_disturbs w i) (sum_of (up_disturbs w i) (sends s.out)) (omega (arith, a, u, v, e, sent))

    answer_less : (q : Parcel) → answer_disturbs last q ≤ missed_in w q (then_asks q.asker q.peer)
    unfolding answer_disturbs worked
    answer_less q = by q.asker
      where
        less : (o : Option Ask) → missed_in last q o ≤ missed_in w q o
        less o = let a : missed_in last q o ≤ missed_in waiting q o = missed_less waiting i (seek_missing s) q o in omega (arith, a, missed_apart q o)

        by : (a : Asker) → missed_in last q (open_ask last a q.peer) ≤ missed_in w q (then_asks a q.peer)
        by (Worker x) = less (ask_to (cond (eqb x i) (seek_missing s).facts (w.workers x)).asks q.peer)
        by (Client c) = less (ask_to (w.clients c).asks q.peer)

    gather_disturbs : disturbances last ≤ disturbances w
    unfolding disturbances client_disturbs answer_disturbs worked
    gather_disturbs =
        let x : total (worker_disturbs last) (all_workers w) ≤ total (worker_disturbs w) (all_workers w) + sum_of (up_disturbs w i) (sends s.out) =
        total_gain (worker_disturbs last) (worker_disturbs w) (sum_of (up_disturbs w i) (sends s.out)) i 1 w.sched.last_worker (λ y l o. other y o) here in
        let y : total (client_disturbs last) (all_clients w) ≤ total (client_disturbs w) (all_clients w) = total_at_most _ _ (all_clients w) (λ c. sum_at_most _ _ (w.from_client c) letters) in
        let z : sum_of (answer_disturbs last) qs ≤ sum_of (λ (q : Parcel). missed_in w q (then_asks q.asker q.peer)) qs = sum_at_most _ _ qs answer_less in
        omega (arith, x, y, z, calm)

    module _ (alive : w.alive i ≡ true) (there : is_connected w i ≡ true) (low : 1 ≤ i) (high : i ≤ w.sched.last_worker) (fit : length qs ≤ length w.answers)
        (less : (whole w.sched (deaths w.sched (disturbances w)) s.facts + sum_of (up_weight w.sched (deaths w.sched (disturbances w))) (sends s.out)) + (2 * length (requested (Worker i) w.requests s.out) + length qs) + 1
        ≤ core_weight w.sched (deaths w.sched (disturbances w)) (w.workers i) + (2 * length w.requests + length w.answers)) where
      weighs : (d : ℕ → ℕ) → (whole w.sched d s.facts + sum_of (up_weight w.sched d) (sends s.out)) + (2 * length (requested (Worker i) w.requests s.out) + length qs) + 1 ≤ core_weight w.sched d (w.workers i) + (2 * length w.requests + length w.answers)
          → (core_weight w.sched d (seek_missing s).facts + sum_of (up_weight w.sched d) (sends (seek_missing s).out)) + 2 * length (after waiting i (seek_missing s)).requests + 1
          ≤ (core_weight w.sched d (w.workers i) + 2 * length w.requests) + (length w.answers - length qs)
      unfolding worked
      weighs d l =
          let c : core_weight w.sched d (seek_missing s).facts ≡ core_weight w.sched d s.facts = asked_apart w.sched d s.facts (λ q. s.facts.asked q || is_in q (unasked_keys s.facts)) in
          let u : sum_of (up_weight w.sched d) (sends (seek_missing s).out) ≡ sum_of (up_weight w.sched d) (sends s.out) + sum_of (up_weight w.sched d) (sends (asking s.facts.seen (unasked_keys s.facts))) =
          split (up_weight w.sched d) s.out s.facts.seen (unasked_keys s.facts) in
          let v : sum_of (up_weight w.sched d) (sends (asking s.facts.seen (unasked_keys s.facts))) ≡ total (question d) (unasked_keys s.facts) = asking_weight w.sched d s.facts.seen (unasked_keys s.facts) in
          let t : core_weight w.sched d s.facts + total (question d) (unasked_keys s.facts) ≡ whole w.sched d s.facts = whole_is w.sched d s.facts in
          let r : length (after waiting i (seek_missing s)).requests ≡ length (requested (Worker i) w.requests s.out) =
          ap length (requested_both (Worker i) w.requests s.out (asking s.facts.seen (unasked_keys s.facts)) ∙ asking_requests (requested (Worker i) w.requests s.out) i s.facts.seen (unasked_keys s.facts)) in
          omega (arith, c, u, v, t, r, l, fit)

      links_apart : (d : ℕ → ℕ) → links_weight d waiting + length w.answers ≡ links_weight d w + length qs
      unfolding links_weight worker_weight client_weight
      links_apart d = omega arith

      pub gather_falls : Falls w (worked waiting i (seek_missing s))
      unfolding worked
      gather_falls = falls w (worked waiting i (seek_missing s)) refl gather_disturbs
          (let d : ℕ → ℕ = deaths w.sched (disturbances w) in
          let l : links_weight d (worked waiting i (seek_missing s)) + 1 ≤ links_weight d waiting + (length w.answers - length qs) = links_less waiting i (seek_missing s) d (length w.answers - length qs) alive there low high (weighs d less) in
          omega (arith, l, links_apart d, fit))
