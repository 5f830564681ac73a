-- A worker takes a message: what its turn must weigh for the measure to fall.
use Rattle.std.proofs.Common.{◌≡◌, ℕ, ◌+◌, ◌*◌, ◌≤◌, true, ◌||◌, List, [], ◌∷◌, ◌++◌, length, refl, ap, ◌∙◌, arith, append_assoc, map}
use Rattle.cluster_msgs.specs.declared.messages.Down.{Down}
use Rattle.cluster_msgs.specs.declared.messages.Up.{Up}
use Rattle.cluster_msgs.specs.declared.messages.Up.TheVariants.{RequestRefreshWhoHas}
use Rattle.cluster_msgs.specs.declared.cores.Instruction.{Instruction}
use Rattle.cluster_msgs.specs.declared.cores.Instruction.TheVariants.{Send}
use Rattle.cluster_msgs.specs.declared.events.Asker.TheVariants.{Worker}
use Rattle.cluster_rules.specs.Functions.{total}
use Rattle.cluster_rules.specs.Derived.{is_in}
use Rattle.cluster_rules.specs.Sched.{Facts}
use Rattle.cluster_rules.specs.Worker.{Ask, ask_to, WorkerFacts, flying, awaited, wstate, used}
use Rattle.cluster_rules.specs.WorkerStep.{WorkerStep, taken, unasked_keys, seek_missing}
use Rattle.cluster_rules.specs.WorkerKept.{IsKept}
use Rattle.cluster_rules.specs.World.{World, Parcel, is_connected}
use Rattle.cluster_rules.specs.WorldStep.{sends, requested, worked}
use Rattle.quiet_measure.specs.Weights.{sum_of, question, core_weight, down_weight, up_weight}
use Rattle.quiet_measure.specs.Measure.{missed_in, up_disturbs, disturbances, deaths, links_weight, Falls}
use Rattle.quiet_measure.proofs.Sums.{sum_append}
use Rattle.quiet_measure.proofs.Falling.{same_most, falls}
use Rattle.quiet_measure.proofs.Turn.{after, disturbs_less, links_less, popped, popped_disturbs, popped_links}
use Rattle.quiet_measure.proofs.Start.{asks_nothing, asked_apart}
use Rattle.quiet_measure.proofs.Asked.{sends_append, asking_weight, asking_calm, asking_requests}
use Rattle.quiet_measure.proofs.KeyByKey.{whole, whole_is}

-- none of these asks a peer
pub record AsksNoPeer (outs : List Instruction) : Type 0 where
  pub same : (i : ℕ) (qs : List Parcel) (is : List Instruction) → requested (Worker i) qs (outs ++ is) ≡ requested (Worker i) qs is

pub no_peer : AsksNoPeer []
no_peer = record { same = λ i qs is. refl }

pub no_peers : (xs ys : List Instruction) → AsksNoPeer xs → AsksNoPeer ys → AsksNoPeer (xs ++ ys)
no_peers xs ys h g = record { same = λ i qs is. ap (requested (Worker i) qs) (append_assoc xs ys is) ∙ h.same i qs (ys ++ is) ∙ g.same i qs is }

-- what the worker's turn ends with
abbrev pub asking : ℕ → List ℕ → List Instruction
asking seen ks = map (λ k. Send (RequestRefreshWhoHas seen k)) ks

pub split : (g : Up → ℕ) (outs : List Instruction) (seen : ℕ) (ks : List ℕ) → sum_of g (sends (outs ++ asking seen ks)) ≡ sum_of g (sends outs) + sum_of g (sends (asking seen ks))
split g outs seen ks = ap (sum_of g) (sends_append outs (asking seen ks)) ∙ sum_append g (sends outs) (sends (asking seen ks))

-- a message is taken
pub taken_weight : (f : Facts) (d : ℕ → ℕ) (w : WorkerFacts) → core_weight f d (taken w) ≡ core_weight f d w
unfolding core_weight awaited flying
taken_weight f d w = refl

pub taken_asks : (w : WorkerFacts) → IsKept w → unasked_keys (taken w) ≡ []
unfolding wstate awaited flying used
taken_asks w kept = asks_nothing w (taken w) kept refl (λ q. refl) (λ q h. h)

pub whole_taken : (f : Facts) (d : ℕ → ℕ) (w : WorkerFacts) → IsKept w → whole f d (taken w) ≡ core_weight f d w
whole_taken f d w kept =
    let e : core_weight f d (taken w) + total (question d) (unasked_keys (taken w)) ≡ whole f d (taken w) = whole_is f d (taken w) in
    let z : total (question d) (unasked_keys (taken w)) ≡ 0 = ap (total (question d)) (taken_asks w kept) in
    let c : core_weight f d (taken w) ≡ core_weight f d w = taken_weight f d w in
    omega arith

module _ (w : World) (i : ℕ) (m : Down) (ms : List Down) (e : w.down i ≡ m ∷ ms) (alive : w.alive i ≡ true) (there : is_connected w i ≡ true) (low : 1 ≤ i) (high : i ≤ w.sched.last_worker) where
  abbrev pub P : World
  P = popped w i m ms e

  module _ (s : WorkerStep) (asks : s.facts.asks ≡ (w.workers i).asks) (alone : AsksNoPeer s.out) (calm : sum_of (up_disturbs P i) (sends s.out) ≡ 0)
      (less : (d : ℕ → ℕ) → (whole w.sched d s.facts + sum_of (up_weight w.sched d) (sends s.out)) + 1 ≤ core_weight w.sched d (w.workers i) + down_weight w.sched d i m) where
    ks : List ℕ
    ks = unasked_keys s.facts

    calms : sum_of (up_disturbs P i) (sends (seek_missing s).out) ≡ 0
    calms =
        let a : sum_of (up_disturbs P i) (sends (asking s.facts.seen (unasked_keys s.facts))) ≡ 0 = asking_calm P i s.facts.seen (unasked_keys s.facts) in
        let b : sum_of (up_disturbs P i) (sends (seek_missing s).out) ≡ sum_of (up_disturbs P i) (sends s.out) + sum_of (up_disturbs P i) (sends (asking s.facts.seen (unasked_keys s.facts))) =
        split (up_disturbs P i) s.out s.facts.seen (unasked_keys s.facts) in
        omega (arith, calm, a, b)

    weighs : (d : ℕ → ℕ) → (core_weight w.sched d (seek_missing s).facts + sum_of (up_weight w.sched d) (sends (seek_missing s).out)) + 2 * length (after P i (seek_missing s)).requests + 1
        ≤ (core_weight w.sched d (w.workers i) + 2 * length w.requests) + down_weight w.sched d i m
    unfolding worked
    weighs d =
        let c : core_weight w.sched d (seek_missing s).facts ≡ core_weight w.sched d s.facts = asked_apart w.sched d s.facts (λ q. s.facts.asked q || is_in q (unasked_keys s.facts)) in
        let u : sum_of (up_weight w.sched d) (sends (seek_missing s).out) ≡ sum_of (up_weight w.sched d) (sends s.out) + sum_of (up_weight w.sched d) (sends (asking s.facts.seen (unasked_keys s.facts))) =
        split (up_weight w.sched d) s.out s.facts.seen (unasked_keys s.facts) in
        let v : sum_of (up_weight w.sched d) (sends (asking s.facts.seen (unasked_keys s.facts))) ≡ total (question d) (unasked_keys s.facts) = asking_weight w.sched d s.facts.seen (unasked_keys s.facts) in
        let t : core_weight w.sched d s.facts + total (question d) (unasked_keys s.facts) ≡ whole w.sched d s.facts = whole_is w.sched d s.facts in
        let r : length (after P i (seek_missing s)).requests ≡ length w.requests =
        ap length (alone.same i w.requests (asking s.facts.seen (unasked_keys s.facts)) ∙ asking_requests w.requests i s.facts.seen (unasked_keys s.facts)) in
        let l : (whole w.sched d s.facts + sum_of (up_weight w.sched d) (sends s.out)) + 1 ≤ core_weight w.sched d (w.workers i) + down_weight w.sched d i m = less d in
        omega (arith, c, u, v, t, r, l)

    pub turn_falls : Falls w (worked P i (seek_missing s))
    unfolding worked
    turn_falls = falls w (worked P i (seek_missing s)) refl
        (let l : disturbances (worked P i (seek_missing s)) ≤ disturbances P = disturbs_less P i (seek_missing s) calms (λ q p. same_most _ _ (ap (λ (l : List Ask). missed_in P q (ask_to l p)) asks)) in
        omega (arith, l, popped_disturbs w i m ms e))
        (let d : ℕ → ℕ = deaths w.sched (disturbances w) in
        let l : links_weight d (worked P i (seek_missing s)) + 1 ≤ links_weight d P + down_weight w.sched d i m = links_less P i (seek_missing s) d (down_weight w.sched d i m) alive there low high (weighs d) in
        let p : links_weight d P + down_weight w.sched d i m ≤ links_weight d w = popped_links w i m ms e d alive there low high in
        omega (arith, l, p))
