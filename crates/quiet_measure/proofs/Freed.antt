-- Keys that a worker is to free.
use Rattle.std.proofs.Common.{◌≡◌, ℕ, ◌+◌, ◌≤◌, Bool, true, false, cond, not, ◌&&◌, List, [], ◌∷◌, ◌++◌, None, refl, sym, ap, ◌∙◌, subst, arith, is_some}
use Rattle.std.proofs.Math.Dec.{eqb}
use Rattle.std.proofs.lemmas.Bool.{false≢true, eq-eqb}
use Rattle.cluster_msgs.specs.declared.messages.Down.{Down}
use Rattle.cluster_msgs.specs.declared.messages.Down.TheVariants.{FreeKeys}
use Rattle.cluster_msgs.specs.declared.cores.Instruction.{Instruction}
use Rattle.cluster_msgs.specs.declared.cores.Instruction.TheVariants.{Drop}
use Rattle.cluster_rules.specs.Functions.{total}
use Rattle.cluster_rules.specs.Sched.{Facts}
use Rattle.cluster_rules.specs.Worker.{WorkerFacts}
use Rattle.cluster_rules.specs.WorkerStep.{WorkerStep, quiet, after_out, each_key, taken, free_key, take_down, worker_row, worker_step}
use Rattle.cluster_rules.specs.World.{World}
use Rattle.cluster_rules.specs.WorldStep.{sends, take_down_first, world_step}
use Rattle.quiet_measure.specs.Weights.{sum_of, question, task_weight, core_weight, up_weight, is_sought}
use Rattle.quiet_measure.specs.Measure.{up_disturbs, Falls}
use Rattle.quiet_measure.specs.Turns.{IsFirst, FreeFalls}
use Rattle.quiet_measure.proofs.Asked.{sends_append}
use Rattle.quiet_measure.proofs.KeyByKey.{whole, worth, seeks, seek_none, is_bare, AgreesAt, FewerPending, tasks_less, agree_worth, whole_gain}
use Rattle.quiet_measure.proofs.Told.{AsksNoPeer, no_peer, no_peers, P, turn_falls, whole_taken}

-- only blocks are dropped
pub record IsSilent (outs : List Instruction) : Type 0 where
  pub sends : sends outs ≡ []
  pub alone : AsksNoPeer outs

pub silent_none : IsSilent []
silent_none = record { sends = refl; alone = no_peer }

pub silent_both : (xs ys : List Instruction) → IsSilent xs → IsSilent ys → IsSilent (xs ++ ys)
silent_both xs ys h g = record { sends = sends_append xs ys ∙ ap (λ l. l ++ sends ys) h.sends ∙ g.sends; alone = no_peers xs ys h.alone g.alone }

pub silent_drop : (k : ℕ) → IsSilent (Drop k ∷ [])
silent_drop k = record { sends = refl; alone = record { same = λ i qs is. refl } }

module _ (f : Facts) (d : ℕ → ℕ) where
  freed_whole : (w : WorkerFacts) (k : ℕ) → whole f d (free_key w k).facts ≤ whole f d w + question d k
  freed_whole w k = whole_gain f d w v refl k (question d k) refl (λ q o. agree_worth f d w v q refl refl fewer (agrees q o)) here
    where
      v : WorkerFacts
      v = (free_key w k).facts

      fewer : FewerPending w (free_key w k).facts
      fewer j e = by (eqb j k) e
        where
          by : (b : Bool) → (is_some (cond b None (w.mine j)) && not (w.running j)) ≡ true → (is_some (w.mine j) && not (w.running j)) ≡ true
          by true x = absurd (false≢true x)
          by false x = x

      agrees : (q : ℕ) → eqb q k ≡ false → AgreesAt w (free_key w k).facts q
      agrees q o = record {
        mem = ap (λ b. cond b false (w.mem q)) o;
        sought = ap (λ b. cond b false (w.sought q)) o;
        running = refl;
        mine = ap (λ b. cond b None (w.mine q)) o;
        asked = ap (λ b. cond b false (w.asked q)) o;
        holders = ap (λ b. cond b [] (w.holders q)) o;
      }

      here : worth f d (free_key w k).facts k ≤ worth f d w k + question d k
      here =
          let t : task_weight d (free_key w k).facts k ≤ task_weight d w k = tasks_less d w (free_key w k).facts k (fewer k) refl in
          let s : seeks f d (free_key w k).facts k ≤ question d k = seek_none f d k (is_sought (free_key w k).facts k) (is_bare (free_key w k).facts k) _ (ap (λ b. cond b [] (w.holders k)) (eq-eqb k k refl)) in
          omega arith

  freed_all : (s : WorkerStep) (ks : List ℕ) → whole f d (each_key free_key s ks).facts ≤ whole f d s.facts + total (question d) ks
  freed_all s [] = omega arith
  freed_all s (k ∷ ks) =
      let r : whole f d (each_key free_key (after_out s.out (free_key s.facts k)) ks).facts ≤ whole f d (free_key s.facts k).facts + total (question d) ks = freed_all (after_out s.out (free_key s.facts k)) ks in
      let l : whole f d (free_key s.facts k).facts ≤ whole f d s.facts + question d k = freed_whole s.facts k in
      omega arith

freed_silent : (s : WorkerStep) (ks : List ℕ) → IsSilent s.out → IsSilent (each_key free_key s ks).out
freed_silent s [] h = h
freed_silent s (k ∷ ks) h = freed_silent (after_out s.out (free_key s.facts k)) ks (silent_both s.out (cond (s.facts.mem k) (Drop k ∷ []) []) h (by (s.facts.mem k)))
  where
    by : (b : Bool) → IsSilent (cond b (Drop k ∷ []) [])
    by true = silent_drop k
    by false = silent_none

freed_asks : (s : WorkerStep) (ks : List ℕ) → (each_key free_key s ks).facts.asks ≡ s.facts.asks
freed_asks s [] = refl
freed_asks s (k ∷ ks) = freed_asks (after_out s.out (free_key s.facts k)) ks

module _ (w : World) (i : ℕ) (ks : List ℕ) (ms : List Down) (h : IsFirst w i (FreeKeys ks) ms) where
  abbrev step : WorkerStep
  step = each_key free_key (quiet (taken (w.workers i))) ks

  freed_falls : Falls w (take_down_first w i (FreeKeys ks ∷ ms))
  unfolding worker_step worker_row take_down
  freed_falls = turn_falls w i (FreeKeys ks) ms h.first h.alive h.there (h.sound.numbers i h.there).0 (h.sound.numbers i h.there).1 step (freed_asks (quiet (taken (w.workers i))) ks) silent.alone
      (ap (sum_of (up_disturbs (P w i (FreeKeys ks) ms h.first h.alive h.there (h.sound.numbers i h.there).0 (h.sound.numbers i h.there).1) i)) silent.sends) less
    where
      silent : IsSilent (each_key free_key (quiet (taken (w.workers i))) ks).out
      silent = freed_silent (quiet (taken (w.workers i))) ks silent_none

      less : (d : ℕ → ℕ) → (whole w.sched d (each_key free_key (quiet (taken (w.workers i))) ks).facts + sum_of (up_weight w.sched d) (sends (each_key free_key (quiet (taken (w.workers i))) ks).out)) + 1 ≤ core_weight w.sched d (w.workers i) + (1 + total (question d) ks)
      less d =
          let a : whole w.sched d (each_key free_key (quiet (taken (w.workers i))) ks).facts ≤ whole w.sched d (taken (w.workers i)) + total (question d) ks = freed_all w.sched d (quiet (taken (w.workers i))) ks in
          let b : whole w.sched d (taken (w.workers i)) ≡ core_weight w.sched d (w.workers i) = whole_taken w.sched d (w.workers i) h.kept in
          let c : sum_of (up_weight w.sched d) (sends (each_key free_key (quiet (taken (w.workers i))) ks).out) ≡ 0 = ap (sum_of (up_weight w.sched d)) silent.sends in
          omega arith

pub free_falls : FreeFalls
unfolding world_step
free_falls j w i ks ms h = subst (λ (l : List Down). Falls w (take_down_first w i l)) (sym h.first) (freed_falls w i ks ms h)
