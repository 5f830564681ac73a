-- ServeGather lowers the measure.
use Rattle.std.proofs.Common.{◌≡◌, ℕ, suc, ◌+◌, ◌≤◌, ◌<◌, Bool, true, false, cond, not, ◌&&◌, ◌||◌, List, [], ◌∷◌, length, Option, Some, None, refl, sym, ap, ◌∙◌, subst, arith, filter, find, is_some, ◌⊎◌, inl, inr}
use Rattle.std.proofs.Math.Dec.{eqb}
use Rattle.std.specs.Prelude.{nat_le}
use Rattle.std.specs.List.{list_any, AllByRecursion}
use Rattle.std.proofs.lemmas.Bool.{and_parts, true≢false, false≢true, eqb-true, cases_lt}
use Rattle.cluster_msgs.specs.declared.messages.Up.{Up}
use Rattle.cluster_msgs.specs.declared.messages.Up.TheVariants.{TaskFinished, TaskErred, AddKeys, ReleaseWorkerData, MissingData, RequestRefreshWhoHas, StealResponse}
use Rattle.cluster_msgs.specs.declared.events.Asker.{Asker}
use Rattle.cluster_rules.specs.Functions.{total}
use Rattle.cluster_rules.specs.Derived.{is_in}
use Rattle.cluster_rules.specs.Sched.{Facts, IsSound, keys, holds}
use Rattle.cluster_rules.specs.Worker.{Ask}
use Rattle.cluster_rules.specs.WorkerStep.{keys_of}
use Rattle.cluster_rules.specs.World.{Job, same_asker, World, Parcel, all_workers, all_clients, open_ask, parcel_before, with_parcel, is_parcel, parcel_of, without_parcel}
use Rattle.cluster_rules.specs.WorldStep.{serve, world_step}
use Rattle.cluster_rules.specs.Enabled.{enabled}
use Rattle.cluster_msgs.specs.declared.events.Event.TheVariants.{ServeGather}
use Rattle.cluster_rules.proofs.InsideSched.{all_found}
use Rattle.small_facts.proofs.Options.{find_passes}
use Rattle.safety_laws.proofs.Lively.{same_asker_is}
use Rattle.cluster_rules.proofs.WorkerLemmas.{filter_in}
use Rattle.std.proofs.Math.Bool.{or-true}
use Rattle.std.proofs.lemmas.Bool.{eq-eqb}
use Rattle.pair_machine.specs.Pair.{Note, Task, Free, Remove, Other, Finished, Erred, Gave, Declined, Added, Released, Quiet, is_at, heard, view, expect, IsPair}
use Rattle.pair_machine.specs.Pair.{Ask as AskBack}
use Rattle.pair_moves.specs.Projection.{report_of, reports, notes, at_worker}
use Rattle.safety_laws.specs.Joint.{pair_at, IsPaired}
use Rattle.quiet_measure.specs.Weights.{bit, sum_of, is_current}
use Rattle.quiet_measure.specs.Measure.{counts_loss, is_doomed, is_wrongful, is_missed, missed_in, worker_disturbs, client_disturbs, answer_disturbs, disturbances, deaths, worker_weight, client_weight, links_weight}
use Rattle.quiet_measure.specs.Asks.{IsOfAsk}
use Rattle.quiet_measure.specs.Measure.{Falls}
use Rattle.quiet_measure.proofs.Sums.{total_at_most, sum_at_most}
use Rattle.quiet_measure.proofs.Falling.{same_most, falls}

-- ## A copy that isn't there is one whose loss is under way

-- no message from the scheduler brings a block
expect_none : (ns : List Note) (o : Option ℕ) → (expect ns (false, o)).0 ≡ false
expect_none [] o = refl
expect_none (Task a ∷ ns) o = expect_none ns (Some a)
expect_none (Free ∷ ns) o = expect_none ns None
expect_none (Remove ∷ ns) o = expect_none ns None
expect_none (AskBack a ∷ ns) o = expect_none ns o
expect_none (Other ∷ ns) o = expect_none ns o

module _ (f : Facts) (x k : ℕ) where
  -- a message after which the worker still counts as a holder, or that takes the copy
  one_loss : (m : Up) (o : Option ℕ) → (counts_loss f x k m ≡ true → ⊥) → (p : Option ℕ) × (heard (f.fence x k) (report_of k m) (true, o) ≡ (true, p))
  one_loss (TaskFinished seen q a) o n = pick (eqb q k) (is_at a o)
    where
      pick : (b c : Bool) → (p : Option ℕ) × (heard (f.fence x k) (cond b (Finished a) Quiet) (true, o) ≡ (true, p))
      pick true c = choose (is_at a o)
        where
          choose : (c : Bool) → (p : Option ℕ) × (◌≡◌ {A = Bool × Option ℕ} (cond c (true, None) (true, o)) (true, p))
          choose true = (None, refl)
          choose false = (o, refl)
      pick false c = (o, refl)
  one_loss (TaskErred seen q a) o n = pick (eqb q k)
    where
      choose : (c : Bool) → (p : Option ℕ) × (◌≡◌ {A = Bool × Option ℕ} (cond c (true, None) (true, o)) (true, p))
      choose true = (None, refl)
      choose false = (o, refl)

      pick : (b : Bool) → (p : Option ℕ) × (heard (f.fence x k) (cond b (Erred a) Quiet) (true, o) ≡ (true, p))
      pick true = choose (is_at a o)
      pick false = (o, refl)
  one_loss (AddKeys seen ks) o n = pick (is_in k ks)
    where
      pick : (b : Bool) → (p : Option ℕ) × (heard (f.fence x k) (cond b (Added seen) Quiet) (true, o) ≡ (true, p))
      pick true = (o, refl)
      pick false = (o, refl)
  one_loss (ReleaseWorkerData seen q) o n = pick (eqb q k) (nat_le (f.fence x k) seen) n
    where
      kept : (c : Bool) → (c ≡ true → ⊥) → (p : Option ℕ) × (◌≡◌ {A = Bool × Option ℕ} (not c, o) (true, p))
      kept true n = absurd (n refl)
      kept false n = (o, refl)

      pick : (b c : Bool) → ((b && nat_le (f.fence x k) seen) ≡ true → ⊥) → (p : Option ℕ) × (heard (f.fence x k) (cond b (Released seen) Quiet) (true, o) ≡ (true, p))
      pick true c n = kept (nat_le (f.fence x k) seen) n
      pick false c n = (o, refl)
  one_loss (MissingData seen q p c) o n = (o, refl)
  one_loss (RequestRefreshWhoHas seen q) o n = (o, refl)
  one_loss (StealResponse seen q a agreed) o n = pick (eqb q k) agreed
    where
      choose : (c : Bool) → (p : Option ℕ) × (◌≡◌ {A = Bool × Option ℕ} (cond c (true, None) (true, o)) (true, p))
      choose true = (None, refl)
      choose false = (o, refl)

      pick : (b c : Bool) → (p : Option ℕ) × (heard (f.fence x k) (cond b (cond c (Gave a) (Declined a)) Quiet) (true, o) ≡ (true, p))
      pick true true = choose (is_at a o)
      pick true false = (o, refl)
      pick false c = (o, refl)

  some_loss : (us : List Up) (o : Option ℕ) → (view (f.fence x k) (reports k us) (true, o)).0 ≡ false → list_any (counts_loss f x k) us ≡ true
  some_loss [] o e = absurd (true≢false e)
  some_loss (m ∷ us) o e = pick (counts_loss f x k m) refl (λ p. some_loss us p)
    where
      pick : (b : Bool) → counts_loss f x k m ≡ b → ((p : Option ℕ) → (view (f.fence x k) (reports k us) (true, p)).0 ≡ false → list_any (counts_loss f x k) us ≡ true)
          → (b || list_any (counts_loss f x k) us) ≡ true
      pick true c again = refl
      pick false c again = let r = one_loss m o (λ t. true≢false (sym t ∙ c)) in
          again r.0 (sym (ap (λ v. (view (f.fence x k) (reports k us) v).0) r.1) ∙ e)

no_copy : (c : ℕ) (o : Option ℕ) → Rattle.cluster_rules.specs.SchedTable.is_copy c o ≡ true → is_some o ≡ true
no_copy c None e = absurd (false≢true e)
no_copy c (Some d) e = refl

pub not_wrongful : (w : World) → IsSound w.sched → IsPaired w → (p k c : ℕ) → w.alive p ≡ true → (w.workers p).mem k ≡ false → is_wrongful w p k c ≡ false
not_wrongful w sound paired p k c a m = by (is_current w.sched p k c) refl
  where
    by : (b : Bool) → is_current w.sched p k c ≡ b → (b && not (is_doomed w p k)) ≡ false
    by false e = refl
    by true e = ap not (ap (λ x. not x || list_any (counts_loss w.sched p k) (w.up p)) a ∙ loss)
      where
        has : holds w.sched p k ≡ true
        has = no_copy c (w.sched.has p k) e

        there : k < keys w.sched
        there = pick (cases_lt k (keys w.sched))
          where
            none_is : (o : Option ℕ) → o ≡ None → is_some o ≡ true → ⊥
            none_is o n s = false≢true (ap is_some (sym n) ∙ s)

            pick : (k < keys w.sched) ⊎ (keys w.sched ≤ k) → k < keys w.sched
            pick (inl l) = l
            pick (inr l) = absurd (none_is (w.sched.has p k) (sound.has p k l) has)

        pair : IsPair (pair_at w p k)
        pair = paired p k there a (sound.holders p k has)

        gone : (view (w.sched.fence p k) (reports k (w.up p)) (true, at_worker p (w.sched.on k))).0 ≡ false
        gone = ap (λ b. (view (w.sched.fence p k) (reports k (w.up p)) (b, at_worker p (w.sched.on k))).0) (sym has)
            ∙ ap (λ (v : Bool × Option ℕ). v.0) pair.agree
            ∙ ap (λ b. (expect (notes k (w.down p)) (b, (w.workers p).mine k)).0) m
            ∙ expect_none (notes k (w.down p)) ((w.workers p).mine k)

        loss : list_any (counts_loss w.sched p k) (w.up p) ≡ true
        loss = some_loss w.sched p k (w.up p) (at_worker p (w.sched.on k)) gone

-- ## What is under way between askers and peers

sum_with : (g : Parcel → ℕ) (p : Parcel) (qs : List Parcel) → sum_of g (with_parcel p qs) ≡ g p + sum_of g qs
sum_with g p [] = refl
sum_with g p (q ∷ qs) = pick (parcel_before p q) (sum_with g p qs)
  where
    pick : (b : Bool) → sum_of g (with_parcel p qs) ≡ g p + sum_of g qs → sum_of g (cond b (p ∷ q ∷ qs) (q ∷ with_parcel p qs)) ≡ g p + (g q + sum_of g qs)
    pick true e = refl
    pick false e = omega arith

pub length_with : (p : Parcel) (qs : List Parcel) → length (with_parcel p qs) ≡ suc (length qs)
length_with p [] = refl
length_with p (q ∷ qs) = pick (parcel_before p q) (length_with p qs)
  where
    pick : (b : Bool) → length (with_parcel p qs) ≡ suc (length qs) → length (cond b (p ∷ q ∷ qs) (q ∷ with_parcel p qs)) ≡ suc (suc (length qs))
    pick true e = refl
    pick false e = ap suc e

pub length_filter : {A : Type 0} (t : A → Bool) (qs : List A) → length (filter t qs) ≤ length qs
length_filter t [] = omega arith
length_filter t (q ∷ qs) = pick (t q) (length_filter t qs)
  where
    pick : (b : Bool) → length (filter t qs) ≤ length qs → length (cond b (q ∷ filter t qs) (filter t qs)) ≤ suc (length qs)
    pick true l = omega arith
    pick false l = omega arith

-- a parcel that is there is taken away
pub length_without : {A : Type 0} (t : A → Bool) (qs : List A) (q : A) → find t qs ≡ Some q → length (filter (λ x. not (t x)) qs) + 1 ≤ length qs
length_without {A = A} t [] q e = absurd (none q e)
  where
    none : (q : A) → ◌≡◌ {A = Option A} None (Some q) → ⊥
    none q e = cc
length_without {A = A} t (x ∷ qs) q e = pick (t x) e (λ h. length_without t qs q h)
  where
    rest : length (filter (λ x. not (t x)) qs) ≤ length qs
    rest = length_filter (λ x. not (t x)) qs

    pick : (b : Bool) → cond b (Some x) (find t qs) ≡ Some q → (find t qs ≡ Some q → length (filter (λ x. not (t x)) qs) + 1 ≤ length qs)
        → length (cond (not b) (x ∷ filter (λ x. not (t x)) qs) (filter (λ x. not (t x)) qs)) + 1 ≤ suc (length qs)
    pick true h again = omega (arith, rest)
    pick false h again = let l : length (filter (λ x. not (t x)) qs) + 1 ≤ length qs = again h in omega arith

-- ## The event

sum_zero : {A : Type 0} (g : A → ℕ) (xs : List A) → AllByRecursion (λ x. g x ≡ 0) xs → sum_of g xs ≡ 0
sum_zero g [] h = refl
sum_zero g (x ∷ xs) h = let r : sum_of g xs ≡ 0 = sum_zero g xs h.1 in let z : g x ≡ 0 = h.0 in omega arith

module _ (w : World) (sound : IsSound w.sched) (paired : IsPaired w) (q : Parcel) (a : w.alive q.peer ≡ true) (own : IsOfAsk w q) where
  abbrev pub served : Parcel
  served = record q { keys = filter (w.workers q.peer).mem q.keys }

  -- a key of the ask that isn't found is none that is there
  none_missed : (is : List (ℕ × ℕ)) → ((k : ℕ) → is_in k (keys_of is) ≡ true → is_in k q.keys ≡ true) → AllByRecursion (λ (i : ℕ × ℕ). bit (is_missed w served i) ≡ 0) is
  none_missed [] h = tt
  none_missed (i ∷ is) h = (by ((w.workers q.peer).mem i.0) refl, none_missed is (λ k e. h k (ap (λ b. eqb i.0 k || b) e ∙ or-true (eqb i.0 k))))
    where
      by : (b : Bool) → (w.workers q.peer).mem i.0 ≡ b → bit (is_missed w served i) ≡ 0
      by true e = ap (λ b. bit (not b && is_wrongful w q.peer i.0 i.1))
          (filter_in (w.workers q.peer).mem q.keys i.0 (h i.0 (ap (λ b. b || is_in i.0 (keys_of is)) (eq-eqb i.0 i.0 refl))) e)
      by false e = ap (λ b. bit (not (is_in i.0 served.keys) && b)) (not_wrongful w sound paired q.peer i.0 i.1 a e) ∙ and_none (not (is_in i.0 served.keys))
        where
          and_none : (x : Bool) → bit (x && false) ≡ 0
          and_none true = refl
          and_none false = refl

  nothing_missed : answer_disturbs w served ≡ 0
  unfolding answer_disturbs
  nothing_missed = by (open_ask w q.asker q.peer) refl
    where
      by : (o : Option Ask) → open_ask w q.asker q.peer ≡ o → missed_in w served o ≡ 0
      by None e = refl
      by (Some x) e = pick (eqb x.number q.ask) refl
        where
          pick : (b : Bool) → eqb x.number q.ask ≡ b → cond b (sum_of (λ i. bit (is_missed w served i)) x.items) 0 ≡ 0
          pick true t = sum_zero (λ i. bit (is_missed w served i)) x.items (none_missed x.items (λ k i. subst (λ ks. is_in k ks ≡ true) (own x e (eqb-true x.number q.ask t)) i))
          pick false t = refl

  module _ (p n : ℕ) (b : Asker) (found : parcel_of b p n w.requests ≡ Some q) where
    abbrev pub after : World
    after = record w { requests = without_parcel b p n w.requests; answers = with_parcel served w.answers }

    disturbs_same : disturbances after ≤ disturbances w
    unfolding disturbances worker_disturbs client_disturbs answer_disturbs
    disturbs_same =
        let x : total (worker_disturbs after) (all_workers w) ≤ total (worker_disturbs w) (all_workers w) = total_at_most _ _ (all_workers w) (λ i. same_most _ _ refl) in
        let y : total (client_disturbs after) (all_clients w) ≤ total (client_disturbs w) (all_clients w) = total_at_most _ _ (all_clients w) (λ c. same_most _ _ refl) in
        let z : sum_of (answer_disturbs w) (with_parcel served w.answers) ≡ answer_disturbs w served + sum_of (answer_disturbs w) w.answers = sum_with (answer_disturbs w) served w.answers in
        let u : sum_of (answer_disturbs after) (with_parcel served w.answers) ≤ sum_of (answer_disturbs w) (with_parcel served w.answers) = sum_at_most _ _ (with_parcel served w.answers) (λ x. same_most _ _ refl) in
        omega (arith, x, y, z, u, nothing_missed)

    links_fall : (d : ℕ → ℕ) → links_weight d after + 1 ≤ links_weight d w
    unfolding links_weight worker_weight client_weight
    links_fall d =
        let x : total (worker_weight d after) (all_workers w) ≤ total (worker_weight d w) (all_workers w) = total_at_most _ _ (all_workers w) (λ i. same_most _ _ refl) in
        let y : total (client_weight d after) (all_clients w) ≤ total (client_weight d w) (all_clients w) = total_at_most _ _ (all_clients w) (λ c. same_most _ _ refl) in
        let r : length (without_parcel b p n w.requests) + 1 ≤ length w.requests = length_without (is_parcel b p n) w.requests q found in
        let s : length (with_parcel served w.answers) ≡ suc (length w.answers) = length_with served w.answers in
        omega arith

    pub serve_falls : Falls w after
    serve_falls = falls w after refl disturbs_same (links_fall (deaths w.sched (disturbances w)))

pub serve_gather_falls : (j : Job) (w : World) (p : ℕ) (b : Asker) (n : ℕ) → IsSound w.sched → IsPaired w → AllByRecursion (IsOfAsk w) w.requests
    → enabled w (ServeGather p b n) ≡ true → Falls w (world_step j w (ServeGather p b n))
unfolding enabled world_step
serve_gather_falls j w p b n sound paired own t = by (parcel_of b p n w.requests) refl (and_parts (w.alive p) _ t).1
  where
    alive : w.alive p ≡ true
    alive = (and_parts (w.alive p) _ t).0

    by : (o : Option Parcel) → parcel_of b p n w.requests ≡ o → is_some o ≡ true → Falls w (serve w p o)
    by None e s = absurd (false≢true s)
    by (Some q) e s = subst (λ (v : World). Falls w v) rest (serve_falls w sound paired q (ap w.alive peer ∙ alive) (all_found (IsOfAsk w) (is_parcel b p n) w.requests q e own) p n b e)
      where
        parts : ((same_asker q.asker b) ≡ true) × ((eqb q.peer p && eqb q.ask n) ≡ true)
        parts = let r = and_parts (same_asker q.asker b) _ (find_passes (is_parcel b p n) w.requests q e) in (r.0, r.1)

        peer : q.peer ≡ p
        peer = eqb-true q.peer p (and_parts (eqb q.peer p) _ parts.1).0

        ask : q.ask ≡ n
        ask = eqb-true q.ask n (and_parts (eqb q.peer p) _ parts.1).1

        asker : q.asker ≡ b
        asker = same_asker_is q.asker b parts.0

        to : Asker → ℕ → ℕ → ℕ → World
        to a x y z = record w {
          requests = without_parcel a x y w.requests;
          answers = with_parcel (record q { keys = filter (w.workers z).mem q.keys }) w.answers;
        }

        rest : to b p n q.peer ≡ to q.asker q.peer q.ask p
        rest = ap (λ z. to b p n z) peer ∙ ap (λ a. to a p n p) (sym asker) ∙ ap (λ x. to q.asker x n p) (sym peer) ∙ ap (λ y. to q.asker q.peer y p) (sym ask)
