-- One more event of a course.
use Rattle.std.proofs.Common.{◌≡◌, ℕ, suc, ◌+◌, ◌-◌, ◌^◌, ◌≤◌, ◌<◌, Bool, true, false, cond, List, [], ◌∷◌, ◌++◌, length, Option, Some, filter, refl, sym, ap, ◌∙◌, arith, subst, append_assoc, append-nil, add-zero}
use Rattle.std.proofs.lemmas.Option.{none-some, same_Some}
use Rattle.cluster_msgs.specs.declared.messages.Message.{Message}
use Rattle.cluster_msgs.specs.declared.events.Event.{Event}
use Rattle.cluster_msgs.specs.declared.events.Event.TheVariants.{Join, Balance, Evict}
use Rattle.cluster_rules.specs.World.{Job, World, opening}
use Rattle.cluster_rules.specs.WorldStep.{world_step}
use Rattle.cluster_rules.specs.Enabled.{message}
use Rattle.cluster_rules.specs.Runs.{legal, reached, run_from, Safe, event_limit}
use Rattle.cluster_rules.specs.Report.{Taken, taken, is_join, how_many}
use Rattle.cluster_rules.specs.Draw.{Plan, Sim, Next, Over, Scripted, Evicts, Balances, Spent, Drawn, Verdict, DrawnFrom, opening_events, sim_from, next, event_of, moved, verdict, DrawsTo}
use Rattle.run_report.specs.Counts.{IsCountOf}
use Rattle.run_report.specs.declared.tally.Tally.{Tally}
use Rattle.cluster_world.specs.declared.state.State.{State}
use Rattle.cluster_world.specs.Worlds.{world, running, IsMadeBy}
use Rattle.cluster_sim.specs.Acts.{Stays, IsAct}
use Rattle.cluster_sim.specs.Courses.{IsCounted, Course}
use Rattle.cluster_sim.specs.Simulations.{IsSimulated}
use Rattle.cluster_sim.proofs.ActLemmas.{same_job}
use Rattle.cluster_sim.proofs.WorldKeeps.{joins, world_keeps}

taken_more : (j : Job) (w : World) (es : List Event) (e : Event) → taken j w (es ++ e ∷ []) ≡ taken j w es ++ (e, message (run_from j w es) e) ∷ []
taken_more j w [] e = refl
taken_more j w (x ∷ xs) e = ap (λ ts. (x, message w x) ∷ ts) (taken_more j (world_step j w x) xs e)

taken_length : (j : Job) (w : World) (es : List Event) → length (taken j w es) ≡ length es
taken_length j w [] = refl
taken_length j w (x ∷ xs) = ap (λ n. suc n) (taken_length j (world_step j w x) xs)

-- each join raises the greatest number
join_is : (e : Event) (m : Option Message) → cond (is_join (e, m)) 1 0 ≡ joins e
join_is (Join threads) m = refl
join_is _ m = refl

how_many-cons : (p : Taken → Bool) (t : Taken) (ts : List Taken) → how_many p (t ∷ ts) ≡ cond (p t) 1 0 + how_many p ts
how_many-cons p t ts = pick (p t)
  where
    pick : (b : Bool) → length (cond b (t ∷ filter p ts) (filter p ts)) ≡ cond b 1 0 + how_many p ts
    pick true = omega arith
    pick false = omega arith

taken_joins : (j : Job) (w : World) (es : List Event) → (run_from j w es).sched.last_worker ≡ w.sched.last_worker + how_many is_join (taken j w es)
taken_joins j w [] = sym (add-zero _)
taken_joins j w (x ∷ xs) =
    let k = (world_keeps j w x).last in
    let r = taken_joins j (world_step j w x) xs in
    let h = how_many-cons is_join (x, message w x) (taken j (world_step j w x) xs) in
    let i = join_is x (message w x) in
    omega (arith, k, r, h, i)

-- no event, and none counted
pub counted_none : {J B F : Type 0} (op : J → ℕ → List B → Option B) (s : State J B F) (t : Tally) → IsMadeBy op [] s → IsCountOf t [] → IsCounted op [] s t
counted_none op s t m h = record { made = m; counted = h }

-- one event more is counted
counted_one : (j : Job) (es : List Event) (w : World) (t u : Tally) (e : Event) → reached j es ≡ w → length es ≤ event_limit → w.sched.last_worker ≤ 128 → IsCountOf t (taken j (opening j) es)
    → ((ts : List Taken) → length ts < 2 ^ 64 - 1 → how_many is_join ts < 2 ^ 32 - 1 → IsCountOf t ts → IsCountOf u (ts ++ (e, message w e) ∷ []))
    → IsCountOf u (taken j (opening j) (es ++ e ∷ []))
counted_one j es w t u e led short few h count =
    subst (λ ts. IsCountOf u ts) (sym (taken_more j (opening j) es e)) (subst (λ x. IsCountOf u (taken j (opening j) es ++ (e, message x e) ∷ [])) (sym led) (count (taken j (opening j) es)
    (let l = taken_length j (opening j) es in omega (arith, l, short))
    (let l = taken_joins j (opening j) es in let r = ap (λ (x : World). x.sched.last_worker) led in omega (arith, l, r, few)) h))

pub counted_more : {J B F : Type 0} (op : J → ℕ → List B → Option B) (tells : J → F → Type 0) (es : List Event) (old new : State J B F) (t u : Tally) (e : Event) → IsCounted op es old t → IsAct op tells old e new → Stays tells old new → tells old.job old.feed
    → (world old).sched.last_worker ≤ 128
    → ((ts : List Taken) → length ts < 2 ^ 64 - 1 → how_many is_join ts < 2 ^ 32 - 1 → IsCountOf t ts → IsCountOf u (ts ++ (e, message (world old) e) ∷ []))
    → IsCounted op (es ++ e ∷ []) new u
counted_more op tells es old new t u e h act stays told few count = record {
  made = act.made told es h.made;
  counted = subst (λ (j : Job). IsCountOf u (taken j (opening j) (es ++ e ∷ []))) (sym (same_job op tells old new stays))
      (counted_one (running op old) es (world old) t u e h.made.run.reached h.made.few few h.counted count);
}

-- what comes next, made
pub moved_world : (j : Job) (s : Sim) (n : Next) (e : Event) → event_of n ≡ Some e → (moved j s n).world ≡ world_step j s.world e
moved_world j s (Over failure) e h = absurd (none-some e h)
moved_world j s (Scripted x later) e h = ap (λ y. world_step j s.world y) (same_Some x e h)
moved_world j s Evicts e h = ap (λ y. world_step j s.world y) (same_Some Evict e h)
moved_world j s Balances e h = ap (λ y. world_step j s.world y) (same_Some Balance e h)
moved_world j s Spent e h = absurd (none-some e h)
moved_world j s (Drawn x) e h = ap (λ y. world_step j s.world y) (same_Some x e h)

draws_more : (j : Job) (words : ℕ → ℕ) (p : Plan) (s t : Sim) (es : List Event) (e : Event) → DrawsTo j words p s es t → event_of (next words p t) ≡ Some e → DrawsTo j words p s (es ++ e ∷ []) (moved j t (next words p t))
draws_more j words p s t [] e d h = (ap (λ x. event_of (next words p x)) d ∙ h, ap (λ x. moved j x (next words p x)) d)
draws_more j words p s t (x ∷ xs) e d h = (d.0, draws_more j words p (moved j s (next words p s)) t xs e d.1 h)

draws_end : (j : Job) (words : ℕ → ℕ) (p : Plan) (s t : Sim) (es : List Event) (v : Verdict) → DrawsTo j words p s es t → verdict t (next words p t) ≡ Some v → DrawnFrom j words p s es v
draws_end j words p s t [] v d h = ap (λ x. verdict x (next words p x)) d ∙ h
draws_end j words p s t (x ∷ xs) v d h = (d.0, draws_end j words p (moved j s (next words p s)) t xs v d.1 h)

-- a course begins where the opening events led
pub course_start : {J B F : Type 0} (op : J → ℕ → List B → Option B) (words : ℕ → ℕ) (p : Plan) (wanted : List ℕ) (s : State J B F) (at : Sim) (t : Tally) → IsCounted op (opening_events p wanted) s t → at ≡ sim_from p (world s) → Course op words p wanted at s t
course_start op words p wanted s at t h e = record {
  later = [];
  drawn = ap (λ x. sim_from p x) h.made.run.reached ∙ sym e;
  all = subst (λ es. IsCounted op es s t) (sym (append-nil (opening_events p wanted))) h;
}

-- and goes on by what comes next
pub course_more : {J B F : Type 0} (op : J → ℕ → List B → Option B) (tells : J → F → Type 0) (words : ℕ → ℕ) (p : Plan) (wanted : List ℕ) (a b : Sim) (old new : State J B F) (t u : Tally) (e : Event) → Course op words p wanted a old t → IsAct op tells old e new → Stays tells old new → tells old.job old.feed
    → (world old).sched.last_worker ≤ 128 → event_of (next words p a) ≡ Some e → b ≡ moved (running op old) a (next words p a)
    → ((ts : List Taken) → length ts < 2 ^ 64 - 1 → how_many is_join ts < 2 ^ 32 - 1 → IsCountOf t ts → IsCountOf u (ts ++ (e, message (world old) e) ∷ []))
    → Course op words p wanted b new u
course_more op tells words p wanted a b old new t u e h act stays told few q is count = record {
  later = h.later ++ e ∷ [];
  drawn = subst (λ (j : Job). DrawsTo j words p (sim_from p (reached j (opening_events p wanted))) (h.later ++ e ∷ []) b) (sym (same_job op tells old new stays))
      (subst (λ (x : Sim). DrawsTo (running op old) words p (sim_from p (reached (running op old) (opening_events p wanted))) (h.later ++ e ∷ []) x) (sym is) (draws_more (running op old) words p _ a h.later e h.drawn q));
  all = subst (λ es. IsCounted op es new u) (append_assoc (opening_events p wanted) h.later (e ∷ [])) (counted_more op tells (opening_events p wanted ++ h.later) old new t u e h.all act stays told few count);
}

-- at its end the events are those of the simulation
pub course_end : {J B F : Type 0} (op : J → ℕ → List B → Option B) (words : ℕ → ℕ) (p : Plan) (wanted : List ℕ) (at : Sim) (s : State J B F) (t : Tally) (v : Verdict) (h : Course op words p wanted at s t) → ((es : List Event) → legal (running op s) es → Safe (running op s) es) → verdict at (next words p at) ≡ Some v
    → IsSimulated (running op s) words p wanted (opening_events p wanted ++ h.later) v (world s)
course_end op words p wanted at s t v h safe q = record {
  drawn = record { later = h.later; whole = refl; drawn = draws_end (running op s) words p _ at h.later v h.drawn q };
  legal = h.all.made.run.legal;
  safe = safe (opening_events p wanted ++ h.later) h.all.made.run.legal;
  few = h.all.made.few;
  reached = h.all.made.run.reached;
}
