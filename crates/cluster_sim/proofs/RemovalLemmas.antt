-- A key loses its worker only as often as the script takes one away.
use Rattle.std.proofs.Common.{◌≡◌, ℕ, zero, suc, ◌+◌, ◌%◌, ◌≤◌, Bool, true, false, not, ◌&&◌, ◌||◌, cond, List, [], ◌∷◌, ◌++◌, length, filter, replicate, Option, Some, None, refl, sym, ap, ◌∙◌, subst, arith, ⊎_elim, ◌⊎◌}
use Rattle.std.specs.Prelude.{◌==◌, slice_get}
use Rattle.std.proofs.lemmas.Bool.{true≢false, false≢true, and_parts, or_cases, or_right, eqb-true, eq-eqb, not-true, not-false}
use Rattle.std.proofs.lemmas.Option.{none-some, same_Some}
use Rattle.cluster_msgs.specs.Scripts.{removes_in, removes_of}
use Rattle.cluster_msgs.specs.declared.events.Item.{Item}
use Rattle.cluster_msgs.specs.declared.events.Item.TheVariants.{Lose as LoseItem, Suspect as SuspectItem, Join as JoinItem}
use Rattle.cluster_msgs.specs.declared.events.Event.{Event}
use Rattle.cluster_msgs.specs.declared.events.Event.TheVariants.{Want, Join, Lose, SeeLoss, Suspect, Balance, Evict}
use Rattle.cluster_rules.specs.Derived.{is_in}
use Rattle.cluster_rules.specs.Enabled.{enabled, progress}
use Rattle.cluster_rules.specs.Runs.{losses_from, run_from}
use Rattle.cluster_rules.specs.Sched.{Setting, known}
use Rattle.cluster_rules.specs.World.{Job, IsJob, World as Cluster, opening, is_connected}
use Rattle.cluster_rules.specs.WorldStep.{world_step}
use Rattle.cluster_rules.specs.Draw.{Plan, Sim, Next, Over, Scripted, Evicts, Balances, Spent, Drawn, over, is_reached, is_idle, is_blocked, item_event, scripted, evicts_now, balances_now, drawn, draw_one, turn, unscripted, next_by, next, event_of, moved, opening_events}
use Rattle.cluster_laws.proofs.Counted.{CountsKnown, losses_are}
use Rattle.cluster_laws.proofs.WorldLemmas.{progress_enabled}
use Rattle.safety_laws.proofs.Responsive.{IsResponsive, responsive_after, responsive_any}
use Rattle.safety_laws.proofs.Staying.{takes_away, alive_stays, joined_alive}
use Rattle.cluster_sim.specs.Led.{any_job, Made, after_next, next_of, LedTo, at_first, IsLed}
use Rattle.cluster_sim.proofs.CourseLemmas.{moved_world}
use Rattle.cluster_sim.proofs.NextLemmas.{progress_is}
use Rattle.cluster_sim.proofs.Removed.{more_gone, one_gone, few_pass, longer, longer_by_one, may_leave, leaver, before, before_join, dead_before, seen_gone, suspected_gone, one_more, no_more}
use Rattle.cluster_sim.proofs.WorldKeeps.{joins, world_keeps}

-- ## The workers that were taken away

-- how many of these aren't connected
abbrev gone_in : Cluster → List ℕ → ℕ
gone_in w xs = length (filter (λ v. not (is_connected w v)) xs)

-- these workers were taken away by the script's items that are done with: who is connected and dead is among them, and a key lost no more than are gone
record IsTaken (k total : ℕ) (w : Cluster) (script : List Item) : Type 0 where
  taken : List ℕ
  few : length taken + removes_in script ≤ total
  lost : (v : ℕ) → is_connected w v ≡ true → w.alive v ≡ false → is_in v taken ≡ true
  low : (v : ℕ) → is_in v taken ≡ true → v ≤ w.sched.last_worker
  losses : w.sched.losses k ≤ gone_in w taken

-- what is known of the world besides
record IsNumbered (w : Cluster) : Type 0 where
  counted : CountsKnown w.sched
  low : (v : ℕ) → is_connected w v ≡ true → v ≤ w.sched.last_worker

module _ (k total : ℕ) (j : Job) (w : Cluster) (script : List Item) (u : IsNumbered w) (h : IsTaken k total w script) where
  -- an event that takes nobody away
  quiet_taken : (e : Event) → joins e ≡ 0 → may_leave e ≡ false → ((v : ℕ) → takes_away e v ≡ false) → IsTaken k total (world_step j w e) script
  quiet_taken e z m t = record {
    taken = h.taken;
    few = h.few;
    lost = λ v c a. h.lost v (before j w e z v c) (dead_before j w e v (t v) a);
    low = λ v i. let b = h.low v i in let l = (world_keeps j w e).last in omega (arith, b, l, z);
    losses = (let a = no_more j w e k u.counted m in let b = h.losses in let g = more_gone (is_connected w) (is_connected (world_step j w e)) h.taken (λ v i c. before j w e z v c) in omega (arith, a, b, g));
  }

  -- the loss of a worker that was taken away is seen
  seen_taken : (v : ℕ) → enabled w (SeeLoss v) ≡ true → IsTaken k total (world_step j w (SeeLoss v)) script
  unfolding enabled
  seen_taken v on =
      let both = and_parts (not (w.alive v)) (is_connected w v) on in
      let among : is_in v h.taken ≡ true = h.lost v both.1 (not-true (w.alive v) both.0) in
      record {
        taken = h.taken;
        few = h.few;
        lost = λ x c a. h.lost x (before j w (SeeLoss v) refl x c) (dead_before j w (SeeLoss v) x refl a);
        low = λ x i. let b = h.low x i in let l = (world_keeps j w (SeeLoss v)).last in omega (arith, b, l);
        losses = (
            let a = one_more j w (SeeLoss v) k u.counted in
            let b = h.losses in
            let g = one_gone (is_connected w) (is_connected (world_step j w (SeeLoss v))) v h.taken (λ x i c. before j w (SeeLoss v) refl x c) among both.1 (seen_gone j w v) in
            omega (arith, a, b, g)
            );
      }

  module _ (later : List Item) where
    -- a worker is lost
    lose_taken : (v : ℕ) → is_connected w v ≡ true → 1 + removes_in later ≤ removes_in script → IsTaken k total (world_step j w (Lose v)) later
    lose_taken v linked fewer = record {
      taken = v ∷ h.taken;
      few = (let f = h.few in omega (arith, f, fewer));
      lost = λ x c a. by x c a (v == x) refl;
      low = λ x i. let l = (world_keeps j w (Lose v)).last in ⊎_elim
          (λ e. let q : v ≡ x = eqb-true v x e in let b = u.low v linked in omega (arith, q, b, l))
          (λ i. let b = h.low x i in omega (arith, b, l))
          (or_cases (v == x) (is_in x h.taken) i);
      losses = (
          let a = no_more j w (Lose v) k u.counted refl in
          let b = h.losses in
          let g = more_gone (is_connected w) (is_connected (world_step j w (Lose v))) h.taken (λ x i c. before j w (Lose v) refl x c) in
          let m = longer (not (is_connected (world_step j w (Lose v)) v)) v (filter (λ x. not (is_connected (world_step j w (Lose v)) x)) h.taken) in
          omega (arith, a, b, g, m)
          );
    }
      where
        by : (x : ℕ) → is_connected (world_step j w (Lose v)) x ≡ true → (world_step j w (Lose v)).alive x ≡ false → (b : Bool) → (v == x) ≡ b → is_in x (v ∷ h.taken) ≡ true
        by x c a true q = ap (λ b. b || is_in x h.taken) q
        by x c a false q = or_right (v == x) (is_in x h.taken) (h.lost x (before j w (Lose v) refl x c) (dead_before j w (Lose v) x q a))

    -- a worker is suspected
    suspect_taken : (v : ℕ) → is_connected w v ≡ true → 1 + removes_in later ≤ removes_in script → IsTaken k total (world_step j w (Suspect v)) later
    suspect_taken v linked fewer = record {
      taken = v ∷ h.taken;
      few = (let f = h.few in omega (arith, f, fewer));
      lost = λ x c a. by x c a (v == x) refl;
      low = λ x i. let l = (world_keeps j w (Suspect v)).last in ⊎_elim
          (λ e. let q : v ≡ x = eqb-true v x e in let b = u.low v linked in omega (arith, q, b, l))
          (λ i. let b = h.low x i in omega (arith, b, l))
          (or_cases (v == x) (is_in x h.taken) i);
      losses = (
          let a = one_more j w (Suspect v) k u.counted in
          let b = h.losses in
          let g = more_gone (is_connected w) (is_connected (world_step j w (Suspect v))) h.taken (λ x i c. before j w (Suspect v) refl x c) in
          let m = longer_by_one (is_connected (world_step j w (Suspect v)) v) v (filter (λ x. not (is_connected (world_step j w (Suspect v)) x)) h.taken) (suspected_gone j w v) in
          omega (arith, a, b, g, m)
          );
    }
      where
        by : (x : ℕ) → is_connected (world_step j w (Suspect v)) x ≡ true → (world_step j w (Suspect v)).alive x ≡ false → (b : Bool) → (v == x) ≡ b → is_in x (v ∷ h.taken) ≡ true
        by x c a true q = ap (λ b. b || is_in x h.taken) q
        by x c a false q = or_right (v == x) (is_in x h.taken) (h.lost x (before j w (Suspect v) refl x c) (dead_before j w (Suspect v) x q a))

    -- a worker joins
    join_taken : (threads : ℕ) → removes_in later ≤ removes_in script → IsTaken k total (world_step j w (Join threads)) later
    join_taken threads fewer = record {
      taken = h.taken;
      few = (let f = h.few in omega (arith, f, fewer));
      lost = λ x c a. by x c a (x == w.sched.last_worker + 1) refl;
      low = λ x i. let b = h.low x i in let l = (world_keeps j w (Join threads)).last in omega (arith, b, l);
      losses = (
          let a = no_more j w (Join threads) k u.counted refl in
          let b = h.losses in
          let g = more_gone (is_connected w) (is_connected (world_step j w (Join threads))) h.taken (λ x i c. before_join j w threads x (old x i) c) in
          omega (arith, a, b, g)
          );
    }
      where
        by : (x : ℕ) → is_connected (world_step j w (Join threads)) x ≡ true → (world_step j w (Join threads)).alive x ≡ false → (b : Bool) → (x == w.sched.last_worker + 1) ≡ b → is_in x h.taken ≡ true
        by x c a true q = absurd (true≢false (sym (joined_alive j w threads) ∙ (ap (world_step j w (Join threads)).alive (sym (eqb-true x (w.sched.last_worker + 1) q)) ∙ a)))
        by x c a false q = h.lost x (before_join j w threads x q c) (dead_before j w (Join threads) x refl a)

        old : (x : ℕ) → is_in x h.taken ≡ true → (x == w.sched.last_worker + 1) ≡ false
        old x i = pick (x == w.sched.last_worker + 1) refl
          where
            pick : (b : Bool) → (x == w.sched.last_worker + 1) ≡ b → b ≡ false
            pick true q = let e : x ≡ w.sched.last_worker + 1 = eqb-true x (w.sched.last_worker + 1) q in let l = h.low x i in absurd (omega (arith, e, l))
            pick false q = refl

    -- an item that is not idle
    item_taken : (threads : ℕ) (item : Item) → is_idle w item ≡ false → removes_of item + removes_in later ≤ removes_in script → IsTaken k total (world_step j w (item_event threads item)) later
    item_taken threads (LoseItem v at) busy fewer = lose_taken v (and_parts (w.alive v) (is_connected w v) (not-false (w.alive v && is_connected w v) busy)).1 fewer
    item_taken threads (SuspectItem v at) busy fewer = suspect_taken v (and_parts (w.alive v) (is_connected w v) (not-false (w.alive v && is_connected w v) busy)).1 fewer
    item_taken threads (JoinItem at) busy fewer = join_taken threads (omega (arith, fewer))

  -- a drawn event
  drawn_taken : (e : Event) → enabled w e ≡ true → ((v : ℕ) → takes_away e v ≡ false) → joins e ≡ 0 → IsTaken k total (world_step j w e) script
  drawn_taken e on t z = pick (may_leave e) refl
    where
      seen : (v : ℕ) → e ≡ SeeLoss v → IsTaken k total (world_step j w e) script
      seen v q = subst (λ x. IsTaken k total (world_step j w x) script) (sym q) (seen_taken v (subst (λ x. enabled w x ≡ true) q on))

      suspected : (v : ℕ) → e ≡ Suspect v → IsTaken k total (world_step j w e) script
      suspected v q = absurd (true≢false (sym (eq-eqb v v refl) ∙ subst (λ x. takes_away x v ≡ false) q (t v)))

      pick : (b : Bool) → may_leave e ≡ b → IsTaken k total (world_step j w e) script
      pick true m = ⊎_elim (λ s. seen s.0 s.1) (λ s. suspected s.0 s.1) (leaver e m)
      pick false m = quiet_taken e z m t

-- ## What comes next

-- an item of the script that is not idle, behind others that are
record IsItem (threads : ℕ) (w : Cluster) (items : List Item) (e : Event) (later : List Item) : Type 0 where
  item : Item
  event : item_event threads item ≡ e
  busy : is_idle w item ≡ false
  fewer : removes_of item + removes_in later ≤ removes_in items

item_of : (threads : ℕ) (w : Cluster) (is : List Item) (e : Event) (later : List Item) → scripted threads w is ≡ Some (e, later) → IsItem threads w is e later
item_of threads w [] e later h = absurd (no h)
  where
    no : ◌≡◌ {A = Option (Event × List Item)} None (Some (e, later)) → ⊥
    no h = cc
item_of threads w (i ∷ is) e later h = waits (not (is_reached w i)) (is_idle w i) refl (is_blocked w i) (item_of threads w is e later) h
  where
    no : ◌≡◌ {A = Option (Event × List Item)} None (Some (e, later)) → ⊥
    no h = cc

    waits : (a b : Bool) → is_idle w i ≡ b → (d : Bool) → (scripted threads w is ≡ Some (e, later) → IsItem threads w is e later)
        → cond {A = Option (Event × List Item)} a None (cond {A = Option (Event × List Item)} b (scripted threads w is) (cond {A = Option (Event × List Item)} d None (Some (item_event threads i, is)))) ≡ Some (e, later) → IsItem threads w (i ∷ is) e later
    waits true b q d f h = absurd (no h)
    waits false true q d f h = let r = f h in record { item = r.item; event = r.event; busy = r.busy; fewer = (let l = r.fewer in omega (arith, l)) }
    waits false false q true f h = absurd (no h)
    waits false false q false f h =
        let p = same_Some (item_event threads i, is) (e, later) h in
        record {
          item = i;
          event = ap (λ (x : Event × List Item). x.0) p;
          busy = q;
          fewer = (let l : removes_in is ≡ removes_in later = ap (λ (x : Event × List Item). removes_in x.1) p in omega (arith, l));
        }

abbrev IsKind : ℕ → Sim → Next → Type 0
IsKind threads s (Over failure) = Unit {0}
IsKind threads s (Scripted e later) = IsItem threads s.world s.script e later
IsKind threads s Evicts = Unit {0}
IsKind threads s Balances = Unit {0}
IsKind threads s Spent = Unit {0}
IsKind threads s (Drawn e) = (enabled s.world e ≡ true) × ((v : ℕ) → takes_away e v ≡ false) × (joins e ≡ 0)

one_kind : (threads : ℕ) (s : Sim) (n : ℕ) (o : Option Event) → slice_get (progress s.world) n ≡ o → IsKind threads s (drawn o)
one_kind threads s n None h = tt
one_kind threads s n (Some e) h = let q = progress_is s.world n e h in (progress_enabled s.world n e h, q.takes, q.joins)

turn_kind : (threads : ℕ) (words : ℕ → ℕ) (s : Sim) → IsKind threads s (turn words s)
turn_kind threads words s = pick (s.budget == 0)
  where
    pick : (b : Bool) → IsKind threads s (cond b Spent (draw_one (words s.turns) (progress s.world)))
    pick true = tt
    pick false = one_kind threads s (words s.turns % length (progress s.world)) _ refl

unscripted_kind : (threads : ℕ) (words : ℕ → ℕ) (s : Sim) → IsKind threads s (unscripted words s)
unscripted_kind threads words s = pick (evicts_now s) (balances_now s)
  where
    pick : (a b : Bool) → IsKind threads s (cond a Evicts (cond b Balances (turn words s)))
    pick true b = tt
    pick false true = tt
    pick false false = turn_kind threads words s

next_kind : (words : ℕ → ℕ) (p : Plan) (s : Sim) → IsKind p.threads s (next words p s)
unfolding next
next_kind words p s = ended (over (s.world.clients 1)) (scripted p.threads s.world s.script) refl
  where
    ended : (o : Option (Option ℕ)) (i : Option (Event × List Item)) → scripted p.threads s.world s.script ≡ i → IsKind p.threads s (next_by words s o i)
    ended (Some failure) i q = tt
    ended None (Some i) q = item_of p.threads s.world s.script i.0 i.1 q
    ended None None q = unscripted_kind p.threads words s

module _ (k total : ℕ) where
  taken_next : (j : Job) (threads : ℕ) (s : Sim) (n : Next) (e : Event) → IsKind threads s n → event_of n ≡ Some e → IsNumbered s.world → IsTaken k total s.world s.script → IsTaken k total (moved j s n).world (moved j s n).script
  taken_next j threads s (Over failure) e m q u h = absurd (none-some e q)
  taken_next j threads s Spent e m q u h = absurd (none-some e q)
  taken_next j threads s (Scripted x later) e m q u h =
      subst (λ y. IsTaken k total (world_step j s.world y) later) m.event (item_taken k total j s.world s.script u h later threads m.item m.busy m.fewer)
  taken_next j threads s Evicts e m q u h = quiet_taken k total j s.world s.script u h Evict refl refl (λ v. refl)
  taken_next j threads s Balances e m q u h = quiet_taken k total j s.world s.script u h Balance refl refl (λ v. refl)
  taken_next j threads s (Drawn x) e m q u h = drawn_taken k total j s.world s.script u h x m.0 m.1 m.2

  taken_led : (j : Job) → IsJob j → (p : Plan) (ms : List Made) (s t : Sim) → IsResponsive j s.world → IsTaken k total s.world s.script → LedTo p s ms t → IsTaken k total t.world t.script
  taken_led j job p [] s t r h l = subst (λ (x : Sim). IsTaken k total x.world x.script) l h
  taken_led j job p (m ∷ ms) s t r h l =
      let n = next_of p s m in
      let met : Job = record { setting = s.world.sched.setting; zero = λ q. m.met } in
      taken_led j job p ms (after_next m.met s n) t
      (subst (IsResponsive j) (sym (moved_world met s n m.event l.0.next)) (responsive_any j job m.met s.world m.event l.0.enabled r))
      (taken_next met p.threads s n m.event (next_kind (λ q. m.word) p s) l.0.next (record { counted = r.joint.settled.losses_are_known; low = λ v c. (r.joint.sound.numbers v c).1 }) h) l.1

-- ## The opening

abbrev AllAlive : Cluster → Type 0
AllAlive w = (v : ℕ) → is_connected w v ≡ true → w.alive v ≡ true

join_alive : (j : Job) (w : Cluster) (threads : ℕ) → AllAlive w → AllAlive (world_step j w (Join threads))
join_alive j w threads h v c = by (v == w.sched.last_worker + 1) refl
  where
    by : (b : Bool) → (v == w.sched.last_worker + 1) ≡ b → (world_step j w (Join threads)).alive v ≡ true
    by true q = ap (world_step j w (Join threads)).alive (eqb-true v (w.sched.last_worker + 1) q) ∙ joined_alive j w threads
    by false q = alive_stays j w (Join threads) v refl (h v (before_join j w threads v q c))

opened_alive : (j : Job) (w : Cluster) (threads n : ℕ) (wanted : List ℕ) → AllAlive w → AllAlive (run_from j w (replicate n (Join threads) ++ Want 1 wanted ∷ []))
opened_alive j w threads zero wanted h = λ v c. alive_stays j w (Want 1 wanted) v refl (h v (before j w (Want 1 wanted) refl v c))
opened_alive j w threads (suc n) wanted h = opened_alive j (world_step j w (Join threads)) threads n wanted (join_alive j w threads h)

none_lost : (j : Job) (w : Cluster) (m k threads n : ℕ) (wanted : List ℕ) → losses_from j w m (replicate n (Join threads) ++ Want 1 wanted ∷ []) k ≤ m
none_lost j w m k threads zero wanted = by (known (world_step j w (Want 1 wanted)).sched k)
  where
    by : (b : Bool) → cond b m 0 ≤ m
    by true = omega arith
    by false = omega arith
none_lost j w m k threads (suc n) wanted = by (known (world_step j w (Join threads)).sched k) (none_lost j (world_step j w (Join threads)) _ k threads n wanted)
  where
    by : (b : Bool) → losses_from j (world_step j w (Join threads)) (cond b m 0) (replicate n (Join threads) ++ Want 1 wanted ∷ []) k ≤ cond b m 0
        → losses_from j (world_step j w (Join threads)) (cond b m 0) (replicate n (Join threads) ++ Want 1 wanted ∷ []) k ≤ m
    by true h = h
    by false h = omega (arith, h)

taken_first : (k : ℕ) (set : Setting) (p : Plan) (wanted : List ℕ) → IsTaken k (removes_in p.script) (at_first set p wanted).world p.script
taken_first k set p wanted =
    let j = any_job set in
    record {
      taken = [];
      few = omega arith;
      lost = λ v c a. absurd (true≢false (sym (opened_alive j (opening j) p.threads p.workers wanted (λ x q. absurd (false≢true q)) v c) ∙ a));
      low = λ v i. absurd (false≢true i);
      losses = (let e = losses_are j (opening_events p wanted) k in let l = none_lost j (opening j) 0 k p.threads p.workers wanted in omega (arith, e, l));
    }

-- ## A simulation

pub few_removed : (set : Setting) (p : Plan) (wanted : List ℕ) (t : Sim) → IsLed set p wanted t → (k : ℕ) → t.world.sched.losses k ≤ removes_in p.script
few_removed set p wanted t h k =
    let r = responsive_after (any_job set) h.job (opening_events p wanted) h.opens in
    let f = taken_led k (removes_in p.script) (any_job set) h.job p h.made (at_first set p wanted) t r (taken_first k set p wanted) h.led in
    let a = f.losses in
    let b = f.few in
    let c = few_pass (λ v. not (is_connected t.world v)) f.taken in
    omega (arith, a, b, c)
