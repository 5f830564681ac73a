-- What comes next in a simulation is enabled, and leaves what the client wants.
use Rattle.std.proofs.Common.{◌≡◌, ℕ, zero, suc, ◌+◌, ◌≤◌, Bool, true, false, not, ◌&&◌, cond, List, [], ◌∷◌, Option, Some, None, filter, map, refl, ap, arith, subst}
use Rattle.std.specs.Prelude.{◌==◌, slice_get}
use Rattle.std.specs.List.{flat_map, AllByRecursion}
use Rattle.std.proofs.lemmas.Bool.{true≢false, and_parts, and_from, lt-ltb, le-leb, not-false}
use Rattle.std.proofs.lemmas.Option.{same_Some, none-some}
use Rattle.small_facts.proofs.Every.{all_of_filter}
use Rattle.cluster_msgs.specs.declared.events.Item.{Item}
use Rattle.cluster_msgs.specs.declared.events.Item.TheVariants.{Lose as LoseItem, Suspect as SuspectItem, Join as JoinItem}
use Rattle.cluster_msgs.specs.declared.events.Event.{Event}
use Rattle.cluster_msgs.specs.declared.events.Event.TheVariants.{SeeLoss, DeliverDown, DeliverUp, DeliverToClient, DeliverFromClient, Start, Finish, SendGather, ServeGather, ArriveGather, FailGather, Balance, Evict}
use Rattle.cluster_rules.specs.SchedTable.{sched_takes}
use Rattle.cluster_msgs.specs.Shape.{key_count}
use Rattle.cluster_rules.specs.Derived.{below}
use Rattle.cluster_rules.specs.World.{Job, World, Parcel, all_workers, all_clients, is_connected, shape_of}
use Rattle.cluster_rules.specs.Enabled.{enabled, progress, progress_kinds, connected_workers, quiet_askers, is_quiet_asker}
use Rattle.cluster_rules.specs.Draw.{Plan, Sim, Next, Over, Scripted, Evicts, Balances, Spent, Drawn, over, is_reached, is_idle, is_blocked, item_event, scripted, evicts_now, balances_now, drawn, draw_one, turn, unscripted, next_by, next, event_of, moved}
use Rattle.cluster_laws.proofs.WorldLemmas.{progress_enabled}
use Rattle.cluster_rules.proofs.InsideWorker.{all_map_in}
use Rattle.cluster_rules.proofs.InsideSched.{all_flat_map_in, all_always}
use Rattle.safety_laws.proofs.Staying.{takes_away}
use Rattle.cluster_sim.specs.Plans.{joins_in}
use Rattle.cluster_sim.proofs.WorldKeeps.{joins, is_gentle}

-- a progress event is gentle, no join, and takes no worker away that is alive
pub record IsProgress (e : Event) : Type 0 where
  pub gentle : is_gentle e ≡ true
  pub joins : joins e ≡ 0
  pub takes : (i : ℕ) → takes_away e i ≡ false

easy : (e : Event) → is_gentle e ≡ true → joins e ≡ 0 → ((i : ℕ) → takes_away e i ≡ false) → IsProgress e
easy e g n t = record { gentle = g; joins = n; takes = t }

-- each event of these kinds
each : {A : Type 0} (f : A → Event) → ((x : A) → IsProgress (f x)) → (xs : List A) → AllByRecursion IsProgress (map f xs)
each f h xs = all_map_in IsProgress f xs (all_always (λ x. IsProgress (f x)) h xs)

each_pair : {A B : Type 0} (f : A → B → Event) → ((x : A) (y : B) → IsProgress (f x y)) → (ys : A → List B) → (xs : List A) → AllByRecursion IsProgress (flat_map (λ x. map (f x) (ys x)) xs)
each_pair f h ys xs = all_flat_map_in IsProgress (λ x. map (f x) (ys x)) xs (all_always (λ x. AllByRecursion IsProgress (map (f x) (ys x))) (λ x. each (f x) (h x) (ys x)) xs)

kinds : (w : World) → AllByRecursion (λ es. AllByRecursion IsProgress es) (progress_kinds w)
kinds w = (
  each (λ i. SeeLoss i) (λ i. easy (SeeLoss i) refl refl (λ x. refl)) (all_workers w),
  (
    each (λ i. DeliverDown i) (λ i. easy (DeliverDown i) refl refl (λ x. refl)) (connected_workers w),
    (
      each (λ i. DeliverUp i) (λ i. easy (DeliverUp i) refl refl (λ x. refl)) (connected_workers w),
      (
        each (λ c. DeliverToClient c) (λ c. easy (DeliverToClient c) refl refl (λ x. refl)) (all_clients w),
        (
          each (λ c. DeliverFromClient c) (λ c. easy (DeliverFromClient c) refl refl (λ x. refl)) (all_clients w),
          (
            each (λ i. Start i) (λ i. easy (Start i) refl refl (λ x. refl)) (connected_workers w),
            (
              each_pair (λ i k. Finish i k) (λ i k. easy (Finish i k) refl refl (λ x. refl)) (λ i. below (key_count (shape_of w))) (connected_workers w),
              (
                each_pair (λ a p. SendGather a p) (λ a p. easy (SendGather a p) refl refl (λ x. refl)) (λ a. all_workers w) (quiet_askers w),
                (
                  each (λ (q : Parcel). ServeGather q.peer q.asker q.ask) (λ q. easy (ServeGather q.peer q.asker q.ask) refl refl (λ x. refl)) w.requests,
                  (
                    each (λ (q : Parcel). ArriveGather q.asker q.peer q.ask) (λ q. easy (ArriveGather q.asker q.peer q.ask) refl refl (λ x. refl)) (filter (λ (q : Parcel). is_quiet_asker w q.asker) w.answers),
                    (
                      each_pair (λ a p. FailGather a p) (λ a p. easy (FailGather a p) refl refl (λ x. refl)) (λ a. filter (λ p. not (w.alive p)) (all_workers w)) (quiet_askers w),
                      tt,
                    ),
                  ),
                ),
              ),
            ),
          ),
        ),
      ),
    ),
  ),
)

all_get : {A : Type 0} (P : A → Type 0) (xs : List A) (n : ℕ) (x : A) → AllByRecursion P xs → slice_get xs n ≡ Some x → P x
all_get {A} P [] n x h e = absurd (no n e)
  where
    no : (n : ℕ) → slice_get {X = A} [] n ≡ Some x → ⊥
    no zero e = cc
    no (suc n) e = cc
all_get P (y ∷ ys) zero x h e = subst P (same_Some y x e) h.0
all_get P (y ∷ ys) (suc n) x h e = all_get P ys n x h.1 e

pub progress_is : (w : World) (n : ℕ) (e : Event) → slice_get (progress w) n ≡ Some e → IsProgress e
unfolding progress
progress_is w n e h = all_get IsProgress _ n e (all_of_filter IsProgress (enabled w) _ (all_flat_map_in IsProgress (λ es. es) (progress_kinds w) (kinds w))) h

-- an event that may come: enabled, gentle, and of the joins of a script at most these are left
pub record MayCome (w : World) (e : Event) (before after : List Item) : Type 0 where
  pub enabled : enabled w e ≡ true
  pub gentle : is_gentle e ≡ true
  pub joins : joins_in after + joins e ≤ joins_in before

-- what a plan and a world must have for joins to be taken
pub record HasNumbers (p : Plan) (w : World) (script : List Item) : Type 0 where
  pub threads : (1 ≤ p.threads) × (p.threads ≤ 16)
  pub numbers : w.sched.last_worker + joins_in script ≤ 128

-- an item's event is enabled where the item does something and needn't wait
item_comes : (threads : ℕ) (w : World) (i : Item) (is : List Item) → (1 ≤ threads) × (threads ≤ 16) → w.sched.last_worker ≤ 128 → is_idle w i ≡ false → is_blocked w i ≡ false → MayCome w (item_event threads i) (i ∷ is) is
unfolding enabled sched_takes
item_comes threads w (LoseItem i at) is t n idle blocked = record {
  enabled = let p = both (w.alive i) (is_connected w i) idle in p.0;
  gentle = refl;
  joins = omega arith;
}
  where
    both : (a b : Bool) → not (a && b) ≡ false → (a ≡ true) × (b ≡ true)
    both true true h = (refl, refl)
    both true false h = absurd (true≢false h)
    both false b h = absurd (true≢false h)
item_comes threads w (SuspectItem i at) is t n idle blocked = record {
  enabled = let p = both (w.alive i) (is_connected w i) idle in p.1;
  gentle = refl;
  joins = omega arith;
}
  where
    both : (a b : Bool) → not (a && b) ≡ false → (a ≡ true) × (b ≡ true)
    both true true h = (refl, refl)
    both true false h = absurd (true≢false h)
    both false b h = absurd (true≢false h)
item_comes threads w (JoinItem at) is t n idle blocked = record {
  enabled = and_from _ _ (and_from _ _ (le-leb 1 threads t.0) (le-leb threads 16 t.1)) (and_from _ _ (not-false _ blocked) (lt-ltb w.sched.last_worker 1024 (omega arith)));
  gentle = refl;
  joins = omega arith;
}

-- the same list with more in front has as many joins or more
weaker : (w : World) (e : Event) (before after : List Item) (i : Item) → MayCome w e before after → MayCome w e (i ∷ before) after
weaker w e before after i h = record { enabled = h.enabled; gentle = h.gentle; joins = more i h.joins }
  where
    more : (i : Item) → joins_in after + joins e ≤ joins_in before → joins_in after + joins e ≤ joins_in (i ∷ before)
    more (LoseItem i at) h = h
    more (SuspectItem i at) h = h
    more (JoinItem at) h = omega (arith, h)

scripted_comes : (threads : ℕ) (w : World) (is : List Item) (e : Event) (later : List Item) → (1 ≤ threads) × (threads ≤ 16) → w.sched.last_worker ≤ 128 → scripted threads w is ≡ Some (e, later) → MayCome w e is later
scripted_comes threads w [] e later t n h = absurd (no h)
  where
    no : ◌≡◌ {A = Option (Event × List Item)} None (Some (e, later)) → ⊥
    no h = cc
scripted_comes threads w (i ∷ is) e later t n h = reached (not (is_reached w i)) (λ q. scripted_comes threads w is e later t n q) h
  where
    no : ◌≡◌ {A = Option (Event × List Item)} None (Some (e, later)) → ⊥
    no h = cc

    event : ◌≡◌ {A = Option (Event × List Item)} (Some (item_event threads i, is)) (Some (e, later)) → item_event threads i ≡ e
    event h = ap (λ (p : Event × List Item). p.0) (same_Some (item_event threads i, is) (e, later) h)

    rest : ◌≡◌ {A = Option (Event × List Item)} (Some (item_event threads i, is)) (Some (e, later)) → is ≡ later
    rest h = ap (λ (p : Event × List Item). p.1) (same_Some (item_event threads i, is) (e, later) h)

    blocked : (b : Bool) → is_blocked w i ≡ b → is_idle w i ≡ false → cond {A = Option (Event × List Item)} b None (Some (item_event threads i, is)) ≡ Some (e, later) → MayCome w e (i ∷ is) later
    blocked true q z h = absurd (no h)
    blocked false q z h = subst (λ x. MayCome w x (i ∷ is) later) (event h) (subst (λ xs. MayCome w (item_event threads i) (i ∷ is) xs) (rest h) (item_comes threads w i is t n z q))

    idle : (b : Bool) → is_idle w i ≡ b → (scripted threads w is ≡ Some (e, later) → MayCome w e is later) → cond {A = Option (Event × List Item)} b (scripted threads w is) (cond {A = Option (Event × List Item)} (is_blocked w i) None (Some (item_event threads i, is))) ≡ Some (e, later) → MayCome w e (i ∷ is) later
    idle true q r h = weaker w e is later i (r h)
    idle false q r h = blocked (is_blocked w i) refl q h

    reached : (b : Bool) → (scripted threads w is ≡ Some (e, later) → MayCome w e is later) → cond {A = Option (Event × List Item)} b None (cond (is_idle w i) (scripted threads w is) (cond {A = Option (Event × List Item)} (is_blocked w i) None (Some (item_event threads i, is)))) ≡ Some (e, later) → MayCome w e (i ∷ is) later
    reached true r h = absurd (no h)
    reached false r h = idle (is_idle w i) refl r h

-- what comes next
abbrev pub Comes : Sim → Next → Type 0
Comes s (Over failure) = Unit {0}
Comes s (Scripted e later) = MayCome s.world e s.script later
Comes s Evicts = MayCome s.world Evict s.script s.script
Comes s Balances = MayCome s.world Balance s.script s.script
Comes s Spent = Unit {0}
Comes s (Drawn e) = MayCome s.world e s.script s.script

still : (w : World) (e : Event) (is : List Item) → enabled w e ≡ true → is_gentle e ≡ true → joins e ≡ 0 → MayCome w e is is
still w e is h g n = record { enabled = h; gentle = g; joins = rw n (omega arith) }

drawn_comes : (s : Sim) (o : Option Event) → ((e : Event) → o ≡ Some e → MayCome s.world e s.script s.script) → Comes s (drawn o)
drawn_comes s None h = tt
drawn_comes s (Some e) h = h e refl

turn_comes : (words : ℕ → ℕ) (s : Sim) → Comes s (turn words s)
turn_comes words s = pick (s.budget == 0)
  where
    pick : (b : Bool) → Comes s (cond b Spent (draw_one (words s.turns) (progress s.world)))
    pick true = tt
    pick false = drawn_comes s _ (λ e h. let q = progress_is s.world _ e h in still s.world e s.script (progress_enabled s.world _ e h) q.gentle q.joins)

unscripted_comes : (words : ℕ → ℕ) (s : Sim) → Comes s (unscripted words s)
unscripted_comes words s = evict (evicts_now s) refl
  where
    balance : (b : Bool) → balances_now s ≡ b → Comes s (cond b Balances (turn words s))
    balance true h = still s.world Balance s.script (and_parts _ (enabled s.world Balance) h).1 refl refl
    balance false h = turn_comes words s

    evict : (b : Bool) → evicts_now s ≡ b → Comes s (cond b Evicts (cond (balances_now s) Balances (turn words s)))
    evict true h = still s.world Evict s.script (and_parts _ (enabled s.world Evict) h).1 refl refl
    evict false h = balance (balances_now s) refl

pub next_comes : (words : ℕ → ℕ) (p : Plan) (s : Sim) → HasNumbers p s.world s.script → Comes s (next words p s)
unfolding next
next_comes words p s h = ended (over (s.world.clients 1))
  where
    item : (o : Option (Event × List Item)) → scripted p.threads s.world s.script ≡ o → Comes s (next_by words s None o)
    item None e = unscripted_comes words s
    item (Some i) e = scripted_comes p.threads s.world s.script i.0 i.1 h.threads (let n = h.numbers in omega (arith, n)) e

    ended : (o : Option (Option ℕ)) → Comes s (next_by words s o (scripted p.threads s.world s.script))
    ended (Some failure) = tt
    ended None = item (scripted p.threads s.world s.script) refl

-- so the event of what comes next may come, and the script goes on as said
pub made_comes : (j : Job) (s : Sim) (n : Next) (e : Event) → Comes s n → event_of n ≡ Some e → MayCome s.world e s.script (moved j s n).script
made_comes j s (Over failure) e h q = absurd (none-some e q)
made_comes j s (Scripted x later) e h q = subst (λ y. MayCome s.world y s.script later) (same_Some x e q) h
made_comes j s Evicts e h q = subst (λ y. MayCome s.world y s.script s.script) (same_Some Evict e q) h
made_comes j s Balances e h q = subst (λ y. MayCome s.world y s.script s.script) (same_Some Balance e q) h
made_comes j s Spent e h q = absurd (none-some e q)
made_comes j s (Drawn x) e h q = subst (λ y. MayCome s.world y s.script s.script) (same_Some x e q) h

-- where something comes, the client has not ended
pub made_waits : (words : ℕ → ℕ) (p : Plan) (s : Sim) (e : Event) → event_of (next words p s) ≡ Some e → over (s.world.clients 1) ≡ None
unfolding next
made_waits words p s e h = ended (over (s.world.clients 1)) h
  where
    ended : (o : Option (Option ℕ)) → event_of (next_by words s o (scripted p.threads s.world s.script)) ≡ Some e → o ≡ None
    ended (Some failure) q = absurd (none-some e q)
    ended None q = refl

-- nor has it where nothing comes
pub spent_waits : (words : ℕ → ℕ) (p : Plan) (s : Sim) → next words p s ≡ Spent → over (s.world.clients 1) ≡ None
unfolding next
spent_waits words p s h = ended (over (s.world.clients 1)) h
  where
    no : (failure : Option ℕ) → Over failure ≡ Spent → ⊥
    no failure h = cc

    ended : (o : Option (Option ℕ)) → next_by words s o (scripted p.threads s.world s.script) ≡ Spent → o ≡ None
    ended (Some failure) q = absurd (no failure q)
    ended None q = refl
