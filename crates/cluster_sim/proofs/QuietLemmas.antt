-- By quiet termination a turn is left wherever something moves, and something moves while the client waits and a worker is there.
use Rattle.std.proofs.Common.{◌≡◌, ◌⊎◌, inl, inr, ℕ, zero, suc, ◌+◌, ◌-◌, ◌^◌, ◌%◌, ◌≤◌, ◌<◌, Bool, true, false, not, ◌&&◌, cond, List, [], ◌∷◌, ◌++◌, length, Option, Some, None, is_some, find, refl, sym, ap, ◌∙◌, subst, arith, append_assoc, append-nil}
use Rattle.std.specs.Prelude.{◌==◌, Contains, slice_get}
use Rattle.std.specs.List.{list_all}
use Rattle.std.proofs.Math.Nat.{mod-lt, zero-add}
use Rattle.std.proofs.lemmas.Bool.{true≢false, and_from, eqb-true, le-leb}
use Rattle.std.proofs.lemmas.List.{length-append}
use Rattle.std.proofs.lemmas.List.Elements.{Contains-get_or}
use Rattle.std.proofs.lemmas.Option.{slice_get_within, get_or_from_slice_get, slice_get-get_or, none-some, same_Some}
use Rattle.small_facts.proofs.Options.{some_not_none}
use Rattle.cluster_msgs.specs.declared.events.Event.{Event}
use Rattle.cluster_rules.specs.Sched.{Setting}
use Rattle.cluster_rules.specs.Worker.{has_any}
use Rattle.cluster_rules.specs.Client.{ClientFacts, client_keys, is_unfinished}
use Rattle.cluster_rules.specs.World.{Job, IsJob, World, opening, rest, is_connected, unfinished}
use Rattle.cluster_rules.specs.WorldStep.{world_step}
use Rattle.cluster_rules.specs.Enabled.{progress}
use Rattle.cluster_rules.specs.Runs.{legal, run_from, reached, event_limit}
use Rattle.cluster_rules.specs.Draw.{Plan, Sim, Next, Over, Scripted, Evicts, Balances, Spent, Drawn, over, over_by, opening_events, sim_from, scripted, evicts_now, balances_now, drawn, draw_one, turn, unscripted, next_by, next, event_of, moved, DrawsTo}
use Rattle.quiet_laws.specs.Quiet.{IsQuiet}
use Rattle.quiet_laws.proofs.Rest.{comes_to_rest}
use Rattle.quiet_laws.proofs.Bounded.{none_longer}
use Rattle.cluster_sim.specs.Standing.{HasTurn}
use Rattle.cluster_sim.proofs.WorldKeeps.{world_keeps}
use Rattle.cluster_sim.proofs.CourseLemmas.{moved_world}
use Rattle.cluster_world.proofs.Making.{world_more}
use Rattle.safety_laws.proofs.Attempts.{run-append, legal_first}

-- ## What a drawn event is

-- an event that was drawn is progress, and a turn was left for it
abbrev pub IsTurn : Sim → Next → Type 0
IsTurn s (Over failure) = Unit {0}
IsTurn s (Scripted e later) = Unit {0}
IsTurn s Evicts = Unit {0}
IsTurn s Balances = Unit {0}
IsTurn s Spent = Unit {0}
IsTurn s (Drawn e) = (1 ≤ s.budget) × Contains (progress s.world) e

contains_at : (xs : List Event) (n : ℕ) (e : Event) → slice_get xs n ≡ Some e → Contains xs e
contains_at xs n e h = subst (λ x. Contains xs x) (get_or_from_slice_get xs n e e h) (Contains-get_or xs n e (slice_get_within xs n e h))

not_zero : (n : ℕ) → (n == 0) ≡ false → 1 ≤ n
not_zero zero h = absurd (true≢false h)
not_zero (suc n) h = omega arith

one_drawn : (s : Sim) (o : Option Event) → 1 ≤ s.budget → ((e : Event) → o ≡ Some e → Contains (progress s.world) e) → IsTurn s (drawn o)
one_drawn s None b h = tt
one_drawn s (Some e) b h = (b, h e refl)

turn_is : (words : ℕ → ℕ) (s : Sim) → IsTurn s (turn words s)
turn_is words s = pick (s.budget == 0) refl
  where
    pick : (b : Bool) → (s.budget == 0) ≡ b → IsTurn s (cond b Spent (draw_one (words s.turns) (progress s.world)))
    pick true q = tt
    pick false q = one_drawn s _ (not_zero s.budget q) (λ e h. contains_at (progress s.world) (words s.turns % length (progress s.world)) e h)

unscripted_is : (words : ℕ → ℕ) (s : Sim) → IsTurn s (unscripted words s)
unscripted_is words s = evict (evicts_now s)
  where
    balance : (b : Bool) → IsTurn s (cond b Balances (turn words s))
    balance true = tt
    balance false = turn_is words s

    evict : (b : Bool) → IsTurn s (cond b Evicts (cond (balances_now s) Balances (turn words s)))
    evict true = tt
    evict false = balance (balances_now s)

next_is : (words : ℕ → ℕ) (p : Plan) (s : Sim) → IsTurn s (next words p s)
unfolding next
next_is words p s = ended (over (s.world.clients 1)) (scripted p.threads s.world s.script)
  where
    ended : (o : Option (Option ℕ)) (i : Option (Event × _)) → IsTurn s (next_by words s o i)
    ended (Some failure) i = tt
    ended None (Some i) = tt
    ended None None = unscripted_is words s

-- ## The events since the last that wasn't drawn

-- of the events so far, the last were drawn: as many as are missing from the bound
record Tail (j : Job) (w : World) (done : List Event) (s : Sim) : Type 0 where
  before : List Event
  quiet : List Event
  whole : done ≡ before ++ quiet
  moves : IsQuiet j (run_from j w before) quiet
  count : length quiet + s.budget ≡ rest (run_from j w before)
  here : s.world ≡ run_from j w done

quiet_more : (j : Job) (w : World) (es : List Event) (e : Event) → IsQuiet j w es → Contains (progress (run_from j w es)) e → IsQuiet j w (es ++ e ∷ [])
quiet_more j w [] e q h = (h, tt)
quiet_more j w (x ∷ xs) e q h = (q.0, quiet_more j (world_step j w x) xs e q.1 h)

tail_start : (j : Job) (p : Plan) (w : World) → Tail j w [] (sim_from p w)
tail_start j p w = record { before = []; quiet = []; whole = refl; moves = tt; count = omega arith; here = refl }

-- an event that wasn't drawn begins anew
tail_anew : (j : Job) (w : World) (done : List Event) (s t : Sim) (e : Event) → Tail j w done s → t.world ≡ world_step j s.world e → t.budget ≡ rest t.world → Tail j w (done ++ e ∷ []) t
tail_anew j w done s t e h to b = record {
  before = done ++ e ∷ [];
  quiet = [];
  whole = sym (append-nil (done ++ e ∷ []));
  moves = tt;
  count = zero-add t.budget ∙ b ∙ ap rest there;
  here = there;
}
  where
    there : t.world ≡ run_from j w (done ++ e ∷ [])
    there = to ∙ ap (λ x. world_step j x e) h.here ∙ sym (world_more j w done e)

-- a drawn one takes a turn
tail_drawn : (j : Job) (w : World) (done : List Event) (s t : Sim) (e : Event) → Tail j w done s → 1 ≤ s.budget → Contains (progress s.world) e → t.world ≡ world_step j s.world e → t.budget ≡ s.budget - 1 → Tail j w (done ++ e ∷ []) t
tail_drawn j w done s t e h some is to b = record {
  before = h.before;
  quiet = h.quiet ++ e ∷ [];
  whole = ap (λ l. l ++ e ∷ []) h.whole ∙ append_assoc h.before h.quiet (e ∷ []);
  moves = quiet_more j (run_from j w h.before) h.quiet e h.moves (subst (λ x. Contains (progress x) e) at is);
  count = let l = length-append h.quiet (e ∷ []) in let c = h.count in omega (arith, l, c, b, some);
  here = to ∙ ap (λ x. world_step j x e) h.here ∙ sym (world_more j w done e);
}
  where
    at : s.world ≡ run_from j (run_from j w h.before) h.quiet
    at = h.here ∙ ap (run_from j w) h.whole ∙ run-append j w h.before h.quiet

tail_more : (j : Job) (w : World) (done : List Event) (s : Sim) (n : Next) (e : Event) → Tail j w done s → IsTurn s n → event_of n ≡ Some e → Tail j w (done ++ e ∷ []) (moved j s n)
tail_more j w done s (Over failure) e h i q = absurd (none-some e q)
tail_more j w done s Spent e h i q = absurd (none-some e q)
tail_more j w done s (Scripted x later) e h i q = tail_anew j w done s (moved j s (Scripted x later)) e h (moved_world j s (Scripted x later) e q) refl
tail_more j w done s Evicts e h i q = tail_anew j w done s (moved j s Evicts) e h (moved_world j s Evicts e q) refl
tail_more j w done s Balances e h i q = tail_anew j w done s (moved j s Balances) e h (moved_world j s Balances e q) refl
tail_more j w done s (Drawn x) e h i q = tail_drawn j w done s (moved j s (Drawn x)) e h i.0 (subst (λ y. Contains (progress s.world) y) (same_Some x e q) i.1) (moved_world j s (Drawn x) e q) refl

tail_end : (j : Job) (words : ℕ → ℕ) (p : Plan) (w : World) (es done : List Event) (s t : Sim) → Tail j w done s → DrawsTo j words p s es t → Tail j w (done ++ es) t
tail_end j words p w [] done s t h d = subst (λ l. Tail j w l t) (sym (append-nil done)) (subst (Tail j w done) d h)
tail_end j words p w (e ∷ es) done s t h d =
    subst (λ l. Tail j w l t) (append_assoc done (e ∷ []) es)
    (tail_end j words p w es (done ++ e ∷ []) (moved j s (next words p s)) t (tail_more j w done s (next words p s) e h (next_is words p s) d.0) d.1)

-- ## Why nothing comes

-- a word picks a member of a list that has any
picked : (word : ℕ) (es : List Event) → draw_one word es ≡ Spent → has_any es ≡ false
picked word [] h = refl
picked word (e ∷ es) h = absurd (no _ (sym (ap drawn (slice_get-get_or (e ∷ es) (word % length (e ∷ es)) e (mod-lt word (omega arith)))) ∙ h))
  where
    no : (x : Event) → Drawn x ≡ Spent → ⊥
    no x q = cc

-- the turns are spent, or no progress event is enabled
pub why_spent : (words : ℕ → ℕ) (p : Plan) (s : Sim) → next words p s ≡ Spent → (s.budget ≡ 0) ⊎ (has_any (progress s.world) ≡ false)
unfolding next
why_spent words p s h = ended (over (s.world.clients 1)) (scripted p.threads s.world s.script) h
  where
    not_over : (failure : Option ℕ) → Over failure ≡ Spent → ⊥
    not_over failure q = cc

    not_scripted : (e : Event) (later : List _) → Scripted e later ≡ Spent → ⊥
    not_scripted e later q = cc

    not_evicts : Evicts ≡ Spent → ⊥
    not_evicts q = cc

    not_balances : Balances ≡ Spent → ⊥
    not_balances q = cc

    by_turn : (b : Bool) → (s.budget == 0) ≡ b → cond b Spent (draw_one (words s.turns) (progress s.world)) ≡ Spent → (s.budget ≡ 0) ⊎ (has_any (progress s.world) ≡ false)
    by_turn true z q = inl (eqb-true s.budget 0 z)
    by_turn false z q = inr (picked (words s.turns) (progress s.world) q)

    balance : (b : Bool) → cond b Balances (turn words s) ≡ Spent → (s.budget ≡ 0) ⊎ (has_any (progress s.world) ≡ false)
    balance true q = absurd (not_balances q)
    balance false q = by_turn (s.budget == 0) refl q

    evict : (b : Bool) → cond b Evicts (cond (balances_now s) Balances (turn words s)) ≡ Spent → (s.budget ≡ 0) ⊎ (has_any (progress s.world) ≡ false)
    evict true q = absurd (not_evicts q)
    evict false q = balance (balances_now s) q

    ended : (o : Option (Option ℕ)) (i : Option (Event × _)) → next_by words s o i ≡ Spent → (s.budget ≡ 0) ⊎ (has_any (progress s.world) ≡ false)
    ended (Some failure) i q = absurd (not_over failure q)
    ended None (Some i) q = absurd (not_scripted i.0 i.1 q)
    ended None None q = evict (evicts_now s) q

-- ## A client that has not ended waits for a key

-- of these keys none has failed and some is wanted and not got, so the client waits for one
abbrev WaitsAmong : ClientFacts → List ℕ → Type 0
WaitsAmong c ks = find (λ k. is_some (c.failed k)) ks ≡ None → list_all (λ k. not (c.wants k && not (c.got k))) ks ≡ false → (k : ℕ) × (is_unfinished c k ≡ true)

waits_in : (c : ClientFacts) (ks : List ℕ) → WaitsAmong c ks
waits_in c [] f a = absurd (true≢false a)
waits_in c (k ∷ ks) f a = by_failed (λ g r. waits_in c ks g r) (c.failed k) refl f
  where
    is : (w g : Bool) → not (w && not g) ≡ false → (w ≡ true) × (g ≡ false)
    is true true q = absurd (true≢false q)
    is true false q = (refl, refl)
    is false g q = absurd (true≢false q)

    unfinished_here : c.failed k ≡ None → not (c.wants k && not (c.got k)) ≡ false → is_unfinished c k ≡ true
    unfinished_here n q = let r = is (c.wants k) (c.got k) q in rw (r.0, r.1, n) refl

    by_got : WaitsAmong c ks → (b : Bool) → not (c.wants k && not (c.got k)) ≡ b → c.failed k ≡ None → find (λ k. is_some (c.failed k)) ks ≡ None → (b && list_all (λ k. not (c.wants k && not (c.got k))) ks) ≡ false → (k : ℕ) × (is_unfinished c k ≡ true)
    by_got later true q n g r = later g r
    by_got later false q n g r = (k, unfinished_here n q)

    by_failed : WaitsAmong c ks → (o : Option ℕ) → c.failed k ≡ o → cond (is_some o) (Some k) (find (λ k. is_some (c.failed k)) ks) ≡ None → (k : ℕ) × (is_unfinished c k ≡ true)
    by_failed later None n g = by_got later (not (c.wants k && not (c.got k))) refl n g a
    by_failed later (Some x) n g = absurd (some_not_none k g)

pub waits_for : (c : ClientFacts) → over c ≡ None → (k : ℕ) × (is_unfinished c k ≡ true)
waits_for c h = by_found (find (λ k. is_some (c.failed k)) (client_keys c)) refl h
  where
    all : (b : Bool) → cond {A = Option (Option ℕ)} b (Some None) None ≡ None → b ≡ false
    all true q = absurd (some_not_none None q)
    all false q = refl

    by_found : (o : Option ℕ) → find (λ k. is_some (c.failed k)) (client_keys c) ≡ o → over_by c o ≡ None → (k : ℕ) × (is_unfinished c k ≡ true)
    by_found None f q = waits_in c (client_keys c) f (all _ q)
    by_found (Some k) f q = absurd (some_not_none (c.failed k) q)

settings_stay : (j : Job) (w : World) (es : List Event) → (run_from j w es).sched.setting ≡ w.sched.setting
settings_stay j w [] = refl
settings_stay j w (e ∷ es) = settings_stay j (world_step j w e) es ∙ (world_keeps j w e).setting

-- ## What the law says

-- some progress event is enabled, or none
none_moves : (es : List Event) → has_any es ≡ false → es ≡ []
none_moves [] h = refl
none_moves (e ∷ es) h = absurd (true≢false h)

module _ (j : Job) (job : IsJob j) (words : ℕ → ℕ) (p : Plan) (wanted : List ℕ) (s : Sim) (later : List Event) (draws : DrawsTo j words p (sim_from p (reached j (opening_events p wanted))) later s)
    (lawful : legal j (opening_events p wanted ++ later)) where
  abbrev start : World
  start = reached j (opening_events p wanted)

  tail : Tail j start later s
  tail = tail_end j words p start later [] (sim_from p start) s (tail_start j p start) draws

  -- the events up to the last that wasn't drawn
  abbrev front : List Event
  front = opening_events p wanted ++ tail.before

  whole : opening_events p wanted ++ later ≡ front ++ tail.quiet
  whole = ap (λ l. opening_events p wanted ++ l) tail.whole ∙ sym (append_assoc (opening_events p wanted) tail.before tail.quiet)

  front_world : run_from j start tail.before ≡ reached j front
  front_world = sym (run-append j (opening j) (opening_events p wanted) tail.before)

  here : s.world ≡ run_from j (reached j front) tail.quiet
  here = tail.here ∙ ap (run_from j start) tail.whole ∙ run-append j start tail.before tail.quiet ∙ ap (λ w. run_from j w tail.quiet) front_world

  -- so many events that a world takes are fewer than the bound at its cap
  few : length (opening_events p wanted ++ later) ≤ event_limit → length tail.quiet < 2 ^ 128 - 1
  few short = let l = ap length whole ∙ length-append front tail.quiet in omega (arith, l, short)

  -- while something moves a turn is left
  pub turn_left : length (opening_events p wanted ++ later) ≤ event_limit → HasTurn s.world s.budget
  turn_left short moves = by s.budget refl
    where
      no_turn : s.budget ≡ 0 → ⊥
      no_turn z = absurd (true≢false (sym moves ∙ ap has_any (ap progress here ∙ none_longer j job front tail.quiet (legal_first j (opening j) front tail.quiet (subst (λ es. legal j es) whole lawful))
          (subst (λ w. IsQuiet j w tail.quiet) front_world tail.moves) (few short) (none_left (length tail.quiet) s.budget _ z tail.count ∙ ap rest front_world))))
        where
          none_left : (a b m : ℕ) → b ≡ 0 → a + b ≡ m → a ≡ m
          none_left a b m e h = omega arith

      by : (n : ℕ) → s.budget ≡ n → 1 ≤ s.budget
      by zero e = absurd (no_turn e)
      by (suc n) e = omega (arith, e)

-- while the client waits and a worker is there, something moves
pub nobody_there : (j : Job) → IsJob j → (es : List Event) (w : World) → legal j es → reached j es ≡ w → 1 ≤ j.setting.clients → over (w.clients 1) ≡ None → has_any (progress w) ≡ false → (i : ℕ) → w.alive i ≡ true → is_connected w i ≡ true → ⊥
nobody_there j job es w lawful led some ends still i alive linked =
    (comes_to_rest j job es lawful [] tt).finished (none_moves (progress (reached j es)) (ap (λ x. has_any (progress x)) led ∙ still)) 1 k.0 i
    (client (reached j es) (settings_stay j (opening j) es) k.0 (subst (λ (x : World). is_unfinished (x.clients 1) k.0 ≡ true) (sym led) k.1))
    (subst (λ (x : World). x.alive i ≡ true) (sym led) alive)
    (subst (λ x. is_connected x i ≡ true) (sym led) linked)
  where
    k : (k : ℕ) × (is_unfinished (w.clients 1) k ≡ true)
    k = waits_for (w.clients 1) ends

    client : (x : World) → x.sched.setting ≡ j.setting → (k : ℕ) → is_unfinished (x.clients 1) k ≡ true → unfinished x 1 k ≡ true
    client x e k u = and_from _ _ (and_from _ _ refl (le-leb 1 x.sched.setting.clients (subst (λ (y : Setting). 1 ≤ y.clients) (sym e) some))) u
