-- What an event that comes next makes of where a simulation stands.
use Rattle.std.proofs.Common.{◌≡◌, ℕ, ◌+◌, ◌^◌, ◌≤◌, ◌<◌, Bool, true, false, cond, List, take, drop, length, Some, None, refl, sym, ap, ◌∙◌, arith, subst}
use Rattle.std.specs.List.{list_all}
use Rattle.cluster_msgs.specs.Shape.{Shape, key_count}
use Rattle.cluster_msgs.specs.declared.events.Item.{Item}
use Rattle.cluster_msgs.specs.declared.events.Event.{Event}
use Rattle.cluster_rules.specs.Sched.{Setting}
use Rattle.cluster_rules.specs.Client.{ClientFacts}
use Rattle.cluster_rules.specs.World.{Job, World, shape_of}
use Rattle.cluster_rules.specs.WorldStep.{world_step}
use Rattle.cluster_rules.specs.Draw.{Plan, next, event_of, moved}
use Rattle.cluster_rules.specs.Enabled.{enabled, message_at, message}
use Rattle.cluster_sim.specs.Plans.{IsPlan}
use Rattle.cluster_sim.specs.Seen.{tells_failure}
use Rattle.cluster_sim.specs.Standing.{sim_of, made_by, IsFor, IsStanding}
use Rattle.cluster_sim.specs.Passing.{IsKindOf, after, CanPass, IsLeft}
use Rattle.cluster_sim.specs.Drawn.{IsAtTurn}
use Rattle.cluster_sim.specs.declared.words.Words.{Words}
use Rattle.cluster_sim.specs.declared.position.Standing.{Standing}
use Rattle.cluster_sim.specs.declared.choice.Kind.{Kind}
use Rattle.cluster_sim.specs.declared.choice.Kind.TheVariants as kind
use Rattle.cluster_sim.proofs.ClientKeeps.{IsQuiet}
use Rattle.cluster_sim.proofs.WorldKeeps.{world_keeps, quiet_step}
use Rattle.cluster_sim.proofs.NextLemmas.{MayCome, next_comes, made_comes, made_waits}
use Rattle.cluster_sim.proofs.EndLemmas.{not_over, all_more}

-- the event of a choice is its own
pub event_made : (script : List Item) (e : Event) (k : Kind) → IsKindOf k e → event_of (made_by script e k) ≡ Some e
event_made script e (kind.Scripted passed) h = refl
event_made script e kind.Evicts h = ap (λ x. Some x) (sym h)
event_made script e kind.Balances h = ap (λ x. Some x) (sym h)
event_made script e kind.Drawn h = refl

-- where the simulation stands then
pub moved_after : (j : Job) (p : Plan) (w : World) (s : Standing) (b : ℕ) (e : Event) (k : Kind) → IsKindOf k e
    → sim_of p (world_step j w e) (after s k) (moved j (sim_of p w s b) (made_by p.script e k)).budget ≡ moved j (sim_of p w s b) (made_by p.script e k)
moved_after j p w s b e (kind.Scripted passed) h = refl
moved_after j p w s b e kind.Evicts h =
    ap (λ x. sim_of p (world_step j w x) (after s kind.Evicts) (moved j (sim_of p w s b) (made_by p.script x kind.Evicts)).budget) h
moved_after j p w s b e kind.Balances h =
    ap (λ x. sim_of p (world_step j w x) (after s kind.Balances) (moved j (sim_of p w s b) (made_by p.script x kind.Balances)).budget) h
moved_after j p w s b e kind.Drawn h = refl

script_after : (j : Job) (p : Plan) (w : World) (s : Standing) (b : ℕ) (e : Event) (k : Kind) → (moved j (sim_of p w s b) (made_by p.script e k)).script ≡ drop (after s k).passed p.script
script_after j p w s b e (kind.Scripted passed) = refl
script_after j p w s b e kind.Evicts = refl
script_after j p w s b e kind.Balances = refl
script_after j p w s b e kind.Drawn = refl

pub turns_after : (s : Standing) (k : Kind) (n : ℕ) → s.turns ≤ n → (after s k).turns ≤ n + 1
turns_after s (kind.Scripted passed) n h = omega arith
turns_after s kind.Evicts n h = omega arith
turns_after s kind.Balances n h = omega arith
turns_after s kind.Drawn n h = omega arith

-- the numbers have room
pub can_pass : (keys items : ℕ) (s : Standing) (k : Kind) → IsLeft keys items s k → s.turns < 2 ^ 63 → CanPass s k
can_pass keys items s (kind.Scripted passed) h u = tt
can_pass keys items s kind.Evicts h u = let p = h.0 in let q = h.1 in omega (arith, p, q)
can_pass keys items s kind.Balances h u = let p = h.0 in let q = h.1 in omega (arith, p, q)
can_pass keys items s kind.Drawn h u = omega (arith, u)

-- a word a turn
pub words_drawn : (a b : Words) (number : ℕ) (s : Standing) (k : Kind) → k ≡ kind.Drawn → ((number turn : ℕ) → IsAtTurn a number turn → IsAtTurn b number (turn + 1)) → IsAtTurn a number s.turns → IsAtTurn b number (after s k).turns
words_drawn a b number s k e next h = subst (λ x. IsAtTurn b number (after s x).turns) (sym e) (next number s.turns h)

pub words_same : (a : Words) (number : ℕ) (s : Standing) (k : Kind) → (k ≡ kind.Drawn → ⊥) → IsAtTurn a number s.turns → IsAtTurn a number (after s k).turns
words_same a number s (kind.Scripted passed) e h = h
words_same a number s kind.Evicts e h = h
words_same a number s kind.Balances e h = h
words_same a number s kind.Drawn e h = absurd (e refl)

-- the numbers of evictions, steals and items stay within theirs
record Within (keys items : ℕ) (s : Standing) : Type 0 where
  passed : s.passed ≤ items
  evicts : s.evicts ≤ keys
  balances : s.balances ≤ keys

within_after : (keys items : ℕ) (s : Standing) (k : Kind) → IsLeft keys items s k → Within keys items s → Within keys items (after s k)
within_after keys items s (kind.Scripted passed) h i = record { passed = h.1; evicts = i.evicts; balances = i.balances }
within_after keys items s kind.Evicts h i = record { passed = i.passed; evicts = (let p = h.0 in omega (arith, p)); balances = i.balances }
within_after keys items s kind.Balances h i = record { passed = i.passed; evicts = i.evicts; balances = (let p = h.0 in omega (arith, p)) }
within_after keys items s kind.Drawn h i = record { passed = i.passed; evicts = i.evicts; balances = i.balances }

-- the client still waits for the same keys
pub still_for : (t : Bool) (wanted : List ℕ) (c d : ClientFacts) → IsFor wanted c → ((k : ℕ) → c.failed k ≡ None) → IsQuiet t c d → IsFor wanted d
still_for t wanted c d h fresh q = record {
  wants = λ k. ap (λ f. f k) q.wants ∙ h.wants k;
  failed = λ k s. let r = q.failed k (fresh k) s in (sym (h.wants k) ∙ r.0, r.1);
}

-- what comes next may come
pub may_come : (words : ℕ → ℕ) (p : Plan) (wanted : List ℕ) (w : World) (s : Standing) (e : Event) (k : Kind) → IsPlan p → IsStanding p wanted w s → IsKindOf k e → made_by p.script e k ≡ next words p (sim_of p w s 1)
    → MayCome w e (drop s.passed p.script) (drop (after s k).passed p.script)
may_come words p wanted w s e k plan h own is =
    let j : Job = record { setting = w.sched.setting; zero = λ q. false } in
    let m = next_comes words p (sim_of p w s 1) (record { threads = plan.threads; numbers = h.joins }) in
    let made : MayCome w e (drop s.passed p.script) (moved j (sim_of p w s 1) (next words p (sim_of p w s 1))).script
    = made_comes j (sim_of p w s 1) (next words p (sim_of p w s 1)) e m (ap event_of (sym is) ∙ event_made p.script e k own) in
    subst (λ xs. MayCome w e (drop s.passed p.script) xs) (script_after j p w s 1 e k)
    (subst (λ n. MayCome w e (drop s.passed p.script) (moved j (sim_of p w s 1) n).script) (sym is) made)

-- and the simulation stands as well in the world that it leads to
pub standing_after : (words : ℕ → ℕ) (p : Plan) (wanted : List ℕ) (j : Job) (w v : World) (s : Standing) (e : Event) (k : Kind) → IsPlan p → IsStanding p wanted w s → IsKindOf k e → IsLeft (key_count (shape_of w)) (length p.script) s k
    → made_by p.script e k ≡ next words p (sim_of p w s 1) → v ≡ world_step j w e → IsStanding p wanted v (after s k)
standing_after words p wanted j w v s e k plan h own some is to = subst (λ x. IsStanding p wanted x (after s k)) (sym to) (record {
  client = still_for _ wanted (w.clients 1) _ h.client fresh quiet;
  shape = quiet.shape ∙ h.shape ∙ sym graph;
  keys = λ k q. subst (λ (g : Shape). k < key_count g) (sym graph) (h.keys k q);
  passed = within.passed;
  joins = let m = come.joins in let l = (world_keeps j w e).last in let n = h.joins in omega (arith, m, l, n);
  evicts = subst (λ (g : Shape). (after s k).evicts ≤ key_count g) (sym graph) within.evicts;
  balances = subst (λ (g : Shape). (after s k).balances ≤ key_count g) (sym graph) within.balances;
})
  where
    come : MayCome w e (drop s.passed p.script) (drop (after s k).passed p.script)
    come = may_come words p wanted w s e k plan h own is

    quiet : IsQuiet (tells_failure (message_at w e)) (w.clients 1) ((world_step j w e).clients 1)
    quiet = quiet_step j w e come.gentle

    graph : (world_step j w e).sched.setting.shape ≡ w.sched.setting.shape
    graph = ap (λ (x : Setting). x.shape) (world_keeps j w e).setting

    fresh : (k : ℕ) → (w.clients 1).failed k ≡ None
    fresh = not_over (w.clients 1) wanted h.client (λ k q. subst (λ (g : Shape). k < key_count g) (sym h.shape) (h.keys k q)) (made_waits words p (sim_of p w s 1) e (ap event_of (sym is) ∙ event_made p.script e k own))

    within : Within (key_count (shape_of w)) (length p.script) (after s k)
    within = within_after _ _ s k some (record { passed = h.passed; evicts = h.evicts; balances = h.balances })

-- what was seen of the client is so far seen of it in that world too: what had come is there, and it failed on nothing unless it was told
pub record IsSeenSoFar (told : Bool) (wanted : List ℕ) (c : ClientFacts) (got : ℕ) : Type 0 where
  pub before : list_all c.got (take got wanted) ≡ true
  pub silent : told ≡ false → (k : ℕ) → c.failed k ≡ None

pub seen_after : (words : ℕ → ℕ) (p : Plan) (wanted : List ℕ) (j : Job) (w v : World) (s : Standing) (e : Event) (k : Kind) (got : ℕ) → IsPlan p → IsStanding p wanted w s → IsKindOf k e
    → made_by p.script e k ≡ next words p (sim_of p w s 1) → v ≡ world_step j w e → list_all (w.clients 1).got (take got wanted) ≡ true → IsSeenSoFar (tells_failure (message w e)) wanted (v.clients 1) got
unfolding message
seen_after words p wanted j w v s e k got plan h own is to before = subst (λ (x : World). IsSeenSoFar (tells_failure (cond (enabled w e) (message_at w e) None)) wanted (x.clients 1) got) (sym to) (record {
  before = all_more (w.clients 1).got ((world_step j w e).clients 1).got quiet.got (take got wanted) before;
  silent = λ t i. quiet.silent (sym (ap (λ b. tells_failure (cond b (message_at w e) None)) come.enabled) ∙ t) i (fresh i);
})
  where
    come : MayCome w e (drop s.passed p.script) (drop (after s k).passed p.script)
    come = may_come words p wanted w s e k plan h own is

    quiet : IsQuiet (tells_failure (message_at w e)) (w.clients 1) ((world_step j w e).clients 1)
    quiet = quiet_step j w e come.gentle

    fresh : (i : ℕ) → (w.clients 1).failed i ≡ None
    fresh = not_over (w.clients 1) wanted h.client (λ i q. subst (λ (g : Shape). i < key_count g) (sym h.shape) (h.keys i q)) (made_waits words p (sim_of p w s 1) e (ap event_of (sym is) ∙ event_made p.script e k own))
