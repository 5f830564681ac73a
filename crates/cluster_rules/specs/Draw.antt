-- The events that the simulator makes: the script's, evictions and steals at their turns, else a drawn progress event.
use Rattle.std.specs.Prelude.{◌≡◌, ℕ, ◌+◌, ◌-◌, ◌%◌, ◌==◌, nat_lt, nat_le, Bool, false, not, ◌&&◌, List, [], ◌∷◌, ◌++◌, Option, Some, None, is_some, find, cond, length, replicate, slice_get}
use Rattle.std.specs.List.{list_all}
use Rattle.cluster_msgs.specs.Shape.{key_count}
use Rattle.cluster_msgs.specs.declared.events.Item.{Item}
use Rattle.cluster_msgs.specs.declared.events.Item.TheVariants.{Lose as LoseItem, Suspect as SuspectItem, Join as JoinItem}
use Rattle.cluster_msgs.specs.declared.events.Event.{Event}
use Rattle.cluster_msgs.specs.declared.events.Event.TheVariants.{Want, Join, Lose, Suspect, Balance, Evict}
use Rattle.cluster_rules.specs.Sched.{workers}
use Rattle.cluster_rules.specs.Client.{ClientFacts, client_keys}
use Rattle.cluster_rules.specs.World.{Job, World, opening, shape_of, is_connected, rest}
use Rattle.cluster_rules.specs.WorldStep.{world_step}
use Rattle.cluster_rules.specs.Enabled.{enabled, progress}
use Rattle.cluster_rules.specs.Runs.{run_from}

-- how many workers join at first, with how many threads each, and what the script makes happen
pub record Plan : Type 0 where
  pub workers : ℕ
  pub threads : ℕ
  pub script : List Item

-- where a simulation stands
pub record Sim : Type 0 where
  pub world : World
  pub script : List Item  -- what is left of it
  pub turns : ℕ  -- how many progress events were drawn
  pub budget : ℕ
  pub evicts : ℕ  -- how many evictions were made
  pub evicted_at : ℕ  -- the number of turns at the last of them
  pub balances : ℕ
  pub balanced_at : ℕ

-- the events before the first turn
abbrev pub opening_events : Plan → List ℕ → List Event
opening_events p wanted = replicate p.workers (Join p.threads) ++ Want 1 wanted ∷ []

abbrev pub sim_from : Plan → World → Sim
sim_from p w = record { world = w; script = p.script; turns = 0; budget = rest w; evicts = 0; evicted_at = 0; balances = 0; balanced_at = 0 }

-- what comes next
pub data Next : Type 0 where
  Over : (failure : Option ℕ) → Next  -- the client was served, or told of a failure
  Scripted : (e : Event) → (later : List Item) → Next
  Evicts : Next
  Balances : Next
  Spent : Next  -- no turn is left, or no progress event is enabled
  Drawn : (e : Event) → Next

-- 1. a failed key, the least, is told with its blame; else the client has got all
abbrev pub over_by : ClientFacts → Option ℕ → Option (Option ℕ)
over_by c (Some k) = Some (c.failed k)
over_by c None = cond (list_all (λ k. not (c.wants k && not (c.got k))) (client_keys c)) (Some None) None

abbrev pub over : ClientFacts → Option (Option ℕ)
over c = over_by c (find (λ k. is_some (c.failed k)) (client_keys c))

-- the finishes that an item waits for
abbrev pub item_at : Item → ℕ
item_at (LoseItem i at) = at
item_at (SuspectItem i at) = at
item_at (JoinItem at) = at

abbrev pub is_reached : World → Item → Bool
is_reached w i = nat_le (item_at i) w.sched.finishes

-- a loss or suspicion of a worker that isn't alive and connected does nothing; a join waits while 64 workers are connected
abbrev pub is_idle : World → Item → Bool
is_idle w (LoseItem i at) = not (w.alive i && is_connected w i)
is_idle w (SuspectItem i at) = not (w.alive i && is_connected w i)
is_idle w (JoinItem at) = false

abbrev pub is_blocked : World → Item → Bool
is_blocked w (LoseItem i at) = false
is_blocked w (SuspectItem i at) = false
is_blocked w (JoinItem at) = not (nat_lt (length (workers w.sched)) 64)

abbrev pub item_event : ℕ → Item → Event
item_event threads (LoseItem i at) = Lose i
item_event threads (SuspectItem i at) = Suspect i
item_event threads (JoinItem at) = Join threads

-- 2. the next item that is reached and does something
abbrev pub scripted : ℕ → World → List Item → Option (Event × List Item)
scripted threads w [] = None
scripted threads w (i ∷ is) =
    cond (not (is_reached w i)) None
    (cond (is_idle w i) (scripted threads w is)
    (cond (is_blocked w i) None (Some (item_event threads i, is))))

-- 3. and 4. at each of these many turns once, and not more often than there are keys
abbrev pub is_time : ℕ → ℕ → ℕ → ℕ → ℕ → Bool
is_time every turns made made_at keys = (turns % every == 0 && not (turns == 0)) && (not (turns == made_at) && nat_lt made keys)

abbrev pub evicts_now : Sim → Bool
evicts_now s = is_time 32 s.turns s.evicts s.evicted_at (key_count (shape_of s.world)) && enabled s.world Evict

abbrev pub balances_now : Sim → Bool
balances_now s = is_time 8 s.turns s.balances s.balanced_at (key_count (shape_of s.world)) && enabled s.world Balance

-- 5. and 6. one of the enabled progress events, by a word of the generator
abbrev pub drawn : Option Event → Next
drawn None = Spent
drawn (Some e) = Drawn e

abbrev pub draw_one : ℕ → List Event → Next
draw_one word es = drawn (slice_get es (word % length es))

abbrev pub turn : (ℕ → ℕ) → Sim → Next
turn words s = cond (s.budget == 0) Spent (draw_one (words s.turns) (progress s.world))

abbrev pub unscripted : (ℕ → ℕ) → Sim → Next
unscripted words s = cond (evicts_now s) Evicts (cond (balances_now s) Balances (turn words s))

abbrev pub next_by : (ℕ → ℕ) → Sim → Option (Option ℕ) → Option (Event × List Item) → Next
next_by words s (Some failure) item = Over failure
next_by words s None (Some i) = Scripted i.0 i.1
next_by words s None None = unscripted words s

unfoldable pub next : (ℕ → ℕ) → Plan → Sim → Next
next words p s = next_by words s (over (s.world.clients 1)) (scripted p.threads s.world s.script)

-- the event that is made, and where the simulation stands after it. Each event that wasn't drawn sets the budget anew
abbrev pub event_of : Next → Option Event
event_of (Over failure) = None
event_of (Scripted e later) = Some e
event_of Evicts = Some Evict
event_of Balances = Some Balance
event_of Spent = None
event_of (Drawn e) = Some e

abbrev pub with_budget : Sim → World → Sim
with_budget s w = record s { world = w; budget = rest w }

abbrev pub moved : Job → Sim → Next → Sim
moved j s (Over failure) = s
moved j s (Scripted e later) = with_budget (record s { script = later }) (world_step j s.world e)
moved j s Evicts = with_budget (record s { evicts = s.evicts + 1; evicted_at = s.turns }) (world_step j s.world Evict)
moved j s Balances = with_budget (record s { balances = s.balances + 1; balanced_at = s.turns }) (world_step j s.world Balance)
moved j s Spent = s
moved j s (Drawn e) = record s { world = world_step j s.world e; turns = s.turns + 1; budget = s.budget - 1 }

-- how a simulation ends: after so many turns, with the key to blame where the client was told of a failure, or with its turns spent
pub data Verdict : Type 0 where
  Served : (turns : ℕ) → (failure : Option ℕ) → Verdict
  OutOfTurns : Verdict

abbrev pub verdict : Sim → Next → Option Verdict
verdict s (Over failure) = Some (Served s.turns failure)
verdict s Spent = Some OutOfTurns
verdict s (Scripted e later) = None
verdict s Evicts = None
verdict s Balances = None
verdict s (Drawn e) = None

-- each of these events came next, and they led here
abbrev pub DrawsTo : Job → (ℕ → ℕ) → Plan → Sim → List Event → Sim → Type 0
DrawsTo j words p s [] t = s ≡ t
DrawsTo j words p s (e ∷ es) t = (event_of (next words p s) ≡ Some e) × DrawsTo j words p (moved j s (next words p s)) es t

-- the events are those that come next, one after another, up to this end
abbrev pub DrawnFrom : Job → (ℕ → ℕ) → Plan → Sim → List Event → Verdict → Type 0
DrawnFrom j words p s [] v = verdict s (next words p s) ≡ Some v
DrawnFrom j words p s (e ∷ es) v = (event_of (next words p s) ≡ Some e) × DrawnFrom j words p (moved j s (next words p s)) es v

-- the events of a simulation by these words of the generator, from the opening world on
pub record Draw (j : Job) (words : ℕ → ℕ) (p : Plan) (wanted : List ℕ) (es : List Event) (v : Verdict) : Type 0 where
  pub later : List Event
  pub whole : es ≡ opening_events p wanted ++ later
  pub drawn : DrawnFrom j words p (sim_from p (run_from j (opening j) (opening_events p wanted))) later v
