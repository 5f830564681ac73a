-- Where a simulation stands, and what it does next, as the code keeps them.
use Rattle.std.specs.Prelude.{◌≡◌, ℕ, ◌+◌, ◌≤◌, ◌<◌, true, false, is_some, List, drop, length}
use Rattle.cluster_msgs.specs.Shape.{key_count}
use Rattle.cluster_msgs.specs.declared.events.Item.{Item}
use Rattle.cluster_msgs.specs.declared.events.Event.{Event}
use Rattle.cluster_rules.specs.Derived.{is_in}
use Rattle.cluster_rules.specs.Worker.{has_any}
use Rattle.cluster_rules.specs.Client.{ClientFacts}
use Rattle.cluster_rules.specs.World.{World, shape_of}
use Rattle.cluster_rules.specs.Enabled.{progress}
use Rattle.cluster_rules.specs.Draw.{Plan, Sim, Next, Over, Scripted, Evicts, Balances, Spent, Drawn}
use Rattle.cluster_sim.specs.Plans.{joins_in}
use Rattle.cluster_sim.specs.declared.position.Standing.{Standing}
use Rattle.cluster_sim.specs.declared.choice.Kind.{Kind}
use Rattle.cluster_sim.specs.declared.choice.Kind.TheVariants as kind
use Rattle.cluster_sim.specs.declared.choice.Choice.{Choice}
use Rattle.cluster_sim.specs.declared.choice.Choice.TheVariants as choice

-- the simulation that stands so in this world, with so many turns left. The code keeps no such number
abbrev pub sim_of : Plan → World → Standing → ℕ → Sim
sim_of p w s budget = record {
  world = w;
  script = drop s.passed p.script;
  turns = s.turns;
  budget = budget;
  evicts = s.evicts;
  evicted_at = s.evicted_at;
  balances = s.balances;
  balanced_at = s.balanced_at;
}

-- a turn is left where something moves
abbrev pub HasTurn : World → ℕ → Type 0
HasTurn w budget = has_any (progress w) ≡ true → 1 ≤ budget

-- what a choice is among the rules
abbrev pub made_by : List Item → Event → Kind → Next
made_by script e (kind.Scripted passed) = Scripted e (drop passed script)
made_by script e kind.Evicts = Evicts
made_by script e kind.Balances = Balances
made_by script e kind.Drawn = Drawn e

abbrev pub next_by : List Item → Choice → Next
next_by script (choice.Over failure) = Over failure
next_by script choice.Still = Spent
next_by script (choice.Make e k) = made_by script e k

-- the client waits for these keys alone, and where it was told of a failure, for one of them that it hasn't got
pub record IsFor (wanted : List ℕ) (c : ClientFacts) : Type 0 where
  pub wants : (k : ℕ) → c.wants k ≡ is_in k wanted
  pub failed : (k : ℕ) → is_some (c.failed k) ≡ true → (is_in k wanted ≡ true) × (c.got k ≡ false)

-- what holds of a simulation whatever its feed answers, between any two of its events
pub record IsStanding (p : Plan) (wanted : List ℕ) (w : World) (s : Standing) : Type 0 where
  pub client : IsFor wanted (w.clients 1)
  pub shape : (w.clients 1).shape ≡ shape_of w
  pub keys : (k : ℕ) → is_in k wanted ≡ true → k < key_count (shape_of w)
  pub passed : s.passed ≤ length p.script
  pub joins : w.sched.last_worker + joins_in (drop s.passed p.script) ≤ 128
  pub evicts : s.evicts ≤ key_count (shape_of w)
  pub balances : s.balances ≤ key_count (shape_of w)
