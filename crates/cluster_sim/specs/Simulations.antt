-- What a simulation made, and how it ended.
use Rattle.std.specs.Prelude.{◌≡◌, ◌≤◌, ℕ, true, false, List, ◌++◌, Some, None, length}
use Rattle.cluster_msgs.specs.declared.events.Event.{Event}
use Rattle.cluster_msgs.specs.declared.events.Report.{Report}
use Rattle.cluster_rules.specs.Derived.{is_in}
use Rattle.cluster_rules.specs.World.{Job, World, opening, is_connected}
use Rattle.cluster_rules.specs.Worker.{has_any}
use Rattle.cluster_rules.specs.Enabled.{progress}
use Rattle.cluster_rules.specs.Runs.{legal, reached, run_from, Safe, event_limit}
use Rattle.cluster_rules.specs.Report.{taken, report}
use Rattle.cluster_rules.specs.Draw.{Plan, Sim, Verdict, OutOfTurns, Draw, over, opening_events, sim_from, next, event_of, DrawsTo}

-- Exactly the events that the rules draw, to this end. They are legal, and so they are safe; they are no more than a world takes, and led to this
-- world.
pub record IsSimulated (j : Job) (words : ℕ → ℕ) (p : Plan) (wanted : List ℕ) (es : List Event) (v : Verdict) (w : World) : Type 0 where
  pub drawn : Draw j words p wanted es v
  pub legal : legal j es
  pub safe : Safe j es
  pub few : length es ≤ event_limit
  pub reached : reached j es ≡ w

-- the simulation of some events, with their report
pub record IsReported (j : Job) (words : ℕ → ℕ) (p : Plan) (wanted : List ℕ) (v : Verdict) (w : World) (r : Report) : Type 0 where
  pub events : List Event
  pub simulated : IsSimulated j words p wanted events v w
  pub report : r ≡ report j.setting.shape (taken j (opening j) events)

-- the same, whose report nobody gets
pub record IsCut (j : Job) (words : ℕ → ℕ) (p : Plan) (wanted : List ℕ) (v : Verdict) (w : World) : Type 0 where
  pub events : List Event
  pub simulated : IsSimulated j words p wanted events v w

-- the client waits, and nothing moves
pub record IsStuck (w : World) : Type 0 where
  pub waits : over (w.clients 1) ≡ None
  pub still : has_any (progress w) ≡ false

-- the rules draw no event more, and no worker is alive and connected
pub record IsDeserted (j : Job) (words : ℕ → ℕ) (p : Plan) (wanted : List ℕ) (w : World) : Type 0 where
  pub cut : IsCut j words p wanted OutOfTurns w
  pub nobody : (i : ℕ) → w.alive i ≡ true → is_connected w i ≡ true → ⊥

-- so many of its events were made, one after another, and no end was reached: the rules go on by another event
pub record GoesOn (j : Job) (words : ℕ → ℕ) (p : Plan) (wanted : List ℕ) (many : ℕ) : Type 0 where
  pub later : List Event
  pub stands : Sim
  pub drawn : DrawsTo j words p (sim_from p (run_from j (opening j) (opening_events p wanted))) later stands
  pub legal : legal j (opening_events p wanted ++ later)
  pub count : length (opening_events p wanted ++ later) ≡ many
  pub goes_on : (e : Event) × (event_of (next words p stands) ≡ Some e)

-- and so they are safe
pub record IsUnfinished (j : Job) (words : ℕ → ℕ) (p : Plan) (wanted : List ℕ) (many : ℕ) : Type 0 where
  pub made : GoesOn j words p wanted many
  pub safe : Safe j (opening_events p wanted ++ made.later)

-- the client has got all that is wanted
abbrev pub HasAll : World → List ℕ → Type 0
HasAll w wanted = (k : ℕ) → is_in k wanted ≡ true → (w.clients 1).got k ≡ true
