-- The events of a simulation up to some point, and where they led.
use Rattle.std.specs.Prelude.{ℕ, List, ◌++◌, Option}
use Rattle.cluster_msgs.specs.declared.events.Event.{Event}
use Rattle.cluster_rules.specs.World.{opening}
use Rattle.cluster_rules.specs.Runs.{reached}
use Rattle.cluster_rules.specs.Report.{taken}
use Rattle.cluster_rules.specs.Draw.{Plan, Sim, opening_events, sim_from, DrawsTo}
use Rattle.cluster_world.specs.declared.state.State.{State}
use Rattle.cluster_world.specs.Worlds.{running, IsMadeBy}
use Rattle.run_report.specs.Counts.{IsCountOf}
use Rattle.run_report.specs.declared.tally.Tally.{Tally}

-- these events made the world, and were counted for the report
pub record IsCounted {J B F : Type 0} (op : J → ℕ → List B → Option B) (es : List Event) (s : State J B F) (t : Tally) : Type 0 where
  pub made : IsMadeBy op es s
  pub counted : IsCountOf t (taken (running op s) (opening (running op s)) es)

-- the opening events, and then those that came next
pub record Course {J B F : Type 0} (op : J → ℕ → List B → Option B) (words : ℕ → ℕ) (p : Plan) (wanted : List ℕ) (at : Sim) (s : State J B F) (t : Tally) : Type 0 where
  pub later : List Event
  pub drawn : DrawsTo (running op s) words p (sim_from p (reached (running op s) (opening_events p wanted))) later at
  pub all : IsCounted op (opening_events p wanted ++ later) s t
