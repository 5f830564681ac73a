-- What an event makes of a world that is simulated.
use Rattle.std.specs.Prelude.{◌≡◌, ◌↔◌, ℕ, ◌+◌, ◌<◌, Bool, List, [], ◌∷◌, ◌++◌, Option, Result, Ok, Err}
use Rattle.cluster_msgs.specs.Jobs.{Rose}
use Rattle.cluster_msgs.specs.declared.events.Event.{Event}
use Rattle.cluster_rules.specs.WorldStep.{world_step}
use Rattle.cluster_laws.specs.Moves.{world_after}
use Rattle.cluster_world.specs.declared.state.State.{State}
use Rattle.cluster_world.specs.declared.state.Course.TheVariants.{Going}
use Rattle.cluster_world.specs.declared.errors.StepError.{StepError}
use Rattle.cluster_world.specs.declared.errors.StepError.TheVariants as step
use Rattle.cluster_world.specs.Worlds.{world, setting, running, IsMadeBy}
use Rattle.cluster_rules.specs.Runs.{event_limit}
use Rattle.cluster_sim.specs.declared.act.SimError.{SimError}
use Rattle.cluster_sim.specs.declared.act.SimError.TheVariants.{Stuck, Feed, Spent, OutOfMemory}

-- the feed's count of faults rose in a call exactly where it answers so; else it stays
abbrev pub CountsSim : {A : Type 0} → Result A SimError → ℕ → ℕ → Type 0
CountsSim (Ok done) before now = now ≡ before
CountsSim (Err Feed) before now = Rose before now
CountsSim (Err Stuck) before now = now ≡ before
CountsSim (Err Spent) before now = now ≡ before
CountsSim (Err OutOfMemory) before now = now ≡ before

-- what a simulation answers where the world refuses an event: none is refused that isn't enabled, or after a feed that failed
abbrev pub IsCause : StepError → Type 0
IsCause step.NotEnabled = ⊥
IsCause step.Stopped = ⊥
IsCause step.Feed = Unit {0}
IsCause step.Spent = Unit {0}
IsCause step.OutOfMemory = Unit {0}

abbrev pub cause : StepError → SimError
cause step.NotEnabled = Feed
cause step.Stopped = Feed
cause step.Feed = Feed
cause step.Spent = Spent
cause step.OutOfMemory = OutOfMemory

-- the world keeps its job, and its feed tells what it holds exactly where it did
pub record Stays {J B F : Type 0} (knows : J → F → Type 0) (old new : State J B F) : Type 0 where
  pub job : new.job ≡ old.job
  pub setting : setting new ≡ setting old
  pub tells : knows new.job new.feed ↔ knows old.job old.feed

-- the world took an event: by some outcome, and where its feed tells what it holds, by that of the definition
pub record IsAct {J B F : Type 0} (op : J → ℕ → List B → Option B) (tells : J → F → Type 0) (old : State J B F) (e : Event) (new : State J B F) : Type 0 where
  pub going : new.course ≡ Going
  pub room : old.events < event_limit
  pub counted : new.events ≡ old.events + 1
  pub some : (met : Bool) × (world new ≡ world_after met (world old) e)
  pub exact : tells old.job old.feed → world new ≡ world_step (running op old) (world old) e
  pub made : tells old.job old.feed → (es : List Event) → IsMadeBy op es old → IsMadeBy op (es ++ e ∷ []) new
