-- What one call of `step` does to a world.
use Rattle.std.specs.Prelude.{◌≡◌, ◌+◌, ◌++◌, ◌↔◌, ℕ, Bool, true, false, List, [], ◌∷◌, Option, Result, Err, OnOk}
use Rattle.cluster_msgs.specs.declared.events.Event.{Event}
use Rattle.cluster_rules.specs.WorldStep.{world_step}
use Rattle.cluster_rules.specs.Enabled.{enabled}
use Rattle.cluster_laws.specs.Moves.{world_after, cluster_step}
use Rattle.safety_laws.specs.Attempts.{AttemptsEnd}
use Rattle.cluster_world.specs.declared.state.State.{State}
use Rattle.cluster_world.specs.declared.state.Course.TheVariants as course
use Rattle.cluster_world.specs.declared.errors.StepError.{StepError}
use Rattle.cluster_world.specs.declared.errors.StepError.TheVariants as error
use Rattle.cluster_world.specs.Worlds.{cluster as cluster_now, world as world_now, setting as setting_now, running, IsReady, IsMadeBy}
use Rattle.cluster_rules.specs.Runs.{event_limit}
use Rattle.cluster_world.specs.Steps.{CountsStep}

pub record IsStep {J B F : Type 0} (operation : J → ℕ → List B → Option B) (feed_tells : J → F → Type 0) (fault_count : F → ℕ) (e : Event) (r : Result (Unit {0}) StepError) (old new : State J B F) : Type 0 where
  pub ready : OnOk r (IsReady old)
  pub possible : OnOk r (enabled (world_now old) e ≡ true)
  pub world : OnOk r ((met : Bool) × (world_now new ≡ world_after met (world_now old) e))
  pub cluster : OnOk r (feed_tells old.job old.feed → cluster_now new ≡ cluster_step (operation old.job) (cluster_now old) e)
  pub goes : OnOk r (new.course ≡ old.course)
  pub events : OnOk r (new.events ≡ old.events + 1)
  pub by_values : OnOk r (feed_tells old.job old.feed → world_now new ≡ world_step (running operation old) (world_now old) e)
  pub made : OnOk r (feed_tells old.job old.feed → (es : List Event) → IsMadeBy operation es old → IsMadeBy operation (es ++ e ∷ []) new)
  pub attempts : OnOk r (AttemptsEnd (world_now old) e (world_now new))
  pub job : new.job ≡ old.job
  pub setting : setting_now new ≡ setting_now old
  pub tells : feed_tells new.job new.feed ↔ feed_tells old.job old.feed
  pub faults : CountsStep r (fault_count old.feed) (fault_count new.feed)
  pub not_enabled : (r ≡ Err error.NotEnabled) ↔ (IsReady old × (enabled (world_now old) e ≡ false))
  pub not_enabled_stays : r ≡ Err error.NotEnabled → new ≡ old
  pub spent : (r ≡ Err error.Spent) ↔ ((old.course ≡ course.Going) × (old.events ≡ event_limit))
  pub spent_stays : r ≡ Err error.Spent → new ≡ old
  pub stopped : (r ≡ Err error.Stopped) ↔ (old.course ≡ course.Fed)
  pub stopped_stays : r ≡ Err error.Stopped → new ≡ old
  pub feed : r ≡ Err error.Feed → new.course ≡ course.Fed
  pub feed_stays : r ≡ Err error.Feed → cluster_now new ≡ cluster_now old
  pub feed_made : r ≡ Err error.Feed → (es : List Event) → IsMadeBy operation es old → IsMadeBy operation es new
  pub memory : r ≡ Err error.OutOfMemory → new.course ≡ course.Starved
  pub starved : old.course ≡ course.Starved → r ≡ Err error.OutOfMemory
