-- What a step of a world counts and answers.
use Rattle.std.specs.Prelude.{◌≡◌, ◌+◌, ℕ, List, Option, Some, None, Result, Ok, Err}
use Rattle.cluster_msgs.specs.Jobs.{Rose}
use Rattle.cluster_msgs.specs.declared.cores.End.{End}
use Rattle.cluster_msgs.specs.declared.cores.End.TheVariants.{Got, Erred}
use Rattle.cluster_msgs.specs.declared.events.Event.{Event}
use Rattle.cluster_laws.specs.AreValues.{IsBlamed}
use Rattle.cluster_world.specs.declared.state.State.{State}
use Rattle.cluster_world.specs.declared.state.Course.TheVariants.{Fed, Starved}
use Rattle.cluster_world.specs.Outcomes.{IsPerformed}
use Rattle.cluster_world.specs.declared.errors.StepError.{StepError}
use Rattle.cluster_world.specs.declared.errors.StepError.TheVariants.{NotEnabled, Stopped, Feed, Spent, OutOfMemory}

-- the feed's count of faults rose in a step exactly where it answers so; else it stays
abbrev pub CountsStep : {A : Type 0} → Result A StepError → ℕ → ℕ → Type 0
CountsStep (Ok done) before now = now ≡ before
CountsStep (Err Feed) before now = Rose before now
CountsStep (Err NotEnabled) before now = now ≡ before
CountsStep (Err Stopped) before now = now ≡ before
CountsStep (Err Spent) before now = now ≡ before
CountsStep (Err OutOfMemory) before now = now ≡ before

-- an event was carried out and counted, or the feed failed, or memory ran out
abbrev pub Advances : {A J B F : Type 0} → (ℕ → B → Type 0) → Type 0 → (ℕ → List B → Option B) → Event → Result A StepError → State J B F → State J B F → Type 0
Advances Fits tells op e (Ok done) old new = IsPerformed Fits tells op old new e × (new.course ≡ old.course) × (new.events ≡ old.events + 1)
Advances Fits tells op e (Err Feed) old new = new ≡ record old { feed = new.feed; course = Fed }
Advances Fits tells op e (Err OutOfMemory) old new = new.course ≡ Starved
Advances Fits tells op e (Err NotEnabled) old new = ⊥
Advances Fits tells op e (Err Stopped) old new = ⊥
Advances Fits tells op e (Err Spent) old new = ⊥

-- where a key has erred at a client, it is blamed on a key in its cone that is faulty, or excused otherwise
abbrev pub IfBlamed : {B : Type 0} → (ℕ → Type 0) → (ℕ → List ℕ) → (ℕ → Option B) → ℕ → Option End → Type 0
IfBlamed excused deps value k None = Unit {0}
IfBlamed excused deps value k (Some Got) = Unit {0}
IfBlamed excused deps value k (Some (Erred b)) = IsBlamed excused deps value k b
