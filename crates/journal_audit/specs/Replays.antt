-- A world that entries made.
use Rattle.std.specs.Prelude.{◌≡◌, ◌↔◌, ℕ, List, Option, map, Result, Ok, Err}
use Rattle.cluster_msgs.specs.Jobs.{Rose}
use Rattle.cluster_msgs.specs.declared.events.Entry.{Entry}
use Rattle.cluster_rules.specs.World.{opening}
use Rattle.cluster_rules.specs.Report.{taken}
use Rattle.cluster_world.specs.declared.state.State.{State}
use Rattle.cluster_world.specs.declared.state.Course.TheVariants.{Going}
use Rattle.cluster_world.specs.declared.errors.StepError.{StepError}
use Rattle.cluster_world.specs.declared.errors.StepError.TheVariants.{Feed, OutOfMemory}
use Rattle.cluster_world.specs.Worlds.{running, setting, IsMadeBy}
use Rattle.journal_audit.specs.Audits.{events_of}
use Rattle.journal_audit.specs.Reports.{taken_of}

-- the events of these entries made the world, and each took the message that was kept
pub record HasReplayed {J B F : Type 0} (op : J → ℕ → List B → Option B) (es : List Entry) (s : State J B F) : Type 0 where
  pub made : IsMadeBy op (events_of es) s
  pub messages : map taken_of es ≡ taken (running op s) (opening (running op s)) (events_of es)

-- what every step of a world leaves as it is, as long as it goes on
pub record GoesOn {J B F : Type 0} (tells : J → F → Type 0) (old new : State J B F) : Type 0 where
  pub job : new.job ≡ old.job
  pub setting_is : setting new ≡ setting old
  pub tells_is : tells new.job new.feed ↔ tells old.job old.feed
  pub going : new.course ≡ Going

-- an audit fails by its feed, whose count rose to that of some feed, or for want of memory, and for nothing else
abbrev pub FailsBy : {A F : Type 0} → (F → ℕ) → F → Result A StepError → Type 0
FailsBy count before (Ok done) = Unit {0}
FailsBy {A} {F} count before (Err Feed) = (f : F) × Rose (count before) (count f)
FailsBy count before (Err OutOfMemory) = Unit {0}
FailsBy count before (Err _) = ⊥
