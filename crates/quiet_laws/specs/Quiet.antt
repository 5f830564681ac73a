-- Lists of progress events, and what is promised of them.
use Rattle.std.specs.Prelude.{◌≡◌, ℕ, ◌≤◌, true, List, [], ◌∷◌, length}
use Rattle.std.specs.List.{Contains}
use Rattle.cluster_msgs.specs.declared.events.Event.{Event}
use Rattle.cluster_rules.specs.World.{Job, World, is_connected, unfinished}
use Rattle.cluster_rules.specs.WorldStep.{world_step}
use Rattle.cluster_rules.specs.Enabled.{progress}
use Rattle.cluster_rules.specs.Runs.{run_from, legal, reached}
use Rattle.quiet_measure.specs.Bounded.{most_events}
use Rattle.quiet_measure.specs.Measure.{measure, Falls}
use Rattle.quiet_laws.specs.Calm.{IsCalm}

-- each event is an enabled progress event of the world that the earlier ones leave
abbrev pub IsQuiet : Job → World → List Event → Type 0
IsQuiet j w [] = Unit {0}
IsQuiet j w (e ∷ es) = Contains (progress w) e × IsQuiet j (world_step j w e) es

-- ## The promise

-- a quiet list has at most as many events as the formula says, and one that can't be made longer leaves nothing to wait for
pub record EndsQuietly (j : Job) (w : World) (es : List Event) : Type 0 where
  pub count : length es ≤ most_events w
  pub finished : progress (run_from j w es) ≡ [] → (c k i : ℕ) → unfinished (run_from j w es) c k ≡ true
      → (run_from j w es).alive i ≡ true → is_connected (run_from j w es) i ≡ true → ⊥

-- each quiet list does
abbrev pub QuietlyEnds : Job → World → Type 0
QuietlyEnds j w = (es : List Event) → IsQuiet j w es → EndsQuietly j w es

-- ## What it rests on, of every legal list of events

-- each progress event lowers the measure
abbrev pub ProgressFalls : Job → Type 0
ProgressFalls j = (es : List Event) → legal j es → (e : Event) → Contains (progress (reached j es)) e → Falls (reached j es) (world_step j (reached j es) e)

-- the measure is within the formula
abbrev pub IsWithin : Job → Type 0
IsWithin j = (es : List Event) → legal j es → measure (reached j es) ≤ most_events (reached j es)

-- what the measure rests on
abbrev pub StaysCalm : Job → Type 0
StaysCalm j = (es : List Event) → legal j es → IsCalm (reached j es)
