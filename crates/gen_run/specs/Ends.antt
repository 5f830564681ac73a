-- How the simulation of a job over no file ends, why it ends so, and the lines that it gives.
use Rattle.std.specs.Prelude.{◌≡◌, ℕ, List}
use Rattle.cluster_msgs.specs.declared.events.Report.{Report}
use Rattle.command_words.specs.declared.generate.GenWords.{GenWords}
use Rattle.job_run.specs.Plan.{Plan}
use Rattle.job_run.specs.Values.{MeetsNone}
use Rattle.sim_run.specs.declared.ends.SimEnded.{SimEnded}
use Rattle.sim_run.specs.declared.ends.SimEnded.TheVariants as SimEnds
use Rattle.sim_run.specs.Simulated.{IsServed, IsOutOfEvents}
use Rattle.gen_run.specs.declared.ends.GenEnded.{GenEnded}
use Rattle.gen_run.specs.declared.ends.GenEnded.TheVariants.{Events, OutOfMemory}
use Rattle.gen_run.specs.Alone.{SimulatesAlone}
use Rattle.gen_run.specs.Lines.{lines_of, no_elements}

-- The lines of a simulation in which the client got all, with the digest of the file that the sequential evaluation makes.
pub record AreLines (p : Plan) (w : GenWords) (lines : List ℕ) : Type 0 where
  pub report : Report
  pub turns : ℕ
  pub served : SimulatesAlone p w (λ job wanted said. IsServed job wanted said report turns)
  -- no block that it rests on meets a zero divisor
  pub values : MeetsNone p no_elements
  pub are : lines ≡ lines_of p report turns

-- why there are no lines
abbrev pub Cause : Plan → GenWords → GenEnded → Type 0
Cause p w Events = SimulatesAlone p w IsOutOfEvents
Cause p w OutOfMemory = Unit {0}

-- the end that a simulated run's is, where its site is one in memory
abbrev pub end_of : SimEnded → GenEnded
end_of SimEnds.Events = Events
end_of (SimEnds.Ran end) = OutOfMemory
