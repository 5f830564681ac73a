-- How the end of a job comes to be told on standard error, for the private functions.
use Rattle.std.specs.Prelude.{◌≡◌, ◌<◌, ◌⊎◌, ◌++◌, ℕ, List, length, codes, decimal}
use Rattle.std.specs.List.{flat_map}
use Rattle.job_run.specs.declared.ends.Ended.{Ended}
use Rattle.job_run.specs.declared.ends.Ended.TheVariants as RunEnds
use Rattle.gen_run.specs.declared.ends.GenEnded.{GenEnded}
use Rattle.gen_run.specs.declared.ends.GenEnded.TheVariants as GenEnds
use Rattle.dask_top.specs.declared.answer.End.{End}
use Rattle.sim_run.specs.declared.ends.SimEnded.{SimEnded}
use Rattle.sim_run.specs.declared.ends.SimEnded.TheVariants as SimEnds
use Rattle.thread_run.specs.declared.ends.ThreadEnded.{ThreadEnded}
use Rattle.thread_run.specs.declared.ends.ThreadEnded.TheVariants as ThreadEnds
use Rattle.dask_top.specs.declared.answer.End.TheVariants.{Job, Limit, Graph, Events, Done, File, Zero, Killed, ReadFault, WriteFault, OutOfMemory}
use Rattle.dask_top.specs.Reading.{Reading, plan_in}

-- an end whose line is made when it comes
abbrev pub IsRefusal : End → Type 0
IsRefusal (Job error) = Unit {0}
IsRefusal (Limit quantity) = Unit {0}
IsRefusal (File place error) = Unit {0}
IsRefusal (Zero node block) = Unit {0}
IsRefusal (Killed key losses) = Unit {0}
IsRefusal (Graph quantity) = Unit {0}
IsRefusal end = ⊥

-- an end that was told is that end, or memory for the line was wanted
abbrev pub Told : End → End → Type 0
Told before now = (now ≡ before) ⊎ (IsRefusal before × (now ≡ OutOfMemory))

-- the place that a refusal names is there
abbrev pub IsPlaced : Reading → End → Type 0
IsPlaced reading (File place error) = place < length (plan_in reading).inputs
IsPlaced reading end = Unit {0}

-- an end whose line names nothing of a job
abbrev pub IsOfText : End → Type 0
IsOfText (File place error) = ⊥
IsOfText (Zero node block) = ⊥
IsOfText (Killed key losses) = ⊥
IsOfText end = Unit {0}

-- the end of the program that a run's is
abbrev pub end_of : Ended → End
end_of RunEnds.Done = Done
end_of (RunEnds.Limit quantity) = Graph quantity
end_of (RunEnds.File place error) = File place error
end_of (RunEnds.Zero node block) = Zero node block
end_of (RunEnds.Killed key losses) = Killed key losses
end_of RunEnds.ReadFault = ReadFault
end_of RunEnds.WriteFault = WriteFault
end_of RunEnds.OutOfMemory = OutOfMemory

-- and the one that a run's by threads is
abbrev pub thread_end_of : ThreadEnded → End
thread_end_of ThreadEnds.Events = Events
thread_end_of (ThreadEnds.Ran end) = end_of end

-- and the one that a simulation's is
abbrev pub sim_end_of : SimEnded → End
sim_end_of SimEnds.Events = Events
sim_end_of (SimEnds.Ran end) = end_of end

-- and the one that the end of a simulation over no file is
abbrev pub gen_end_of : GenEnded → End
gen_end_of GenEnds.Events = Events
gen_end_of GenEnds.OutOfMemory = OutOfMemory

-- numbers as they are printed behind others
abbrev pub rest_of : List ℕ → List ℕ
rest_of numbers = flat_map (λ n. codes ", " ++ decimal n) numbers
