-- The ends of a call: their statuses, their lines on standard error, and which of them are ends of a run or of a simulation.
use Rattle.std.specs.Prelude.{◌≡◌, ◌⊎◌, ℕ, List, [], ◌++◌, codes, decimal, slice_index_or, Option, None, Some}
use Rattle.io_edge.specs.Cause.{Rose}
use Rattle.io_edge.specs.Content.{followed_by, PrintsPart}
use Rattle.io_edge.specs.View.{View}
use Rattle.job_run.specs.declared.ends.Ended.{Ended}
use Rattle.job_run.specs.declared.ends.Ended.TheVariants as RunEnds
use Rattle.job_run.specs.Inputs.{file_error_text}
use Rattle.job_run.specs.Values.{index_text}
use Rattle.job_text.specs.Texts.{job_error_text, quantity_text}
use Rattle.sim_run.specs.declared.ends.SimEnded.{SimEnded}
use Rattle.sim_run.specs.declared.ends.SimEnded.TheVariants as SimEnds
use Rattle.task_graph.specs.declared.limit.Quantity.{Quantity}
use Rattle.task_graph.specs.declared.limit.Quantity.TheVariants as Quantities
use Rattle.thread_run.specs.declared.ends.ThreadEnded.{ThreadEnded}
use Rattle.thread_run.specs.declared.ends.ThreadEnded.TheVariants as ThreadEnds
use Rattle.dask_top.specs.declared.answer.End.{End}
use Rattle.dask_top.specs.declared.answer.End.TheVariants.{Words, Job, Limit, Graph, Events, Done, File, Zero, Killed, ReadFault, WriteFault, OutOfMemory}
use Rattle.dask_top.specs.Reading.{Reading, plan_in}

abbrev pub status_of : End → ℕ
status_of Words = 1
status_of (Job error) = 2
status_of (Limit quantity) = 9
status_of (Graph quantity) = 9
status_of Events = 9
status_of Done = 0
status_of (File place error) = 3
status_of (Zero node block) = 4
status_of (Killed key losses) = 11
status_of ReadFault = 5
status_of WriteFault = 6
status_of OutOfMemory = 8

-- the end of a run that this is, if it is one
abbrev pub run_end : End → Option Ended
run_end Done = Some RunEnds.Done
run_end (Graph quantity) = Some (RunEnds.Limit quantity)
run_end (File place error) = Some (RunEnds.File place error)
run_end (Zero node block) = Some (RunEnds.Zero node block)
run_end (Killed key losses) = Some (RunEnds.Killed key losses)
run_end ReadFault = Some RunEnds.ReadFault
run_end WriteFault = Some RunEnds.WriteFault
run_end OutOfMemory = Some RunEnds.OutOfMemory
run_end end = None

-- the end of a run by threads that this is, if it is one
abbrev pub thread_end : End → Option ThreadEnded
thread_end Events = Some ThreadEnds.Events
thread_end Done = Some (ThreadEnds.Ran RunEnds.Done)
thread_end (Graph quantity) = Some (ThreadEnds.Ran (RunEnds.Limit quantity))
thread_end (File place error) = Some (ThreadEnds.Ran (RunEnds.File place error))
thread_end (Zero node block) = Some (ThreadEnds.Ran (RunEnds.Zero node block))
thread_end (Killed key losses) = Some (ThreadEnds.Ran (RunEnds.Killed key losses))
thread_end ReadFault = Some (ThreadEnds.Ran RunEnds.ReadFault)
thread_end WriteFault = Some (ThreadEnds.Ran RunEnds.WriteFault)
thread_end OutOfMemory = Some (ThreadEnds.Ran RunEnds.OutOfMemory)
thread_end end = None

-- the end of a simulation that this is, if it is one
abbrev pub sim_end : End → Option SimEnded
sim_end Events = Some SimEnds.Events
sim_end Done = Some (SimEnds.Ran RunEnds.Done)
sim_end (Graph quantity) = Some (SimEnds.Ran (RunEnds.Limit quantity))
sim_end (File place error) = Some (SimEnds.Ran (RunEnds.File place error))
sim_end (Zero node block) = Some (SimEnds.Ran (RunEnds.Zero node block))
sim_end (Killed key losses) = Some (SimEnds.Ran (RunEnds.Killed key losses))
sim_end ReadFault = Some (SimEnds.Ran RunEnds.ReadFault)
sim_end WriteFault = Some (SimEnds.Ran RunEnds.WriteFault)
sim_end OutOfMemory = Some (SimEnds.Ran RunEnds.OutOfMemory)
sim_end end = None

-- ## The line on standard error

-- a limit of graphs, as it is printed
abbrev pub graph_text : Quantity → List ℕ
graph_text Quantities.Keys = codes "keys"
graph_text Quantities.Edges = codes "edges"
graph_text Quantities.BlockBytes = codes "block bytes"

-- The line names the block at which a divisor is zero, a killed key with its losses, and by what was read the input that is refused.
unfoldable pub line_of : Reading → End → List ℕ
line_of reading Words = codes "dask: words\n"
line_of reading (Job error) = codes "dask: job " ++ job_error_text error ++ codes "\n"
line_of reading (Limit quantity) = codes "dask: limit " ++ quantity_text quantity ++ codes "\n"
line_of reading (Graph quantity) = codes "dask: limit " ++ graph_text quantity ++ codes "\n"
line_of reading Events = codes "dask: limit events\n"
line_of reading Done = []
line_of reading (File place error) = codes "dask: file " ++ slice_index_or (plan_in reading).inputs place [] ++ codes ": " ++ file_error_text error ++ codes "\n"
line_of reading (Zero node block) = codes "dask: zero division: node " ++ decimal node ++ codes " block " ++ index_text block ++ codes "\n"
line_of reading (Killed key losses) = codes "dask: killed worker: key " ++ decimal key ++ codes " losses " ++ decimal losses ++ codes "\n"
line_of reading ReadFault = codes "dask: read fault\n"
line_of reading WriteFault = codes "dask: write fault\n"
line_of reading OutOfMemory = codes "dask: out of memory\n"

-- standard error got this line, or a part of it and its count of faults rose
abbrev pub GetsLine : List ℕ → View → View → Type 0
GetsLine line old new = (new.err ≡ followed_by old.err line) ⊎ (PrintsPart old.err new.err line × Rose old.note_faults new.note_faults)

abbrev pub Notes : Reading → View → View → End → Type 0
Notes reading old new Done = new.err ≡ old.err
Notes reading old new end = GetsLine (line_of reading end) old new
