-- What the private functions answer of a simulation over open inputs.
use Rattle.std.specs.Prelude.{◌≡◌, ◌≤◌, ℕ, List, IsTrue, map, Some}
use Rattle.io_edge.specs.Given.{GivesMore}
use Rattle.io_edge.specs.View.{View, Files, OnlyWrites, raised_by}
use Rattle.cluster_msgs.specs.declared.events.Report.{Report}
use Rattle.cluster_rules.specs.World.{Job}
use Rattle.task_graph.specs.Graphs.{operation, shape_of}
use Rattle.cluster_sim.specs.Faults.{IsKill}
use Rattle.cluster_sim.specs.declared.act.SimError.{SimError}
use Rattle.cluster_sim.specs.declared.act.SimError.TheVariants as sim
use Rattle.lowering_laws.specs.Lowered.{lowered}
use Rattle.lowering_laws.specs.Named.{layout_of, name_of}
use Rattle.job_run.specs.declared.ends.Ended.{Ended}
use Rattle.job_run.specs.declared.ends.Ended.TheVariants.{Zero, Killed, ReadFault, WriteFault, OutOfMemory}
use Rattle.job_run.specs.Lowering.{counts_made}
use Rattle.job_run.specs.Part.{AreLeft, AreWhole, IsNoneOf, RaisedAtMost}
use Rattle.job_run.specs.Plan.{Plan, names_saved, nodes_saved}
use Rattle.job_run.specs.Runs.{IsSmall}
use Rattle.job_run.specs.Values.{Named, IsFaulty, MeetsNone, files_of, index_of, tasks_of}
use Rattle.command_words.specs.declared.sim.SimWords.{SimWords}
use Rattle.sim_run.specs.declared.ends.SimEnded.{SimEnded}
use Rattle.sim_run.specs.declared.ends.SimEnded.TheVariants.{Events, Ran}
use Rattle.sim_run.specs.declared.serving.Wanted.{Wanted}
use Rattle.sim_run.specs.Jobs.{wanted_of}
use Rattle.sim_run.specs.Simulated.{running, IsServed, IsKilled, IsOutOfEvents}

-- the job that is simulated, where the inputs hold these elements
abbrev pub job_named : Plan → SimWords → Named → Job
job_named p s named = running s (shape_of (tasks_of p)) (operation named (tasks_of p))

-- what is wanted of a plan: the keys of its saved blocks, and what is known of them
pub record IsWantedOf (p : Plan) (w : Wanted) : Type 0 where
  pub all_is : w.all ≡ wanted_of p
  pub saved_is : w.saved ≡ (lowered p.nodes (nodes_saved p)).saved
  pub layouts_are : w.layouts ≡ map (layout_of p.nodes) (nodes_saved p)
  pub names_are : w.names ≡ (lowered p.nodes (nodes_saved p)).names
  pub blocks_are : w.blocks ≡ counts_made p.nodes
  pub small : IsSmall p

-- how a run ends whose simulation gave no result. None is stuck
abbrev pub IsEndOf : SimError → SimEnded → Type 0
IsEndOf sim.Stuck end = ⊥
IsEndOf sim.Feed end = end ≡ Ran ReadFault
IsEndOf sim.Spent end = end ≡ Events
IsEndOf sim.OutOfMemory end = end ≡ Ran OutOfMemory

-- the block that a key is
pub record IsBlockAt (p : Plan) (key node : ℕ) (block : List ℕ) : Type 0 where
  pub number : ℕ
  pub name : name_of p.nodes (nodes_saved p) key ≡ Some (node, number)
  pub is_block : block ≡ index_of p node number

-- how a run ends that is told of a zero divisor at a key
abbrev pub EndsAtKey : Plan → ℕ → Ended → Type 0
EndsAtKey p key (Zero node block) = IsBlockAt p key node block
EndsAtKey p key OutOfMemory = Unit {0}
EndsAtKey p key end = ⊥

-- the client got all, with this report and after so many turns
pub record GotAll (p : Plan) (s : SimWords) (named : Named) (told : Type 0) : Type 0 where
  pub report : Report
  pub turns : ℕ
  pub served : told → IsServed (job_named p s named) (wanted_of p) s report turns
  pub values : told → MeetsNone p named

-- why the client's blocks weren't all saved; the two facts are the causes of faults
abbrev pub RanStops : Plan → SimWords → Named → Type 0 → Type 0 → Type 0 → Ended → Type 0
RanStops p s named told reads writes (Zero node block) = told → IsFaulty p named node block
RanStops p s named told reads writes (Killed key losses) = IsKill s.settings.allowed s.script losses × (told → IsKilled (job_named p s named) (wanted_of p) s key)
RanStops p s named told reads writes ReadFault = reads
RanStops p s named told reads writes WriteFault = GotAll p s named told × writes
RanStops p s named told reads writes OutOfMemory = Unit {0}
RanStops p s named told reads writes end = ⊥

abbrev pub Stops : Plan → SimWords → Named → Type 0 → Type 0 → Type 0 → SimEnded → Type 0
Stops p s named told reads writes Events = told → IsOutOfEvents (job_named p s named) (wanted_of p) s
Stops p s named told reads writes (Ran end) = RanStops p s named told reads writes end

-- an end at which no file was created
abbrev pub IsBare : SimEnded → Type 0
IsBare Events = Unit {0}
IsBare (Ran (Zero node block)) = Unit {0}
IsBare (Ran (Killed key losses)) = Unit {0}
IsBare (Ran ReadFault) = Unit {0}
IsBare (Ran end) = ⊥

-- nothing but creations and writes of the saved files
pub record SavesFiles (p : Plan) (old new : View) : Type 0 where
  pub others : (n : List ℕ) → IsNoneOf n (names_saved p) → new.files.held n ≡ old.files.held n
  pub tells : new.files.tells ≡ old.files.tells
  pub opened : new.files.opened ≡ old.files.opened
  pub created : RaisedAtMost (names_saved p) old.files.created new.files.created
  pub only : OnlyWrites old new
  pub write_later : old.write_faults ≤ new.write_faults

-- nothing but reads, creations and writes of the saved files
pub record ServesFiles (p : Plan) (old new : View) : Type 0 where
  pub others : (n : List ℕ) → IsNoneOf n (names_saved p) → new.files.held n ≡ old.files.held n
  pub tells : new.files.tells ≡ old.files.tells
  pub opened : new.files.opened ≡ old.files.opened
  pub created : RaisedAtMost (names_saved p) old.files.created new.files.created
  pub gave : GivesMore old.gave new.gave
  pub out : new.out ≡ old.out
  pub err : new.err ≡ old.err
  pub note_faults : new.note_faults ≡ old.note_faults
  pub print_faults : new.print_faults ≡ old.print_faults
  pub read_later : old.read_faults ≤ new.read_faults
  pub write_later : old.write_faults ≤ new.write_faults

-- the client got all, and its blocks were saved
pub record ServesAll (p : Plan) (s : SimWords) (named : Named) (told : Type 0) (old new : Files) (report : Report) (turns : ℕ) : Type 0 where
  pub served : told → IsServed (job_named p s named) (wanted_of p) s report turns
  pub values : told → MeetsNone p named
  pub whole : told → IsTrue old.tells → AreWhole (names_saved p) (files_of p named) new
  pub left : told → AreLeft (names_saved p) (files_of p named) old new
  pub created : new.created ≡ raised_by (names_saved p) old.created

-- it didn't, or they weren't all saved; the two facts are the causes of faults
pub record ServesPart (p : Plan) (s : SimWords) (named : Named) (told reads writes : Type 0) (old new : Files) (end : SimEnded) : Type 0 where
  pub cause : Stops p s named told reads writes end
  pub left : told → AreLeft (names_saved p) (files_of p named) old new
  pub bare : IsBare end → (new.held ≡ old.held) × (new.created ≡ old.created)
