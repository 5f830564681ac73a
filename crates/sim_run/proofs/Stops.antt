-- How a simulation over open inputs ends, and what it leaves.
use Rattle.std.proofs.Common.{◌≡◌, ℕ, ◌<◌, List, length, map, refl, sym, ap, ◌∙◌, subst, inl, arith, Option, Some, None, Err}
use Rattle.std.specs.Option.{option_map}
use Rattle.std.specs.Prelude.{IfSome}
use Rattle.std.proofs.lemmas.List.{length-map}
use Rattle.io_edge.specs.Cause.{Rose}
use Rattle.io_edge.specs.View.{Files, raised_by}
use Rattle.nd_shape.specs.Block.{Array}
use Rattle.cluster_msgs.specs.Shape.{Shape, deps_of}
use Rattle.cluster_msgs.specs.Values.{val}
use Rattle.cluster_msgs.specs.declared.events.Event.{Event}
use Rattle.cluster_msgs.specs.declared.events.Report.{Report}
use Rattle.cluster_rules.specs.Draw.{Served}
use Rattle.cluster_rules.specs.Runs.{event_limit}
use Rattle.cluster_rules.specs.Sched.{Setting}
use Rattle.cluster_rules.specs.World.{Job, World}
use Rattle.cluster_laws.specs.Blocks.{job_of, setting_of}
use Rattle.cluster_world.specs.declared.state.State.{State}
use Rattle.cluster_world.specs.Worlds.{cluster, world}
use Rattle.cluster_sim.specs.Acts.{CountsSim}
use Rattle.cluster_sim.specs.Drawn.{word_of}
use Rattle.cluster_sim.specs.Faults.{key_of, IfBlamed, IsBounded, IsKill, IsNeededFault, IsNeededKilled}
use Rattle.cluster_sim.specs.Simulations.{IsReported, IsSimulated, IsUnfinished}
use Rattle.cluster_sim.specs.declared.act.SimError.{SimError}
use Rattle.cluster_sim.specs.declared.act.SimError.TheVariants as sim
use Rattle.cluster_sim.specs.declared.ended.Fault.{Fault}
use Rattle.cluster_sim.specs.declared.ended.Fault.TheVariants as faults
use Rattle.task_graph.specs.Graphs.{operation, shape_of, value}
use Rattle.lowering_laws.specs.Lowered.{lowered}
use Rattle.lowering_laws.specs.Named.{layout_of}
use Rattle.saved_files.specs.Saving.{IsLeft}
use Rattle.job_run.specs.declared.ends.Ended.{Ended}
use Rattle.job_run.specs.declared.ends.Ended.TheVariants.{Done, Limit, File, Zero, Killed, ReadFault, WriteFault, OutOfMemory}
use Rattle.job_run.specs.Evaluating.{HasLaws, array_at}
use Rattle.job_run.specs.Part.{AreLeft}
use Rattle.job_run.specs.Plan.{IsRunnable, Plan, Saved, name_at, names_saved, nodes_saved}
use Rattle.job_run.specs.Values.{MeetsNone, Named, files_of, tasks_of}
use Rattle.job_run.proofs.Evaluated.{file_saved}
use Rattle.command_words.specs.declared.sim.SimWords.{SimWords}
use Rattle.sim_run.specs.declared.ends.SimEnded.{SimEnded}
use Rattle.sim_run.specs.Jobs.{wanted_of}
use Rattle.job_run.specs.Saving.{SavesLeft, SavesWhole}
use Rattle.sim_run.specs.Serving.{EndsAtKey, GotAll, RanStops, ServesAll, ServesPart, Stops, IsEndOf, job_named}
use Rattle.sim_run.specs.Simulated.{IsKilled, IsServed, sim_plan}
use Rattle.sim_run.proofs.Got.{is-faulty, meets-none, saves-got}
use Rattle.sim_run.proofs.Simulating.{HasRun}

-- ## Why a simulation gave no result

pub stops-by : (p : Plan) (s : SimWords) (named : Named) (told reads writes : Type 0) (error : SimError) (end : SimEnded) → IsEndOf error end →
    (error ≡ sim.Spent → told → IsUnfinished (job_named p s named) (word_of s.settings.number) (sim_plan s) (wanted_of p) event_limit) → (error ≡ sim.Feed → reads) → Stops p s named told reads writes end
stops-by p s named told reads writes sim.Stuck end is spent feed = absurd is
stops-by p s named told reads writes sim.Feed end is spent feed = subst (Stops p s named told reads writes) (sym is) (feed refl)
stops-by p s named told reads writes sim.Spent end is spent feed = subst (Stops p s named told reads writes) (sym is) (λ t. spent refl t)
stops-by p s named told reads writes sim.OutOfMemory end is spent feed = subst (Stops p s named told reads writes) (sym is) tt

pub feed-rose : (A : Type 0) (error : SimError) (before now : ℕ) → CountsSim {A = A} (Err error) before now → error ≡ sim.Feed → Rose before now
feed-rose A error before now counts is = let E : SimError → Type 0 = λ x. CountsSim {A = A} (Err x) before now in subst E is counts

-- a zero divisor that the client was told of
pub zero-stops : (p : Plan) (s : SimWords) (named : Named) (told reads writes : Type 0) (key : ℕ) (end : Ended) → IsRunnable p → HasLaws p named → EndsAtKey p key end → (told → IsNeededFault (deps_of (shape_of (tasks_of p))) (value named (tasks_of p)) (wanted_of p) key) →
    RanStops p s named told reads writes end
zero-stops p s named told reads writes key Done runs laws at blamed = absurd at
zero-stops p s named told reads writes key (Limit q) runs laws at blamed = absurd at
zero-stops p s named told reads writes key (File place error) runs laws at blamed = absurd at
zero-stops p s named told reads writes key (Zero node block) runs laws at blamed = λ t. is-faulty p named key node block runs laws at (blamed t)
zero-stops p s named told reads writes key (Killed k losses) runs laws at blamed = absurd at
zero-stops p s named told reads writes key ReadFault runs laws at blamed = absurd at
zero-stops p s named told reads writes key WriteFault runs laws at blamed = absurd at
zero-stops p s named told reads writes key OutOfMemory runs laws at blamed = tt

-- ## What is left where nothing was saved

pub part-bare : (p : Plan) (s : SimWords) (named : Named) (told reads writes : Type 0) (files : Files) (end : SimEnded) → Stops p s named told reads writes end → ServesPart p s named told reads writes files files end
part-bare p s named told reads writes files end stops = record { cause = stops; left = λ t k lt. inl refl; bare = λ b. (refl, refl) }

-- ## The client got all

-- a fact of a job and what is wanted of it, where they are a plan's
pub of-plan : (p : Plan) (s : SimWords) (named : Named) (job : Job) (wanted : List ℕ) (P : Job → List ℕ → Type 0) → job ≡ job_named p s named → wanted ≡ wanted_of p → P job wanted → P (job_named p s named) (wanted_of p)
of-plan p s named job wanted P same keys h = let K : List ℕ → Type 0 = P (job_named p s named) in let J : Job → Type 0 = λ j. P j wanted in subst K keys (subst J same h)

-- the key that the client's failure is blamed on, where its operation is at fault
pub blamed-at : (p : Plan) (named : Named) (j : Job) (es : List Event) (graph : Shape) (op : ℕ → List Array → Option Array) (wanted : List ℕ) (fault : Option Fault) (key : ℕ) → graph ≡ shape_of (tasks_of p) → op ≡ operation named (tasks_of p) → wanted ≡ wanted_of p
    → fault ≡ Some (faults.Zero key) → IfBlamed j es (deps_of graph) (val (deps_of graph) op) wanted fault → IsNeededFault (deps_of (shape_of (tasks_of p))) (value named (tasks_of p)) (wanted_of p) key
blamed-at p named j es graph op wanted fault key same ops keys is blamed =
    let G : Shape → Type 0 = λ g. IfBlamed j es (deps_of g) (val (deps_of g) op) wanted fault in
    let O : (ℕ → List Array → Option Array) → Type 0 = λ f. IfBlamed j es (deps_of (shape_of (tasks_of p))) (val (deps_of (shape_of (tasks_of p))) f) wanted fault in
    let K : List ℕ → Type 0 = λ ks. IfBlamed j es (deps_of (shape_of (tasks_of p))) (value named (tasks_of p)) ks fault in
    let F : Option Fault → Type 0 = λ f. IfBlamed j es (deps_of (shape_of (tasks_of p))) (value named (tasks_of p)) (wanted_of p) f in
    subst F is (subst K keys (subst O ops (subst G same blamed)))

-- and where it was killed
pub killed-at : (j : Job) (wanted : List ℕ) (s : SimWords) (values : ℕ → Option Array) (es : List Event) (turns : ℕ) (w : World) (fault : Option Fault) (key losses : ℕ) → fault ≡ Some (faults.Killed key losses)
    → IsSimulated j (word_of s.settings.number) (sim_plan s) wanted es (Served turns (option_map key_of fault)) w → IfBlamed j es (deps_of j.setting.shape) values wanted fault → IsKilled j wanted s key
killed-at j wanted s values es turns w fault key losses is simulated blamed =
    let S : Option Fault → Type 0 = λ f. IsSimulated j (word_of s.settings.number) (sim_plan s) wanted es (Served turns (option_map key_of f)) w in
    let F : Option Fault → Type 0 = λ f. IfBlamed j es (deps_of j.setting.shape) values wanted f in
    let k : IsNeededKilled j es (deps_of j.setting.shape) wanted key losses = subst F is blamed in
    record { turns = turns; world = w; events = es; simulated = subst S is simulated; killed = k.killed; needed = k.needed }

-- told or not, it lost its worker so often
pub kill-at : (s : SimWords) (allowed : Option ℕ) (fault : Option Fault) (key losses : ℕ) → allowed ≡ s.settings.allowed → fault ≡ Some (faults.Killed key losses) → IfSome fault (IsBounded allowed s.script) → IsKill s.settings.allowed s.script losses
kill-at s allowed fault key losses same is few =
    let B : Option Fault → Type 0 = λ f. IfSome f (IsBounded s.settings.allowed s.script) in
    let A : Option ℕ → Type 0 = λ o. IfSome fault (IsBounded o s.script) in
    subst B is (subst A same few)

-- the job that is simulated is the plan's
pub job-is : (p : Plan) (s : SimWords) (named : Named) (set : Setting) (op : ℕ → List Array → Option Array) → set ≡ setting_of (shape_of (tasks_of p)) 1 s.settings.saturation s.settings.allowed → op ≡ operation named (tasks_of p) → job_of set op ≡ job_named p s named
job-is p s named set op opened ops = ap (λ x. job_of x op) opened ∙ ap (job_of (setting_of (shape_of (tasks_of p)) 1 s.settings.saturation s.settings.allowed)) ops

-- a simulation of a plan's graph, whose client got all
pub record HasServed {J F : Type 0} (p : Plan) (s : SimWords) (named : Named) (told : Type 0) (new : State J Array F) (blame : Option ℕ) (report : Report) (turns : ℕ) : Type 0 where
  pub runs : IsRunnable p
  pub laws : HasLaws p named
  pub run : told → HasRun named p.nodes (nodes_saved p) new
  pub none : blame ≡ None
  pub reported : told → IsReported (job_named p s named) (word_of s.settings.number) (sim_plan s) (wanted_of p) (Served turns blame) (world new) report

module _ {J F : Type 0} (p : Plan) (s : SimWords) (named : Named) (told : Type 0) (new : State J Array F) (blame : Option ℕ) (report : Report) (turns : ℕ) (r : HasServed p s named told new blame report turns) where
  values : told → MeetsNone p named
  values t = meets-none p named new r.runs r.laws (r.run t)

  served : told → IsServed (job_named p s named) (wanted_of p) s report turns
  served t =
      let Z : Option ℕ → Type 0 = λ z. IsReported (job_named p s named) (word_of s.settings.number) (sim_plan s) (wanted_of p) (Served turns z) (world new) report in
      record { world = world new; reported = subst Z r.none (r.reported t) }

  pub got-all : GotAll p s named told
  got-all = record { report = report; turns = turns; served = served; values = values }

  module _ (saved : List (List ℕ)) (layouts : List (List (List ℕ))) (keys : saved ≡ (lowered p.nodes (nodes_saved p)).saved) (layouts_are : layouts ≡ map (layout_of p.nodes) (nodes_saved p)) (before after : Files)
      (leaves : SavesLeft p saved layouts ((cluster new).blocks.got 1) before after) where
    many : length (names_saved p) ≡ length p.saves
    many = length-map p.saves (λ (x : Saved). x.file)

    -- parts of the right files at least
    pub left-right : told → AreLeft (names_saved p) (files_of p named) before after
    left-right t k lt =
        let l : k < length p.saves = omega (arith, lt, many) in
        let L : List ℕ → Type 0 = λ bytes. IsLeft (name_at (names_saved p) k) bytes before after in
        subst L (file_saved p named k l) (leaves k (array_at p named k) l (saves-got p named new r.runs r.laws (r.run t) saved layouts keys layouts_are k l))

    pub serves-all : SavesWhole p saved layouts ((cluster new).blocks.got 1) before after → after.created ≡ raised_by (names_saved p) before.created → ServesAll p s named told before after report turns
    serves-all whole created = record {
      served = served;
      values = values;
      whole = λ t tells k lt.
          let l : k < length p.saves = omega (arith, lt, many) in
          whole k (array_at p named k) l (saves-got p named new r.runs r.laws (r.run t) saved layouts keys layouts_are k l) tells ∙ ap Some (file_saved p named k l);
      left = left-right;
      created = created;
    }
