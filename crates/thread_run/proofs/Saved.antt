-- The files of a run's saves, from their creation to the end of the run.
use Rattle.std.proofs.Common.{◌≡◌, ℕ, ◌≤◌, ◌<◌, Bool, List, length, ap, ◌∙◌, subst, arith, Option, Some, true}
use Rattle.std.specs.Prelude.{All, Err, IfErr, IsOk, IsTrue, None, OnOk, Result, bytes_eq}
use Rattle.std.proofs.lemmas.List.{length-map}
use Rattle.std.proofs.lemmas.Result.{IfErr-weaker}
use Rattle.io_edge.specs.declared.edge.OpenFault.{OpenFault}
use Rattle.io_edge.specs.declared.edge.OpenFault.TheVariants as fault
use Rattle.io_edge.specs.View.{Files, OnlyWrites, View, raised_by}
use Rattle.nd_shape.specs.Block.{Array}
use Rattle.block_lowering.specs.Jobs.{Job, dims_of, graph_of, made_by}
use Rattle.cluster_msgs.specs.Labels.{LabelFacts}
use Rattle.cluster_msgs.specs.Shape.{Shape, key_count}
use Rattle.task_graph.specs.declared.graph.Task.{Task}
use Rattle.task_graph.specs.Graphs.{shape_of}
use Rattle.saved_files.specs.Saving.{GivesBack, saving_at}
use Rattle.node_runner.specs.Naming.{run_facts}
use Rattle.node_runner.specs.declared.ends.RunStatus.{RunStatus}
use Rattle.job_run.specs.Evaluating.{AreOpenFor}
use Rattle.job_run.specs.Plan.{Plan, Saved, name_at, names_saved}
use Rattle.job_run.specs.Values.{Named, tasks_of}
use Rattle.job_run.specs.Wanted.{wanted_of}
use Rattle.thread_run.specs.Losses.{Losses}
use Rattle.thread_run.specs.Reports.{label}
use Rattle.thread_run.specs.Saver.{IsLabelOf, Saves, SavesOn, had_in}
use Rattle.thread_run.specs.Ends.{left_as}
use Rattle.thread_run.specs.declared.ends.ThreadEnded.{ThreadEnded}
use Rattle.thread_run.specs.Serving.{IsWhy, ServesAll, ServesPart, StopsAt}
use Rattle.thread_run.proofs.SaverEnds.{IsServed, served-all, served-left}
use Rattle.thread_run.proofs.Serves.{LeavesFiles, both-ok, creates-all, ok-holds, stopped}

-- ## The label of a run

-- what is said of a run of blocks, whose job is picked or isn't
abbrev pub facts_of : {J : Type 0} → Option J → (J → Job) → Named → Bool → Option ℕ → LabelFacts Array
facts_of picked inside named told allowed =
    run_facts (λ j. graph_of (inside j)) (λ j k blocks. made_by named (inside j) k blocks) (λ j k. dims_of (inside j) k) (λ (b : Array). b.shape) told allowed picked

-- where a job of these tasks is picked
pub facts-are : {J : Type 0} (picked : Option J) (job : J) (inside : J → Job) (named : Named) (told : Bool) (allowed : Option ℕ) (tasks : List Task) → picked ≡ Some job → (inside job).tasks ≡ tasks →
    facts_of picked inside named told allowed ≡ label told allowed named tasks
facts-are picked job inside named told allowed tasks is same = ap (λ o. facts_of o inside named told allowed) is ∙ ap (label told allowed named) same

-- and so many losses are allowed
pub facts-allow : {J : Type 0} (picked : Option J) (job : J) (inside : J → Job) (named : Named) (told : Bool) (allowed most : Option ℕ) (tasks : List Task) → picked ≡ Some job → (inside job).tasks ≡ tasks → allowed ≡ most →
    facts_of picked inside named told allowed ≡ label told most named tasks
facts-allow picked job inside named told allowed most tasks is same few = facts-are picked job inside named told allowed tasks is same ∙ ap (λ o. label told o named tasks) few

-- so it is a label of the plan's graph
pub label-of : {J : Type 0} (p : Plan) (picked : Option J) (job : J) (inside : J → Job) (named : Named) (told : Bool) (allowed : Option ℕ) → picked ≡ Some job → (inside job).tasks ≡ tasks_of p → IsLabelOf p (facts_of picked inside named told allowed)
label-of p picked job inside named told allowed is same = record { told = told; allowed = allowed; named = named; is = facts-are picked job inside named told allowed (tasks_of p) is same }

-- how many keys the graph has
pub keys-are : (p : Plan) (tasks : List Task) (graph : Shape) (many : ℕ) → tasks ≡ tasks_of p → graph ≡ shape_of tasks → many ≡ key_count graph → many ≡ length (tasks_of p)
keys-are p tasks graph many same of is = omega (arith, is, ap (λ (g : Shape). length g.deps) of, ap (λ (ts : List Task). length ts) same, length-map tasks (λ (t : Task). t.deps))

-- ## The files, while blocks are written

-- they are given back
module _ (p : Plan) (first last : Saves) (created_for : AreOpenFor p first.files) (on : SavesOn first last) where
  many-still : length last.files ≡ length p.saves
  many-still = on.same.count ∙ created_for.count

  names-still : (k : ℕ) → k < length p.saves → (saving_at last.files k).name ≡ name_at (names_saved p) k
  names-still k lt = on.same.names k (omega (arith, lt, created_for.count)) ∙ created_for.names k lt

  pub leaves : (old new : View) → GivesBack last.files old.files new.files → OnlyWrites old new → old.write_faults ≤ new.write_faults → LeavesFiles p old new
  leaves old new gives only later = record {
    others = λ n none. gives.others n (λ k lt.
        let l : k < length p.saves = omega (arith, lt, many-still) in
        ap (λ name. bytes_eq name n) (names-still k l) ∙ none k (omega (arith, l, length-map p.saves (λ (x : Saved). x.file))));
    tells = gives.tells;
    opened = gives.opened;
    created = gives.created;
    only = only;
    later = later;
  }

-- ## At the end of the run

module _ (p : Plan) (named : Named) (told : Bool) (allowed : Option ℕ) (first last : Saves) (old mid new : Files) (r : IsServed p named told allowed first last old mid new) (created : mid.created ≡ raised_by (names_saved p) old.created) where
  -- all was given and written
  pub all-served : {A B C E F G : Type 0} (keys : List ℕ) (end : Result A E) (given : Result B F) (written : Result C G) → keys ≡ wanted_of p → OnOk end (IsOk given) → OnOk end (IsOk written) → OnOk given (All (λ k. had_in last.had k ≡ true) keys) →
      OnOk written (last.fault ≡ None) → OnOk end (ServesAll p named (IsTrue told) old new)
  all-served keys end given written are gave wrote had sound =
      let H : List ℕ → Type 0 = λ ks. All (λ k. had_in last.had k ≡ true) ks in
      both-ok end given written (ServesAll p named (IsTrue told) old new) gave wrote (λ g s. served-all p named told allowed first last old mid new r (subst H are (ok-holds given (H keys) g had)) (ok-holds written (last.fault ≡ None) s sound) created)

  -- it wasn't
  pub part-served : {A B C : Type 0} (most : Losses) (reads writes : Type 0) (facts : LabelFacts Array) (keys : List ℕ) (end : Result A ThreadEnded) (given : Result B RunStatus) (written : Result C OpenFault) → facts ≡ label told allowed named (tasks_of p) → keys ≡ wanted_of p → IfErr given (IsWhy facts most keys reads) →
      (written ≡ Err fault.Failed → writes) → IfErr end (λ e. StopsAt p given written (left_as e)) → IfErr end (λ e. ServesPart p most named (IsTrue told) reads writes old new (left_as e))
  part-served most reads writes facts keys end given written is are why failed stops =
      IfErr-weaker end (λ e. StopsAt p given written (left_as e)) (λ e. ServesPart p most named (IsTrue told) reads writes old new (left_as e)) (λ e at. record {
        cause = stopped p most named told allowed reads writes facts keys given written (left_as e) r.runs r.laws is are why failed at;
        left = served-left p named told allowed first last old mid new r;
        created = creates-all (names_saved p) old.created new.created (left_as e) (r.gives.created ∙ created);
      }) stops
