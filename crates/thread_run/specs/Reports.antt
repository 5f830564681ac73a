-- What is told of a run: the report of its nodes' histories, and whether they are a legal list of events together.
use Rattle.std.specs.Prelude.{◌≡◌, ℕ, List, [], ◌∷◌, ◌++◌, map, All, Bool, Option, is_some, IfSome}
use Rattle.io_edge.specs.View.{Files}
use Rattle.nd_shape.specs.Block.{Array}
use Rattle.block_kernels.specs.Kernels.{result_shape}
use Rattle.cluster_msgs.specs.Labels.{LabelFacts, label_of}
use Rattle.cluster_msgs.specs.Shape.{Shape}
use Rattle.cluster_msgs.specs.declared.events.Entry.{Entry}
use Rattle.cluster_msgs.specs.declared.events.History.{History}
use Rattle.cluster_rules.specs.Report.{report}
use Rattle.cluster_rules.specs.World.{Job}
use Rattle.cluster_laws.specs.Blocks.{setting_of}
use Rattle.task_graph.specs.declared.graph.Task.{Task}
use Rattle.task_graph.specs.Graphs.{operation, shape_of, task_at}
use Rattle.plain_eval.specs.Eval.{held_in}
use Rattle.journal_audit.specs.Audits.{DiffersAt, IsLegalJournal, events_of}
use Rattle.journal_audit.specs.Clients.{Gets}
use Rattle.journal_audit.specs.Merges.{IsMerge}
use Rattle.journal_audit.specs.Reports.{taken_of}
use Rattle.journal_audit.specs.Shapes.{shape_job}
use Rattle.node_runner.specs.Runs.{AreHistories, AreWhole, HasGot, LastFacts}
use Rattle.node_runner.specs.declared.ends.Histories.{Histories}
use Rattle.node_runner.specs.declared.plan.RunPlan.{RunPlan}
use Rattle.command_words.specs.declared.run.RunWords.{RunWords}
use Rattle.job_run.specs.Plan.{Plan}
use Rattle.job_run.specs.Values.{Named, OnInputs, tasks_of}
use Rattle.job_run.specs.Wanted.{wanted_of}
use Rattle.thread_run.specs.Feeding.{is_told}
use Rattle.thread_run.specs.declared.verdict.Told.{Told}
use Rattle.thread_run.specs.declared.verdict.Verdict.{Verdict}
use Rattle.thread_run.specs.declared.verdict.Verdict.TheVariants.{Agrees, Differs, NotComplete}

-- what the label of a run says where the inputs hold these elements
abbrev pub label : Bool → Option ℕ → Named → List Task → LabelFacts Array
label told allowed named tasks =
    label_of told allowed (shape_of tasks) (operation named tasks) (λ k. result_shape (task_at tasks k).spec) (λ b. b.shape)

-- the entries of each node: the scheduler's, those of the workers by number, and the client's
abbrev pub entries_of : Histories → List (List Entry)
entries_of h = h.scheduler.entries ∷ (map (λ (x : History). x.entries) h.workers.items ++ h.client.entries ∷ [])

-- the job that a run is audited by: its graph, one client, and what losses are allowed
abbrev pub audited : Shape → ℕ → Option ℕ → Job
audited graph saturation allowed = shape_job (setting_of graph 1 saturation allowed)

-- what is said of the entries of whole histories by their stamps: that they are a legal list of events with the messages that they took, or the stamp
-- of the first that isn't; of others that they aren't whole
abbrev pub IsVerdictOf : Job → Histories → List Entry → Verdict → Type 0
IsVerdictOf j h journal Agrees = AreWhole h × IsLegalJournal j journal
IsVerdictOf j h journal (Differs stamp) = AreWhole h × DiffersAt j journal stamp
IsVerdictOf j h journal NotComplete = AreWhole h → ⊥

-- what is told of histories, over a graph, with this saturation and these losses: of their entries by their stamps, the report, if one is told, and the
-- verdict
pub record IsToldOf (graph : Shape) (saturation : ℕ) (allowed : Option ℕ) (h : Histories) (t : Told) : Type 0 where
  pub journal : List Entry
  pub merged : IsMerge (entries_of h) journal
  pub report : IfSome t.report (λ r. r ≡ report graph (map taken_of journal))
  pub verdict : IsVerdictOf (audited graph saturation allowed) h journal t.verdict

-- the plan of a run by these words
pub record IsPlanOf (w : RunWords) (plan : RunPlan) : Type 0 where
  pub workers : plan.workers ≡ w.settings.workers
  pub threads : plan.threads ≡ w.settings.threads
  pub saturation : plan.saturation ≡ w.settings.saturation
  pub allowed : plan.allowed ≡ w.settings.allowed
  pub script : plan.script ≡ w.script

-- histories of a run with this label of a graph by this plan, each of which leads from the opening facts of its node by the steps of the cluster's
-- rules, and of which the client's says that it got all that is wanted
pub record IsServedRun (l : LabelFacts Array) (graph : Shape) (plan : RunPlan) (wanted : List ℕ) (h : Histories) : Type 0 where
  pub last : LastFacts
  pub are : AreHistories l graph plan last h
  pub got : HasGot last.client h.client.entries (is_some h.client.cut) wanted

-- histories of a run with this label of a graph by this plan, each as the rules say, of which one has passed its limit
pub record IsOutgrown (l : LabelFacts Array) (graph : Shape) (plan : RunPlan) : Type 0 where
  pub histories : Histories
  pub last : LastFacts
  pub are : AreHistories l graph plan last histories
  pub cut : AreWhole histories → ⊥

-- the same of a run by these words
pub record IsOutgrownBy (l : LabelFacts Array) (graph : Shape) (w : RunWords) : Type 0 where
  pub plan : RunPlan
  pub plan_is : IsPlanOf w plan
  pub run : IsOutgrown l graph plan

-- a legal list of a graph's events with the messages that they took, in the course of which the client got each wanted key
pub record IsLegalRun (graph : Shape) (saturation : ℕ) (allowed : Option ℕ) (wanted : List ℕ) (journal : List Entry) : Type 0 where
  pub legal : IsLegalJournal (audited graph saturation allowed) journal
  pub got : All (Gets (audited graph saturation allowed) (events_of journal) 1) wanted

-- what is said of a run by the verdict on its histories: that their entries together are a legal run; or, of histories that each go by the rules by
-- themselves, that together they first aren't legal at this stamp, or that an entry was left out
abbrev pub IsVerdictOn : LabelFacts Array → Shape → RunPlan → List ℕ → Histories → List Entry → Verdict → Type 0
IsVerdictOn l graph plan wanted h journal Agrees = AreWhole h × IsLegalRun graph plan.saturation plan.allowed wanted journal
IsVerdictOn l graph plan wanted h journal (Differs stamp) =
    AreWhole h × IsServedRun l graph plan wanted h × DiffersAt (audited graph plan.saturation plan.allowed) journal stamp
IsVerdictOn l graph plan wanted h journal NotComplete = IsServedRun l graph plan wanted h × (AreWhole h → ⊥)

-- what is told of a run: of the entries of its histories by their stamps, the report, if one is told, and the verdict
pub record IsToldOfRun (l : LabelFacts Array) (graph : Shape) (plan : RunPlan) (wanted : List ℕ) (t : Told) : Type 0 where
  pub histories : Histories
  pub journal : List Entry
  pub merged : IsMerge (entries_of histories) journal
  pub report : IfSome t.report (λ r. r ≡ report graph (map taken_of journal))
  pub verdict : IsVerdictOn l graph plan wanted histories journal t.verdict

-- the same of a run by these words
pub record IsToldBy (l : LabelFacts Array) (graph : Shape) (w : RunWords) (wanted : List ℕ) (t : Told) : Type 0 where
  pub plan : RunPlan
  pub plan_is : IsPlanOf w plan
  pub run : IsToldOfRun l graph plan wanted t

-- what is told of a run of a plan's graph by these words, over files that hold what the site tells
pub record IsToldRun (p : Plan) (w : RunWords) (files : Files) (t : Told) : Type 0 where
  pub named : Named
  pub told : Bool
  pub told_is : told ≡ is_told files p.inputs
  pub held : OnInputs p files (λ blocks. held_in blocks ≡ named)
  pub run : IsToldBy (label told w.settings.allowed named (tasks_of p)) (shape_of (tasks_of p)) w (wanted_of p) t
