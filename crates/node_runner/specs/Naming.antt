-- What is said of a run.
use Rattle.std.specs.Prelude.{ℕ, Bool, false, List, [], Option, Some, None, IsTrue}
use Rattle.cluster_msgs.specs.Shape.{Shape}
use Rattle.cluster_msgs.specs.Labels.{LabelFacts, label_of}

-- the label of a run of a job, with what losses are allowed
abbrev pub run_facts : {J B : Type 0} → (J → Shape) → (J → ℕ → List B → Option B) → (J → ℕ → List ℕ) → (B → List ℕ) → Bool → Option ℕ → Option J → LabelFacts B
run_facts graph operation dims block_dims told allowed (Some job) = label_of told allowed (graph job) (operation job) (dims job) block_dims
run_facts graph operation dims block_dims told allowed None =
    record { told = false; allowed = None; deps = λ _. []; dims = λ _. []; value = λ _. None; block_dims = block_dims }

-- a feed fits the job and, where the run is told, tells what it holds
abbrev pub FitsRun : {J F : Type 0} → (J → F → Type 0) → (J → F → Type 0) → Bool → Option J → F → Type 0
FitsRun fits tells told (Some job) feed = fits job feed × (IsTrue told → tells job feed)
FitsRun fits tells told None feed = Unit {0}
