-- The beginning of a run of a named job.
use Rattle.std.proofs.Common.{◌≡◌, ℕ, Bool, List, refl, sym, ap, subst}
use Rattle.std.specs.Prelude.{Option, Some}
use Rattle.cluster_msgs.specs.Shape.{Shape, deps_of}
use Rattle.node_runner.specs.Naming.{run_facts}

-- the dependencies of the label are those of the job's graph
pub deps_named : {J B : Type 0} (graph : J → Shape) (op : J → ℕ → List B → Option B) (dims : J → ℕ → List ℕ) (block_dims : B → List ℕ) (told : Bool)
    (allowed : Option ℕ) (named : Option J) (job : J) (s : Shape) → named ≡ Some job → s ≡ graph job
    → (run_facts graph op dims block_dims told allowed named).deps ≡ deps_of s
deps_named graph op dims block_dims told allowed named job s is same =
    subst (λ n. (run_facts graph op dims block_dims told allowed n).deps ≡ deps_of s) (sym is) (ap deps_of (sym same))

-- and what it allows is what the run allows
pub allowed_named : {J B : Type 0} (graph : J → Shape) (op : J → ℕ → List B → Option B) (dims : J → ℕ → List ℕ) (block_dims : B → List ℕ) (told : Bool)
    (allowed : Option ℕ) (named : Option J) (job : J) → named ≡ Some job → (run_facts graph op dims block_dims told allowed named).allowed ≡ allowed
allowed_named graph op dims block_dims told allowed named job is = subst (λ n. (run_facts graph op dims block_dims told allowed n).allowed ≡ allowed) (sym is) refl
