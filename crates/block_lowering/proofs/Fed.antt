-- What a key's operation makes of blocks with the shapes of its dependencies.
use Rattle.std.proofs.Common.{◌≡◌, refl, ℕ, List, [], ◌∷◌, map, ap, subst, ◌∙◌}
use Rattle.std.specs.Prelude.{IfOk, IfErr, Result, Ok, Err, Option}
use Rattle.nd_shape.specs.Block.{Array}
use Rattle.cluster_msgs.specs.Shape.{deps_of}
use Rattle.cluster_msgs.specs.declared.jobs.Outcome.{Outcome}
use Rattle.cluster_msgs.specs.declared.jobs.RunFail.{RunFail}
use Rattle.cluster_msgs.specs.declared.jobs.RunFail.TheVariants.{Feed, OutOfMemory}
use Rattle.cluster_msgs.specs.Jobs.{value_of, IfValue, CountsFault}
use Rattle.block_kernels.specs.Kernels.{result_shape, input_shapes}
use Rattle.block_kernels.specs.Inputs.{shapes_of}
use Rattle.task_graph.specs.declared.graph.Task.{Task}
use Rattle.task_graph.specs.Graphs.{task_at, shape_of}
use Rattle.task_graph.proofs.Making.{deps-at}
use Rattle.lowering_laws.specs.Whole.{AreFedAll}

abbrev dims : List Task → ℕ → List ℕ
dims tasks d = result_shape (task_at tasks d).spec

-- blocks of the dependencies' shapes have the shapes that the operation takes
pub fed-shapes : (tasks : List Task) (k : ℕ) (blocks : List Array) → AreFedAll tasks → shapes_of blocks ≡ map (λ d. result_shape (task_at tasks d).spec) (deps_of (shape_of tasks) k)
    → shapes_of blocks ≡ input_shapes (task_at tasks k).spec
fed-shapes tasks k blocks fed is = is ∙ ap (map (dims tasks)) (deps-at tasks k) ∙ fed.each k

pub no-blocks : (blocks : List Array) → shapes_of blocks ≡ [] → blocks ≡ []
no-blocks [] h = refl
no-blocks (b ∷ bs) h = absurd cc

-- a value that is known where something is told, and by another name
pub told-value : (T : Type 0) (result : Result (Outcome Array) RunFail) (made named : Option Array) → (T → IfOk result (λ o. value_of o ≡ made)) → made ≡ named
    → IfOk result (λ o. T → value_of o ≡ named)
told-value T (Ok o) made named h e = λ t. h t ∙ e
told-value T (Err f) made named h e = tt

-- lengths that are known by another name
pub dims-are : (result : Result (Outcome Array) RunFail) (ns ms : List ℕ) → IfOk result (λ o. IfValue o (λ (b : Array). b.shape ≡ ns)) → ns ≡ ms
    → IfOk result (λ o. IfValue o (λ (b : Array). b.shape ≡ ms))
dims-are result ns ms h e = subst (λ ds. IfOk result (λ o. IfValue o (λ (b : Array). b.shape ≡ ds))) e h

-- no fault is counted where memory alone can be short
pub counts-none : (result : Result (Outcome Array) RunFail) (n : ℕ) → IfErr result (λ e. e ≡ OutOfMemory) → CountsFault result n n
counts-none (Ok o) n h = refl
counts-none (Err Feed) n h = absurd cc
counts-none (Err OutOfMemory) n h = refl

module _ {H N : Type 0} (A : H → Type 0) (T : H → N → Type 0) where
  -- a value that is known of whatever is held, and by another name
  pub given-value : (U : H → N → Type 0) (result : Result (Outcome Array) RunFail) (made named : N → Option Array) → IfOk result (λ o. (h : H) (n : N) → A h → T h n → value_of o ≡ made n)
      → ((h : H) (n : N) → U h n → T h n) → ((n : N) → made n ≡ named n) → IfOk result (λ o. (h : H) (n : N) → A h → U h n → value_of o ≡ named n)
  given-value U (Ok o) made named is from e = λ h n a u. is h n a (from h n u) ∙ e n
  given-value U (Err f) made named is from e = tt

  -- a value that is known whatever is held
  pub any-value : (result : Result (Outcome Array) RunFail) (made named : N → Option Array) → ((n : N) → IfOk result (λ o. value_of o ≡ made n))
      → ((n : N) → made n ≡ named n) → IfOk result (λ o. (h : H) (n : N) → A h → T h n → value_of o ≡ named n)
  any-value (Ok o) made named is e = λ h n a t. is n ∙ e n
  any-value (Err f) made named is e = tt
