-- What a value is made of.
use Rattle.std.proofs.Common.{◌≡◌, ℕ, zero, suc, ◌<◌, List, [], ◌∷◌, length, map, get_or, refl, ap, sym, ◌∙◌, arith, Ok, Err, Some, None, ℤ}
use Rattle.std.specs.Prelude.{Option, Result, option_and_then}
use Rattle.std.proofs.Math.ListN.{get_or-map}
use Rattle.std.proofs.lemmas.List.{get_or_default, get_or-map as get_or-map-at}
use Rattle.nd_shape.specs.Block.{Array}
use Rattle.nd_grid.specs.Grid.{grid_of, block_of}
use Rattle.cluster_msgs.specs.Dags.{IsEarlier}
use Rattle.cluster_msgs.specs.Shape.{deps_of}
use Rattle.cluster_msgs.specs.Values.{with_first, all_of}
use Rattle.cluster_msgs.proofs.ValueLemmas.{val-step}
use Rattle.block_kernels.specs.Kernels.{kernel, if_ok, nth, no_grid}
use Rattle.task_graph.specs.declared.graph.Task.{Task}
use Rattle.task_graph.specs.Graphs.{task_at, no_task, shape_of, operation, value}

pub no_array : Array
no_array = record { shape = []; cells = [] }

pub deps-at : (tasks : List Task) (k : ℕ) → deps_of (shape_of tasks) k ≡ (task_at tasks k).deps
deps-at tasks k = get_or-map (λ (t : Task). t.deps) tasks k no_task

-- the same for the task that stands there
pub deps-there : (tasks : List Task) (k : ℕ) (t : Task) → k < length tasks → t ≡ get_or tasks k t → deps_of (shape_of tasks) k ≡ t.deps
deps-there tasks k t h e = deps-at tasks k ∙ ap (λ (u : Task). u.deps) (get_or_default tasks k no_task t h ∙ sym e)

then-some : {A B : Type 0} (f : A → Option B) (o : Option A) (b : B) → option_and_then f o ≡ Some b → (a : A) × (o ≡ Some a) × (f a ≡ Some b)
then-some f None b h = absurd cc
then-some f (Some a) b h = (a, refl, h)

ok-some : (r : Result Array ℕ) (b : Array) → if_ok r ≡ Some b → r ≡ Ok b
ok-some (Ok a) b h = cc
ok-some (Err p) b h = absurd cc

-- the values that a key has been made of
pub record Made (files : ℕ → List ℕ → ℤ) (tasks : List Task) (t : Task) (b : Array) : Type 0 where
  pub blocks : List Array
  pub values : all_of (map (value files tasks) t.deps) ≡ Some blocks
  pub block : block_of (kernel files t.spec (map grid_of blocks)) ≡ Ok b

pub value-made : (files : ℕ → List ℕ → ℤ) (tasks : List Task) → IsEarlier (deps_of (shape_of tasks)) → (k : ℕ) (b : Array) → value files tasks k ≡ Some b → Made files tasks (task_at tasks k) b
value-made files tasks e k b h =
    let r = then-some (operation files tasks k) (all_of (map (value files tasks) (deps_of (shape_of tasks) k))) b (sym (val-step (deps_of (shape_of tasks)) (operation files tasks) e k) ∙ h) in
    record {
      blocks = r.0;
      values = ap (λ (ds : List ℕ). all_of (map (value files tasks) ds)) (sym (deps-at tasks k)) ∙ r.1;
      block = ok-some (block_of (kernel files (task_at tasks k).spec (map grid_of r.0))) b r.2;
    }

-- ---- the inputs

first-two : {A : Type 0} (o : Option A) (os : Option (List A)) (vs : List A) → with_first o os ≡ Some vs → (x : A) × (xs : List A) × (o ≡ Some x) × (os ≡ Some xs) × (vs ≡ x ∷ xs)
first-two None os vs h = absurd cc
first-two (Some x) None vs h = absurd cc
first-two (Some x) (Some xs) vs h = (x, xs, refl, refl, cc)

pub all-length : {X A : Type 0} (f : X → Option A) (xs : List X) (vs : List A) → all_of (map f xs) ≡ Some vs → length vs ≡ length xs
all-length f [] vs h = let e : [] ≡ vs = cc in sym (ap length e)
all-length f (x ∷ xs) vs h =
    let r = first-two (f x) (all_of (map f xs)) vs h in
    ap length r.4 ∙ ap suc (all-length f xs r.1 r.3)

pub all-at : {X A : Type 0} (f : X → Option A) (xs : List X) (vs : List A) (p : ℕ) (d : X) (v : A) → all_of (map f xs) ≡ Some vs → p < length xs → f (get_or xs p d) ≡ Some (get_or vs p v)
all-at f [] vs p d v h lt = absurd (omega arith)
all-at f (x ∷ xs) vs zero d v h lt =
    let r = first-two (f x) (all_of (map f xs)) vs h in
    r.2 ∙ ap Some (sym (ap (λ ys. get_or ys 0 v) r.4))
all-at f (x ∷ xs) vs (suc p) d v h lt =
    let r = first-two (f x) (all_of (map f xs)) vs h in
    all-at f xs r.1 p d v r.3 (omega arith) ∙ ap Some (sym (ap (λ ys. get_or ys (suc p) v) r.4))

-- the input at a place is the value of the dependency there
pub record InputIs (files : ℕ → List ℕ → ℤ) (tasks : List Task) (blocks : List Array) (p key : ℕ) : Type 0 where
  pub block : Array
  pub value_is : value files tasks key ≡ Some block
  pub grid_is : nth (map grid_of blocks) p ≡ grid_of block

pub input-at : (files : ℕ → List ℕ → ℤ) (tasks : List Task) (deps : List ℕ) (blocks : List Array) (p key : ℕ) → all_of (map (value files tasks) deps) ≡ Some blocks → p < length deps → get_or deps p 0 ≡ key
    → InputIs files tasks blocks p key
input-at files tasks deps blocks p key h lt e = record {
  block = get_or blocks p no_array;
  value_is = ap (value files tasks) (sym e) ∙ all-at (value files tasks) deps blocks p 0 no_array h lt;
  grid_is = get_or-map-at grid_of blocks p no_array no_grid (omega (arith, all-length (value files tasks) deps blocks h));
}
