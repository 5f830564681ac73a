-- What the tasks of a stage hold, from what each of them makes of its inputs.
use Rattle.std.proofs.Common.{◌≡◌, ℕ, ◌+◌, ◌-◌, ◌*◌, ◌<◌, List, [], ◌∷◌, ◌++◌, length, map, refl, ap, sym, subst, ◌∙◌, arith, Ok, Some, ℤ, length-append}
use Rattle.std.specs.List.{range_with_len}
use Rattle.std.proofs.lemmas.List.{get_or_append_left, get_or-append_right}
use Rattle.std.proofs.lemmas.List.FromFn.{length-map-range_with_len, get_or-map-range_with_len}
use Rattle.nd_shape.specs.Block.{Array}
use Rattle.nd_shape.specs.Index.{IsIn, place, index_at}
use Rattle.nd_shape.specs.Region.{Box, moved}
use Rattle.nd_shape.proofs.Places.{index_at-in, place-below}
use Rattle.nd_grid.specs.Grid.{Grid, grid_of, block_of, Holds}
use Rattle.nd_grid.proofs.Cells.{block-at, block-shape}
use Rattle.chunk_layout.specs.Layouts.{counts, lengths, blocks, box_at, region}
use Rattle.chunk_layout.proofs.Parting.{region-place, moved-in_box}
use Rattle.cluster_msgs.specs.Dags.{IsEarlier}
use Rattle.cluster_msgs.specs.Shape.{deps_of}
use Rattle.cluster_msgs.specs.Values.{all_of}
use Rattle.block_kernels.specs.Kernels.{kernel, nth}
use Rattle.task_graph.specs.declared.graph.Task.{Task}
use Rattle.task_graph.specs.Graphs.{task_at, no_task, shape_of, value}
use Rattle.task_graph.proofs.Making.{Made, value-made, InputIs, input-at}
use Rattle.lowering_laws.specs.Sources.{Source, key_at, one_each}
use Rattle.lowering_laws.specs.Law.{Carries, Stand}

-- the block that is made of a grid holds what the grid holds
pub Holds-block : (k w : Grid) (b : Array) (box : Box) → block_of k ≡ Ok b → Holds k w box → Holds (grid_of b) w box
Holds-block k w b box e h = record {
  shape = block-shape k b e ∙ h.shape;
  at = λ i inside. block-at k b i e (subst (λ ns. IsIn ns i) (sym h.shape) inside) ∙ h.at i inside;
}

-- what a grid has in a box, another has that is the same inside its shape
pub Holds-same : (k v w : Grid) (layout : List (List ℕ)) (bs : List ℕ) → lengths layout ≡ w.shape → IsIn (counts layout) bs → ((i : List ℕ) → IsIn w.shape i → v.at i ≡ w.at i)
    → Holds k v (box_at layout bs) → Holds k w (box_at layout bs)
Holds-same k v w layout bs e inside same h = record {
  shape = h.shape;
  at = λ i g. h.at i g ∙ same (moved (box_at layout bs).start i) (subst (λ ns. IsIn ns (moved (box_at layout bs).start i)) e (moved-in_box layout bs i inside g));
}

pub Carries-same : (files : ℕ → List ℕ → ℤ) (tasks : List Task) (s : Source) (v w : Grid) → v.shape ≡ w.shape → ((i : List ℕ) → IsIn w.shape i → v.at i ≡ w.at i) → Carries files tasks s v → Carries files tasks s w
Carries-same files tasks s v w e same c = record {
  shape = c.shape ∙ e;
  each = λ k b lt h. Holds-same (grid_of b) v w s.layout (index_at (counts s.layout) k) (c.shape ∙ e) (index_at-in (counts s.layout) k lt) same (c.each k b lt h);
}

-- ---- tasks that stand in a graph

pub Stand-front : (all : List Task) (base : ℕ) (xs ys : List Task) → Stand all base (xs ++ ys) → Stand all base xs
Stand-front all base xs ys s = record {
  at = λ j lt. s.at j (omega (arith, length-append xs ys)) ∙ get_or_append_left xs ys no_task j lt;
}

pub Stand-back : (all : List Task) (base : ℕ) (xs ys : List Task) → Stand all base (xs ++ ys) → Stand all (base + length xs) ys
Stand-back all base xs ys s = record {
  at = λ j lt.
      let e : base + length xs + j ≡ base + (length xs + j) = omega arith in
      let in' : length xs + j < length (xs ++ ys) = omega (arith, length-append xs ys) in
      let back : length xs + j - length xs ≡ j = omega arith in
      ap (task_at all) e ∙ s.at (length xs + j) in' ∙ get_or-append_right xs ys (length xs) (length xs + j) no_task refl (omega arith) ∙ ap (task_at ys) back;
}

-- ---- one task for each block

-- what a task makes of values of its dependencies holds what the grid has in the box
pub record Fits (files : ℕ → List ℕ → ℤ) (tasks : List Task) (t : Task) (g : Grid) (box : Box) : Type 0 where
  pub holds : (blocks : List Array) → all_of (map (value files tasks) t.deps) ≡ Some blocks → Holds (kernel files t.spec (map grid_of blocks)) g box

pub value-holds : (files : ℕ → List ℕ → ℤ) (tasks : List Task) → IsEarlier (deps_of (shape_of tasks)) → (k : ℕ) (t : Task) (g : Grid) (box : Box) (b : Array) → task_at tasks k ≡ t → Fits files tasks t g box → value files tasks k ≡ Some b
    → Holds (grid_of b) g box
value-holds files tasks e k t g box b is fits h =
    let m : Made files tasks t b = subst (λ (u : Task). Made files tasks u b) is (value-made files tasks e k b h) in
    Holds-block (kernel files t.spec (map grid_of m.blocks)) g b box m.block (fits.holds m.blocks m.values)

pub carries-each : (files : ℕ → List ℕ → ℤ) (tasks : List Task) → IsEarlier (deps_of (shape_of tasks)) → (base : ℕ) (layout : List (List ℕ)) (task_of : List ℕ → Task) (g : Grid) → lengths layout ≡ g.shape
    → Stand tasks base (one_each base layout task_of).tasks → ((bs : List ℕ) → IsIn (counts layout) bs → Fits files tasks (task_of bs) g (box_at layout bs)) → Carries files tasks (one_each base layout task_of).source g
carries-each files tasks e base layout task_of g shape stand fits = record {
  shape = shape;
  each = λ c b lt h.
      let key : base + 1 * c ≡ base + c = omega arith in
      let few : length (map (λ c. task_of (index_at (counts layout) c)) (range_with_len 0 (blocks layout))) ≡ blocks layout = length-map-range_with_len (λ c. task_of (index_at (counts layout) c)) 0 (blocks layout) in
      let in' : c < length (map (λ c. task_of (index_at (counts layout) c)) (range_with_len 0 (blocks layout))) = omega arith in
      let is : task_at tasks (base + 1 * c) ≡ task_of (index_at (counts layout) c) =
      ap (task_at tasks) key ∙ stand.at c in' ∙ get_or-map-range_with_len (λ c. task_of (index_at (counts layout) c)) 0 (blocks layout) c c no_task lt (omega arith) in
      value-holds files tasks e (base + 1 * c) (task_of (index_at (counts layout) c)) g (region layout c) b is (fits (index_at (counts layout) c) (index_at-in (counts layout) c lt)) h;
}

-- the task at the key of each block
pub task-each : (tasks : List Task) (base : ℕ) (layout : List (List ℕ)) (task_of : List ℕ → Task) → Stand tasks base (one_each base layout task_of).tasks → (c : ℕ) → c < blocks layout → task_at tasks (base + 1 * c) ≡ task_of (index_at (counts layout) c)
task-each tasks base layout task_of stand c lt =
    let key : base + 1 * c ≡ base + c = omega arith in
    let few : length (map (λ c. task_of (index_at (counts layout) c)) (range_with_len 0 (blocks layout))) ≡ blocks layout = length-map-range_with_len (λ c. task_of (index_at (counts layout) c)) 0 (blocks layout) in
    let in' : c < length (map (λ c. task_of (index_at (counts layout) c)) (range_with_len 0 (blocks layout))) = omega arith in
    ap (task_at tasks) key ∙ stand.at c in' ∙ get_or-map-range_with_len (λ c. task_of (index_at (counts layout) c)) 0 (blocks layout) c c no_task lt (omega arith)

pub fits-each : (files : ℕ → List ℕ → ℤ) (tasks : List Task) (base : ℕ) (layout : List (List ℕ)) (task_of : List ℕ → Task) (g : Grid) → Stand tasks base (one_each base layout task_of).tasks
    → ((bs : List ℕ) → IsIn (counts layout) bs → Fits files tasks (task_of bs) g (box_at layout bs)) → (c : ℕ) → c < blocks layout → Fits files tasks (task_at tasks (base + 1 * c)) g (region layout c)
fits-each files tasks base layout task_of g stand fits c lt =
    subst (λ (t : Task). Fits files tasks t g (region layout c)) (sym (task-each tasks base layout task_of stand c lt)) (fits (index_at (counts layout) c) (index_at-in (counts layout) c lt))

-- ---- what an input holds

pub carries-at : (files : ℕ → List ℕ → ℤ) (tasks : List Task) (s : Source) (g : Grid) (bs : List ℕ) (b : Array) → Carries files tasks s g → IsIn (counts s.layout) bs → value files tasks (key_at s bs) ≡ Some b
    → Holds (grid_of b) g (box_at s.layout bs)
carries-at files tasks s g bs b c h v =
    subst (λ (box : Box). Holds (grid_of b) g box) (region-place s.layout bs h) (c.each (place (counts s.layout) bs) b (place-below (counts s.layout) bs h) v)

pub input-holds : (files : ℕ → List ℕ → ℤ) (tasks : List Task) (s : Source) (g : Grid) (bs : List ℕ) (blocks : List Array) (p : ℕ) → Carries files tasks s g → IsIn (counts s.layout) bs → InputIs files tasks blocks p (key_at s bs)
    → Holds (nth (map grid_of blocks) p) g (box_at s.layout bs)
input-holds files tasks s g bs blocks p c h i =
    subst (λ (k : Grid). Holds k g (box_at s.layout bs)) (sym i.grid_is) (carries-at files tasks s g bs i.block c h i.value_is)

-- the one input of a task
pub one-input : (files : ℕ → List ℕ → ℤ) (tasks : List Task) (s : Source) (g : Grid) (bs : List ℕ) (blocks : List Array) → Carries files tasks s g → IsIn (counts s.layout) bs → all_of (map (value files tasks) (key_at s bs ∷ [])) ≡ Some blocks
    → Holds (nth (map grid_of blocks) 0) g (box_at s.layout bs)
one-input files tasks s g bs blocks c h v = input-holds files tasks s g bs blocks 0 c h (input-at files tasks (key_at s bs ∷ []) blocks 0 (key_at s bs) v (omega arith) refl)
