-- The inputs of each task have the shapes that its dependencies make: stage by stage.
use Rattle.std.proofs.Common.{◌≡◌, ℕ, zero, suc, ◌+◌, ◌-◌, ◌*◌, ◌<◌, cond, Bool, true, false, List, [], ◌∷◌, ◌++◌, length, map, get_or, refl, ap, sym, subst, ◌∙◌, arith, inl, inr, ℤ, None, length-append}
use Rattle.std.specs.Prelude.{Contains}
use Rattle.std.specs.List.{AllByRecursion, range_with_len}
use Rattle.std.proofs.lemmas.Bool.{cases_lt}
use Rattle.std.proofs.lemmas.List.{length-map, get_or_append_left, get_or-append_right}
use Rattle.std.proofs.lemmas.List.FromFn.{length-map-range_with_len, get_or-map-range_with_len}
use Rattle.small_facts.proofs.Every.{all_from_members}
use Rattle.nd_shape.specs.declared.slice.Steps.{Steps}
use Rattle.nd_shape.specs.Index.{IsIn, place, index_at}
use Rattle.nd_shape.proofs.Places.{index_at-in, place-below, index_at-place}
use Rattle.nd_grid.specs.Grid.{Grid, Holds, turned, SlicesFit, IsTranspose}
use Rattle.nd_grid.proofs.Turning.{turned-in, position-below, position-at}
use Rattle.chunk_layout.specs.Layouts.{counts, lengths, blocks, lengths_at, box_at}
use Rattle.chunk_layout.specs.Plans.{Overlap, chunks_in, parts}
use Rattle.chunk_layout.specs.Slices.{pieces_of}
use Rattle.cluster_msgs.proofs.Dags.{map-same}
use Rattle.block_kernels.specs.declared.spec.Spec.TheVariants as kernels
use Rattle.block_kernels.specs.Kernels.{input_shapes, result_shape}
use Rattle.task_graph.specs.declared.graph.Task.{Task}
use Rattle.task_graph.specs.Graphs.{task, task_at, no_task}
use Rattle.task_graph.specs.Orders.{position}
use Rattle.lowering_laws.specs.Sources.{Source, Made, key_at, one_each, rechunk_task, rechunked, same_layout, fitted}
use Rattle.lowering_laws.specs.Stages.{Use, keys_used, shapes_used, deps_of_uses, inputs_among, filled_blocks, loaded_blocks, sliced_blocks, slice_task, transposed_blocks, turned_layout, pieces_at, chunks_taken, kept_axes}
use Rattle.lowering_laws.specs.Law.{Stand, HaveChunks}
use Rattle.lowering_laws.proofs.Pieces.{parts-fit}
use Rattle.lowering_laws.proofs.Plain.{IsOrder, counts-turned, turned-holds}
use Rattle.task_graph.proofs.Renumbered.{ascending-from}
use Rattle.lowering_laws.proofs.Sliced.{slice-of, lists_of}
use Rattle.lowering_laws.proofs.Rising.{parts-in}

-- the lengths that a key's operation makes
abbrev pub dims_at : List Task → ℕ → List ℕ
dims_at all k = result_shape (task_at all k).spec

-- the inputs of a task have the shapes that its dependencies make
pub record IsFed (all : List Task) (t : Task) : Type 0 where
  pub inputs : map (dims_at all) t.deps ≡ input_shapes t.spec

pub record AreFed (all : List Task) (tasks : List Task) : Type 0 where
  pub at : (j : ℕ) → j < length tasks → IsFed all (task_at tasks j)

-- the key of each block makes the block's lengths
pub record IsShaped (all : List Task) (s : Source) : Type 0 where
  pub at : (bs : List ℕ) → IsIn (counts s.layout) bs → dims_at all (key_at s bs) ≡ lengths_at s.layout bs

pub record IsCut (all : List Task) (m : Made) : Type 0 where
  pub fed : AreFed all m.tasks
  pub shaped : IsShaped all m.source

pub none-fed : (all : List Task) → AreFed all []
none-fed all = record { at = λ j h. absurd (omega arith) }

pub fed-append : (all xs ys : List Task) → AreFed all xs → AreFed all ys → AreFed all (xs ++ ys)
fed-append all xs ys a b = record {
  at = λ j h. elim (cases_lt j (length xs)) [
    | inl lt ↦ subst (IsFed all) (sym (get_or_append_left xs ys no_task j lt)) (a.at j lt)
    | inr ge ↦ subst (IsFed all) (sym (get_or-append_right xs ys (length xs) j no_task refl ge)) (b.at (j - length xs) (omega (arith, length-append xs ys)))
  ];
}

pub cut-each : (all : List Task) (base : ℕ) (layout : List (List ℕ)) (task_of : List ℕ → Task) → Stand all base (one_each base layout task_of).tasks → ((bs : List ℕ) → IsIn (counts layout) bs → IsFed all (task_of bs))
    → ((bs : List ℕ) → IsIn (counts layout) bs → result_shape (task_of bs).spec ≡ lengths_at layout bs) → IsCut all (one_each base layout task_of)
cut-each all base layout task_of stand fed shape =
    let count : length (map (λ c. task_of (index_at (counts layout) c)) (range_with_len 0 (blocks layout))) ≡ blocks layout = length-map-range_with_len (λ c. task_of (index_at (counts layout) c)) 0 (blocks layout) in
    let own : (c : ℕ) → c < blocks layout → get_or (map (λ c. task_of (index_at (counts layout) c)) (range_with_len 0 (blocks layout))) c no_task ≡ task_of (index_at (counts layout) c) = λ c h.
    get_or-map-range_with_len (λ c. task_of (index_at (counts layout) c)) 0 (blocks layout) c c no_task h (omega arith) in
    record {
      fed = record { at = λ j h. let lt : j < blocks layout = omega arith in subst (IsFed all) (sym (own j lt)) (fed (index_at (counts layout) j) (index_at-in (counts layout) j lt)) };
      shaped = record {
        at = λ bs h.
            let c = place (counts layout) bs in
            let lt : place (counts layout) bs < blocks layout = place-below (counts layout) bs h in
            let key : base + 1 * place (counts layout) bs ≡ base + place (counts layout) bs = omega arith in
            let is : task_at all (base + 1 * place (counts layout) bs) ≡ task_of bs =
            ap (task_at all) key ∙ stand.at (place (counts layout) bs) (omega arith) ∙ own (place (counts layout) bs) lt ∙ ap task_of (index_at-place (counts layout) bs h) in
            ap (λ (t : Task). result_shape t.spec) is ∙ shape bs h;
      };
    }

pub cut-filled : (all : List Task) (dims : List ℕ) (layout : List (List ℕ)) (start step : ℤ) (base : ℕ) → Stand all base (filled_blocks dims layout start step base).tasks → IsCut all (filled_blocks dims layout start step base)
cut-filled all dims layout start step base stand = cut-each all base layout (λ bs. task (kernels.Fill dims (box_at layout bs) start step) []) stand (λ bs h. record { inputs = refl }) (λ bs h. refl)

pub cut-loaded : (all : List Task) (input : ℕ) (layout : List (List ℕ)) (base : ℕ) → Stand all base (loaded_blocks input layout base).tasks → IsCut all (loaded_blocks input layout base)
cut-loaded all input layout base stand = cut-each all base layout (λ bs. task (kernels.Load input (box_at layout bs)) []) stand (λ bs h. record { inputs = refl }) (λ bs h. refl)

one-shape : (xs ys : List ℕ) → xs ≡ ys → xs ∷ [] ≡ ys ∷ []
one-shape xs ys e = ap (λ zs. zs ∷ []) e

pub cut-sliced : (all : List Task) (s : Source) (steps : List Steps) (dropped : List ℕ) (base : ℕ) → HaveChunks s.layout → SlicesFit 0 steps (lengths s.layout) dropped → IsShaped all s → Stand all base (sliced_blocks s steps dropped base).tasks
    → IsCut all (sliced_blocks s steps dropped base)
cut-sliced all s steps dropped base some fits sh stand =
    cut-each all base (kept_axes 0 (lists_of s.layout steps) dropped) (slice_task s (pieces_of s.layout steps) dropped) stand
    (λ bs h. let r = slice-of 0 dropped s.layout steps bs some fits h in record { inputs = one-shape _ _ (sh.at (chunks_taken (pieces_at 0 (pieces_of s.layout steps) dropped bs)) r.inside) })
    (λ bs h. let r = slice-of 0 dropped s.layout steps bs some fits h in r.shape)

pub cut-transposed : (all : List Task) (s : Source) (axes : List ℕ) (base : ℕ) → IsOrder axes (length s.layout) → IsShaped all s → Stand all base (transposed_blocks s axes base).tasks → IsCut all (transposed_blocks s axes base)
cut-transposed all s axes base o sh stand =
    let lc : length (counts s.layout) ≡ length s.layout = length-map s.layout (λ (sizes : List ℕ). length sizes) in
    cut-each all base (turned_layout axes s.layout) (λ bs. task (kernels.Transpose axes (lengths_at s.layout (turned axes bs))) (key_at s (turned axes bs) ∷ [])) stand
    (λ bs h. record { inputs = one-shape _ _ (sh.at (turned axes bs) (turned-in axes (counts s.layout) bs (subst (IsTranspose axes) (sym lc) o.each) (subst (λ ns. IsIn ns bs) (counts-turned axes s.layout) h))) })
    (λ bs h.
    let a : Grid = record { shape = lengths_at s.layout (turned axes bs); at = λ i. None } in
    let g : Grid = record { shape = []; at = λ i. None } in
    let ha : Holds a g (box_at s.layout (turned axes bs)) = record { shape = refl; at = λ i inside. refl } in
    (turned-holds axes s.layout bs a g o h ha).shape)

-- ---- rechunking

parts-fed : (all : List Task) (s : Source) (oss : List (List Overlap)) → IsShaped all s → AllByRecursion (λ os. IsIn (counts s.layout) (chunks_in os)) oss
    → map (dims_at all) (map (λ os. key_at s (chunks_in os)) oss) ≡ map (λ os. lengths_at s.layout (chunks_in os)) oss
parts-fed all s [] sh a = refl
parts-fed all s (os ∷ oss) sh a =
    ap (λ ns. ns ∷ map (dims_at all) (map (λ os. key_at s (chunks_in os)) oss)) (sh.at (chunks_in os) a.0) ∙ ap (λ nss. lengths_at s.layout (chunks_in os) ∷ nss) (parts-fed all s oss sh a.1)

pub cut-rechunked : (all : List Task) (s : Source) (layout : List (List ℕ)) (base : ℕ) → length s.layout ≡ length layout → IsShaped all s → Stand all base (rechunked base s layout).tasks → IsCut all (rechunked base s layout)
cut-rechunked all s layout base e sh stand =
    cut-each all base layout (rechunk_task s layout) stand
    (λ bs h. record { inputs = parts-fed all s (parts s.layout layout bs) sh (parts-in s.layout layout bs (parts-fit s.layout layout bs e h)) })
    (λ bs h. refl)

pub cut-fitted : (all : List Task) (s : Source) (layout : List (List ℕ)) (base : ℕ) → length s.layout ≡ length layout → IsShaped all s → Stand all base (fitted base s layout).tasks → IsCut all (fitted base s layout)
cut-fitted all s layout base e sh stand = in-case (same_layout s.layout layout) stand
  where
    in-case : (c : Bool) → Stand all base (cond {A = Made} c (record { tasks = []; source = s }) (rechunked base s layout)).tasks → IsCut all (cond {A = Made} c (record { tasks = []; source = s }) (rechunked base s layout))
    in-case true st = record { fed = none-fed all; shaped = sh }
    in-case false st = cut-rechunked all s layout base e sh st

-- ---- several inputs

-- the use has the shape that its key makes
abbrev pub UseFits : List Task → Use → Type 0
UseFits all u = dims_at all u.key ≡ u.shape

shape-of-use : (all : List Task) (uses : List Use) (p : ℕ) → AllByRecursion (UseFits all) uses → p < length (keys_used uses) → dims_at all (get_or (keys_used uses) p 0) ≡ get_or (shapes_used uses) p []
shape-of-use all [] p a h = absurd (omega arith)
shape-of-use all (u ∷ uses) zero a h = a.0
shape-of-use all (u ∷ uses) (suc p) a h = shape-of-use all uses p a.1 (omega arith)

-- the shape that stands among the inputs for a key that is used
pub use-shape : (all : List Task) (uses : List Use) (k : ℕ) → AllByRecursion (UseFits all) uses → Contains (keys_used uses) k → dims_at all k ≡ get_or (shapes_used uses) (position (keys_used uses) k) []
use-shape all uses k a c =
    ap (dims_at all) (sym (position-at (keys_used uses) k c)) ∙ shape-of-use all uses (position (keys_used uses) k) a (position-below (keys_used uses) k c)

pub uses-fed : (all : List Task) (uses : List Use) → AllByRecursion (UseFits all) uses → map (dims_at all) (deps_of_uses uses) ≡ inputs_among uses
uses-fed all uses a =
    map-same (dims_at all) (λ k. get_or (shapes_used uses) (position (keys_used uses) k) []) (deps_of_uses uses)
    (all_from_members (λ k. dims_at all k ≡ get_or (shapes_used uses) (position (keys_used uses) k) []) (deps_of_uses uses) (λ k c. use-shape all uses k a (ascending-from (keys_used uses) k c)))
