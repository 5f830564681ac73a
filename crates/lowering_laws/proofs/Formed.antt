-- Operations without operands and transposes are well formed.
use Rattle.std.proofs.Common.{◌≡◌, ℕ, zero, suc, ◌+◌, ◌<◌, ◌≤◌, List, [], ◌∷◌, length, get_or, refl, sym, subst, ◌∙◌, arith, ℤ, None}
use Rattle.std.specs.List.{AllByRecursion}
use Rattle.std.proofs.lemmas.List.{length-map}
use Rattle.nd_shape.specs.Shape.{IsShape}
use Rattle.nd_shape.specs.Index.{IsIn, index_at}
use Rattle.nd_shape.specs.Region.{IsPart}
use Rattle.nd_shape.specs.Chunk.{total}
use Rattle.nd_shape.proofs.Axes.{part-shape}
use Rattle.nd_shape.proofs.Places.{index_at-in}
use Rattle.nd_grid.specs.Grid.{Grid, Holds, turned, IsTranspose}
use Rattle.nd_grid.proofs.Turning.{turned-in}
use Rattle.array_expr.specs.declared.expr.Node.{Node}
use Rattle.chunk_layout.specs.Layouts.{counts, lengths, blocks, starts_at, lengths_at, box_at}
use Rattle.chunk_layout.proofs.Parting.{total-before, length-starts, length-lengths}
use Rattle.block_kernels.specs.declared.spec.Spec.TheVariants as kernels
use Rattle.block_kernels.specs.WellFormed.{IsWellFormed}
use Rattle.task_graph.specs.declared.graph.Task.{Task}
use Rattle.task_graph.specs.Graphs.{task}
use Rattle.lowering_laws.specs.Sources.{Source, key_at, one_each}
use Rattle.lowering_laws.specs.Stages.{filled_blocks, loaded_blocks, transposed_blocks, turned_layout}
use Rattle.lowering_laws.specs.Formed.{IsRegion, IsLoaded}
use Rattle.lowering_laws.proofs.Plain.{IsOrder, counts-turned, turned-holds}
use Rattle.lowering_laws.proofs.Covered.{all-below}

-- the operation is well formed, and what it reads lies in an input
pub record IsFormed (nodes : List Node) (t : Task) : Type 0 where
  pub made : IsWellFormed t.spec
  pub loads : IsLoaded nodes t.spec

abbrev pub AreFormed : List Node → List Task → Type 0
AreFormed nodes tasks = AllByRecursion (IsFormed nodes) tasks

pub formed-each : (nodes : List Node) (base : ℕ) (layout : List (List ℕ)) (task_of : List ℕ → Task) → ((bs : List ℕ) → IsIn (counts layout) bs → IsFormed nodes (task_of bs)) → AreFormed nodes (one_each base layout task_of).tasks
formed-each nodes base layout task_of h = all-below (IsFormed nodes) (λ c. task_of (index_at (counts layout) c)) 0 (blocks layout) (λ c l. h (index_at (counts layout) c) (index_at-in (counts layout) c (omega arith)))

-- ---- the boxes of a layout

box-ends : (layout : List (List ℕ)) (bs : List ℕ) (k : ℕ) → IsIn (counts layout) bs → k < length layout → get_or (starts_at layout bs) k 0 + get_or (lengths_at layout bs) k 0 ≤ get_or (lengths layout) k 0
box-ends [] bs k h lt = absurd (omega arith)
box-ends (sizes ∷ layout) [] k h lt = absurd h
box-ends (sizes ∷ layout) (b ∷ bs) zero h lt = total-before sizes b h.0
box-ends (sizes ∷ layout) (b ∷ bs) (suc k) h lt = box-ends layout bs k h.1 (omega arith)

-- a block's box lies in the array
pub box-part : (layout : List (List ℕ)) (bs : List ℕ) → IsIn (counts layout) bs → IsPart (box_at layout bs) (lengths layout)
box-part layout bs h =
    let n : length (lengths layout) ≡ length layout = length-map layout (λ (sizes : List ℕ). total sizes) in
    record {
      starts = length-starts layout bs h ∙ sym n;
      lengths = length-lengths layout bs h ∙ sym n;
      ends = λ k lt. box-ends layout bs k h (omega arith);
    }

pub box-shape : (layout : List (List ℕ)) (bs : List ℕ) → IsShape (lengths layout) → IsIn (counts layout) bs → IsShape (lengths_at layout bs)
box-shape layout bs s h = part-shape (box_at layout bs) (lengths layout) (box-part layout bs h) s

-- what makes the lengths of a block makes a shape
pub made-shape : (layout : List (List ℕ)) (bs ns : List ℕ) → IsShape (lengths layout) → IsIn (counts layout) bs → ns ≡ lengths_at layout bs → IsShape ns
made-shape layout bs ns s h e = subst IsShape (sym e) (box-shape layout bs s h)

-- ---- operations without operands

pub formed-filled : (nodes : List Node) (dims : List ℕ) (layout : List (List ℕ)) (start step : ℤ) (base : ℕ) → lengths layout ≡ dims → IsShape (lengths layout) → AreFormed nodes (filled_blocks dims layout start step base).tasks
formed-filled nodes dims layout start step base e s =
    formed-each nodes base layout (λ bs. task (kernels.Fill dims (box_at layout bs) start step) []) (λ bs h. record {
      made = record { rules = subst (IsPart (box_at layout bs)) e (box-part layout bs h); shape = box-shape layout bs s h };
      loads = tt;
    })

pub formed-loaded : (nodes : List Node) (input : ℕ) (layout : List (List ℕ)) (base : ℕ) → IsShape (lengths layout) → ((bs : List ℕ) → IsIn (counts layout) bs → IsRegion nodes input (box_at layout bs)) → AreFormed nodes (loaded_blocks input layout base).tasks
formed-loaded nodes input layout base s r =
    formed-each nodes base layout (λ bs. task (kernels.Load input (box_at layout bs)) []) (λ bs h. record { made = record { rules = tt; shape = box-shape layout bs s h }; loads = r bs h })

-- ---- transposes

pub formed-transposed : (nodes : List Node) (s : Source) (axes : List ℕ) (base : ℕ) → IsOrder axes (length s.layout) → IsShape (lengths (transposed_blocks s axes base).source.layout) → AreFormed nodes (transposed_blocks s axes base).tasks
formed-transposed nodes s axes base o sh =
    let lc : length (counts s.layout) ≡ length s.layout = length-map s.layout (λ (sizes : List ℕ). length sizes) in
    formed-each nodes base (turned_layout axes s.layout) (λ bs. task (kernels.Transpose axes (lengths_at s.layout (turned axes bs))) (key_at s (turned axes bs) ∷ [])) (λ bs h.
    let inside : IsIn (counts s.layout) (turned axes bs) = turned-in axes (counts s.layout) bs (subst (IsTranspose axes) (sym lc) o.each) (subst (λ ns. IsIn ns bs) (counts-turned axes s.layout) h) in
    let a : Grid = record { shape = lengths_at s.layout (turned axes bs); at = λ i. None } in
    let g : Grid = record { shape = []; at = λ i. None } in
    let ha : Holds a g (box_at s.layout (turned axes bs)) = record { shape = refl; at = λ i inside. refl } in
    record {
      made = record {
        rules = subst (IsTranspose axes) (sym (length-lengths s.layout (turned axes bs) inside)) o.each;
        shape = made-shape (turned_layout axes s.layout) bs _ sh h (turned-holds axes s.layout bs a g o h ha).shape;
      };
      loads = tt;
    })
