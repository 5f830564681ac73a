-- Stages without operands, and transposes.
use Rattle.std.proofs.Common.{◌≡◌, ℕ, zero, suc, ◌+◌, ◌<◌, List, [], ◌∷◌, length, map, take, get_or, refl, ap, sym, subst, ◌∙◌, arith, Some, ℤ}
use Rattle.std.specs.Prelude.{nat_eq, Contains}
use Rattle.std.specs.List.{position_or_len}
use Rattle.std.proofs.lemmas.List.{length-map, get_or-map}
use Rattle.std.proofs.lemmas.Grind.{same_number_lists}
use Rattle.nd_shape.specs.Index.{IsIn}
use Rattle.nd_shape.specs.Region.{moved}
use Rattle.nd_shape.specs.Chunk.{total}
use Rattle.nd_shape.proofs.Places.{IsIn-length}
use Rattle.nd_grid.specs.Grid.{Grid, grid_of, Holds, ramp, turned, transposed, IsTranspose}
use Rattle.nd_grid.proofs.Turning.{turned-in, turned-at, length-turned, position-below, position-at, length-moved, moved-at}
use Rattle.chunk_layout.specs.Layouts.{counts, lengths, starts_at, lengths_at, box_at}
use Rattle.chunk_layout.proofs.Parting.{length-starts, length-lengths}
use Rattle.cluster_msgs.specs.Dags.{IsEarlier}
use Rattle.cluster_msgs.specs.Shape.{deps_of}
use Rattle.block_kernels.specs.Kernels.{nth}
use Rattle.block_kernels.specs.declared.spec.Spec.TheVariants as kernels
use Rattle.task_graph.specs.declared.graph.Task.{Task}
use Rattle.task_graph.specs.Graphs.{shape_of, task}
use Rattle.lowering_laws.specs.Sources.{Source, key_at}
use Rattle.lowering_laws.specs.Stages.{filled_blocks, loaded_blocks, transposed_blocks, turned_layout}
use Rattle.lowering_laws.specs.Law.{Carries, Stand}
use Rattle.lowering_laws.proofs.Carrying.{carries-each, one-input}

pub carries-filled : (files : ℕ → List ℕ → ℤ) (tasks : List Task) → IsEarlier (deps_of (shape_of tasks)) → (dims : List ℕ) (layout : List (List ℕ)) (start step : ℤ) (base : ℕ) → lengths layout ≡ dims
    → Stand tasks base (filled_blocks dims layout start step base).tasks → Carries files tasks (filled_blocks dims layout start step base).source (ramp dims start step)
carries-filled files tasks e dims layout start step base shape stand =
    carries-each files tasks e base layout (λ bs. task (kernels.Fill dims (box_at layout bs) start step) []) (ramp dims start step) shape stand
    (λ bs h. record { holds = λ blocks v. record { shape = refl; at = λ i g. refl } })

-- an input of the job
abbrev pub input_grid : List ℕ → (List ℕ → ℤ) → Grid
input_grid dims input = record { shape = dims; at = λ i. Some (input i) }

pub carries-loaded : (files : ℕ → List ℕ → ℤ) (tasks : List Task) → IsEarlier (deps_of (shape_of tasks)) → (input : ℕ) (dims : List ℕ) (layout : List (List ℕ)) (base : ℕ) → lengths layout ≡ dims
    → Stand tasks base (loaded_blocks input layout base).tasks → Carries files tasks (loaded_blocks input layout base).source (input_grid dims (files input))
carries-loaded files tasks e input dims layout base shape stand =
    carries-each files tasks e base layout (λ bs. task (kernels.Load input (box_at layout bs)) []) (input_grid dims (files input)) shape stand
    (λ bs h. record { holds = λ blocks v. record { shape = refl; at = λ i g. refl } })

-- ---- transposes

-- the list has each axis once
pub record IsOrder (axes : List ℕ) (n : ℕ) : Type 0 where
  pub each : IsTranspose axes n
  pub below : (j : ℕ) → j < length axes → get_or axes j 0 < n
  pub once : (j : ℕ) → j < length axes → position_or_len (nat_eq (get_or axes j 0)) axes ≡ j

pub starts-on : (layout : List (List ℕ)) (bs : List ℕ) (k : ℕ) → IsIn (counts layout) bs → k < length layout → get_or (starts_at layout bs) k 0 ≡ total (take (get_or bs k 0) (get_or layout k []))
starts-on [] bs k h lt = absurd (omega arith)
starts-on (sizes ∷ layout) [] k h lt = absurd h
starts-on (sizes ∷ layout) (b ∷ bs) zero h lt = refl
starts-on (sizes ∷ layout) (b ∷ bs) (suc k) h lt = starts-on layout bs k h.1 (omega arith)

pub lengths-on : (layout : List (List ℕ)) (bs : List ℕ) (k : ℕ) → IsIn (counts layout) bs → k < length layout → get_or (lengths_at layout bs) k 0 ≡ get_or (get_or layout k []) (get_or bs k 0) 0
lengths-on [] bs k h lt = absurd (omega arith)
lengths-on (sizes ∷ layout) [] k h lt = absurd h
lengths-on (sizes ∷ layout) (b ∷ bs) zero h lt = refl
lengths-on (sizes ∷ layout) (b ∷ bs) (suc k) h lt = lengths-on layout bs k h.1 (omega arith)

pub counts-turned : (axes : List ℕ) (layout : List (List ℕ)) → counts (turned_layout axes layout) ≡ map (λ a. get_or (counts layout) a 0) axes
counts-turned [] layout = refl
counts-turned (a ∷ axes) layout = ap (λ n. n ∷ counts (turned_layout axes layout)) (count-on layout a) ∙ ap (λ ns. get_or (counts layout) a 0 ∷ ns) (counts-turned axes layout)
  where
    count-on : (layout : List (List ℕ)) (k : ℕ) → length (get_or layout k []) ≡ get_or (counts layout) k 0
    count-on [] k = refl
    count-on (sizes ∷ layout) zero = refl
    count-on (sizes ∷ layout) (suc k) = count-on layout k

lengths-turned : (axes : List ℕ) (layout : List (List ℕ)) → lengths (turned_layout axes layout) ≡ map (λ a. get_or (lengths layout) a 0) axes
lengths-turned [] layout = refl
lengths-turned (a ∷ axes) layout = ap (λ n. n ∷ lengths (turned_layout axes layout)) (total-on layout a) ∙ ap (λ ns. get_or (lengths layout) a 0 ∷ ns) (lengths-turned axes layout)
  where
    total-on : (layout : List (List ℕ)) (k : ℕ) → total (get_or layout k []) ≡ get_or (lengths layout) k 0
    total-on [] k = refl
    total-on (sizes ∷ layout) zero = refl
    total-on (sizes ∷ layout) (suc k) = total-on layout k

pub turned-holds : (axes : List ℕ) (layout : List (List ℕ)) (bs : List ℕ) (a g : Grid) → IsOrder axes (length layout) → IsIn (counts (turned_layout axes layout)) bs → Holds a g (box_at layout (turned axes bs))
    → Holds (transposed axes a) (transposed axes g) (box_at (turned_layout axes layout) bs)
turned-holds axes layout bs a g o h ha =
    let to = turned_layout axes layout in
    let number : length axes ≡ length layout = o.each.number in
    let lt : length to ≡ length axes = length-map axes (λ a. get_or layout a []) in
    let lc : length (counts layout) ≡ length layout = length-map layout (λ (sizes : List ℕ). length sizes) in
    let at : (j : ℕ) → j < length axes → get_or to j [] ≡ get_or layout (get_or axes j 0) [] = λ j b. get_or-map (λ a. get_or layout a []) axes j 0 [] b in
    let inside : IsIn (counts layout) (turned axes bs) =
    turned-in axes (counts layout) bs (subst (IsTranspose axes) (sym lc) o.each) (subst (λ ns. IsIn ns bs) (counts-turned axes layout) h) in
    let lens : map (λ a. get_or (lengths_at layout (turned axes bs)) a 0) axes ≡ lengths_at to bs =
    same_number_lists _ _ (omega (arith, length-map axes (λ a. get_or (lengths_at layout (turned axes bs)) a 0), length-lengths to bs h)) (λ j b.
    let ja : j < length axes = omega (arith, length-map axes (λ a. get_or (lengths_at layout (turned axes bs)) a 0)) in
    let below : get_or axes j 0 < length layout = o.below j ja in
    get_or-map (λ a. get_or (lengths_at layout (turned axes bs)) a 0) axes j 0 0 ja
    ∙ lengths-on layout (turned axes bs) (get_or axes j 0) inside below
    ∙ ap (λ b. get_or (get_or layout (get_or axes j 0) []) b 0) (turned-at axes bs (get_or axes j 0) (omega arith) ∙ ap (λ p. get_or bs p 0) (o.once j ja))
    ∙ ap (λ sizes. get_or sizes (get_or bs j 0) 0) (sym (at j ja))
    ∙ sym (lengths-on to bs j h (omega arith))) in
    record {
      shape = ap (λ ns. map (λ a. get_or ns a 0) axes) ha.shape ∙ lens;
      at = λ i g'.
          let li : length i ≡ length (lengths_at to bs) = IsIn-length (lengths_at to bs) i g' in
          let ll : length (lengths_at to bs) ≡ length to = length-lengths to bs h in
          let ls : length (starts_at to bs) ≡ length to = length-starts to bs h in
          let lst : length (starts_at layout (turned axes bs)) ≡ length layout = length-starts layout (turned axes bs) inside in
          let lu : length (turned axes i) ≡ length axes = length-turned axes i in
          let inl' : IsIn (lengths_at layout (turned axes bs)) (turned axes i) =
          turned-in axes (lengths_at layout (turned axes bs)) i (subst (IsTranspose axes) (sym (length-lengths layout (turned axes bs) inside)) o.each) (subst (λ ns. IsIn ns i) (sym lens) g') in
          let same : moved (starts_at layout (turned axes bs)) (turned axes i) ≡ turned axes (moved (starts_at to bs) i) =
          same_number_lists _ _ (omega (arith, length-moved (starts_at layout (turned axes bs)) (turned axes i) (omega arith), length-turned axes (moved (starts_at to bs) i))) (λ a b.
          let ab : a < length axes = omega (arith, length-moved (starts_at layout (turned axes bs)) (turned axes i) (omega arith)) in
          let p = position_or_len (nat_eq a) axes in
          let there : Contains axes a = o.each.each a (omega arith) in
          let pb : position_or_len (nat_eq a) axes < length axes = position-below axes a there in
          let pa : get_or axes (position_or_len (nat_eq a) axes) 0 ≡ a = position-at axes a there in
          let st : get_or (starts_at layout (turned axes bs)) a 0 ≡ get_or (starts_at to bs) (position_or_len (nat_eq a) axes) 0 =
          starts-on layout (turned axes bs) a inside (omega arith)
          ∙ ap (λ b. total (take b (get_or layout a []))) (turned-at axes bs a ab)
          ∙ ap (λ sizes. total (take (get_or bs (position_or_len (nat_eq a) axes) 0) sizes)) (ap (λ x. get_or layout x []) (sym pa) ∙ sym (at (position_or_len (nat_eq a) axes) pb))
          ∙ sym (starts-on to bs (position_or_len (nat_eq a) axes) h (omega arith)) in
          let m1 : get_or (moved (starts_at layout (turned axes bs)) (turned axes i)) a 0 ≡ get_or (starts_at layout (turned axes bs)) a 0 + get_or (turned axes i) a 0 = moved-at (starts_at layout (turned axes bs)) (turned axes i) a (omega arith) (omega arith) in
          let m2 : get_or (moved (starts_at to bs) i) (position_or_len (nat_eq a) axes) 0 ≡ get_or (starts_at to bs) (position_or_len (nat_eq a) axes) 0 + get_or i (position_or_len (nat_eq a) axes) 0 = moved-at (starts_at to bs) i (position_or_len (nat_eq a) axes) (omega arith) (omega arith) in
          let t1 : get_or (turned axes i) a 0 ≡ get_or i (position_or_len (nat_eq a) axes) 0 = turned-at axes i a ab in
          let t2 : get_or (turned axes (moved (starts_at to bs) i)) a 0 ≡ get_or (moved (starts_at to bs) i) (position_or_len (nat_eq a) axes) 0 = turned-at axes (moved (starts_at to bs) i) a ab in
          omega arith) in
          ha.at (turned axes i) inl' ∙ ap g.at same;
    }

pub carries-transposed : (files : ℕ → List ℕ → ℤ) (tasks : List Task) → IsEarlier (deps_of (shape_of tasks)) → (s : Source) (g : Grid) (axes : List ℕ) (base : ℕ) → IsOrder axes (length s.layout) → Carries files tasks s g
    → Stand tasks base (transposed_blocks s axes base).tasks → Carries files tasks (transposed_blocks s axes base).source (transposed axes g)
carries-transposed files tasks e s g axes base o c stand =
    let lc : length (counts s.layout) ≡ length s.layout = length-map s.layout (λ (sizes : List ℕ). length sizes) in
    carries-each files tasks e base (turned_layout axes s.layout) (λ bs. task (kernels.Transpose axes (lengths_at s.layout (turned axes bs))) (key_at s (turned axes bs) ∷ [])) (transposed axes g)
    (lengths-turned axes s.layout ∙ ap (λ ns. map (λ a. get_or ns a 0) axes) c.shape) stand
    (λ bs h. record {
      holds = λ blocks v.
          let inside : IsIn (counts s.layout) (turned axes bs) =
          turned-in axes (counts s.layout) bs (subst (IsTranspose axes) (sym lc) o.each) (subst (λ ns. IsIn ns bs) (counts-turned axes s.layout) h) in
          turned-holds axes s.layout bs (nth (map grid_of blocks) 0) g o h (one-input files tasks s g (turned axes bs) blocks c inside v);
    })
