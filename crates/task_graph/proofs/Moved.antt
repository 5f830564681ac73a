-- Operations under new numbers name places among the new dependencies.
use Rattle.std.proofs.Common.{◌≡◌, ℕ, ◌<◌, ◌≤◌, List, [], ◌∷◌, length, map, get_or, ap, sym, subst, ◌∙◌, arith, inl, inr}
use Rattle.std.specs.Prelude.{Contains}
use Rattle.std.proofs.lemmas.Bool.{cases_lt}
use Rattle.std.proofs.lemmas.List.{length-map, get_or-map, get_or_past}
use Rattle.nd_shape.specs.declared.region.Piece.{Piece}
use Rattle.nd_grid.specs.Grid.{kept_shape}
use Rattle.nd_grid.proofs.Turning.{position-below}
use Rattle.cluster_msgs.specs.Shape.{deps_of}
use Rattle.block_kernels.specs.declared.spec.Operand.{Operand}
use Rattle.block_kernels.specs.declared.spec.Operand.TheVariants.{Input, Number}
use Rattle.block_kernels.specs.declared.spec.Spec.{Spec}
use Rattle.block_kernels.specs.declared.spec.Spec.TheVariants.{Elementwise, Where, Slice, Transpose, Assemble, Reduce, Contract, Fill, Load}
use Rattle.task_graph.specs.declared.graph.Task.{Task}
use Rattle.task_graph.specs.Graphs.{task_at, no_task, shape_of}
use Rattle.task_graph.proofs.Making.{deps-at}
use Rattle.task_graph.specs.Orders.{position, ascending, moved_operand, moved_piece, moved_spec, moved_task, inputs_of, renumbered}
use Rattle.task_graph.specs.Numberings.{OperandFits, PlacesFit, AreFit}
use Rattle.task_graph.proofs.Rising.{all-mapped}
use Rattle.task_graph.proofs.Keys.{ascending-has}
use Rattle.task_graph.proofs.Renumbered.{ascending-from, contains-at}
use Rattle.task_graph.proofs.Rising.{rising-once, ascending-rises}

-- where the dependency at a place stands now
abbrev pub place_now : List ℕ → ℕ → ℕ
place_now keys p = position (ascending keys) (get_or keys p 0)

pub place-below : (keys : List ℕ) (p : ℕ) → p < length keys → place_now keys p < length (ascending keys)
place-below keys p h = position-below (ascending keys) (get_or keys p 0) (ascending-has keys (get_or keys p 0) (contains-at keys p h))

abbrev pub shapes_now : List ℕ → List (List ℕ) → List (List ℕ)
shapes_now keys inputs = map (λ k. get_or inputs (position keys k) []) (ascending keys)

operand-moved : (keys : List ℕ) (o : Operand) → OperandFits o (length keys) → OperandFits (moved_operand (place_now keys) o) (length (ascending keys))
operand-moved keys (Input p) h = place-below keys p h
operand-moved keys (Number v) h = tt

one-key : (keys : List ℕ) → length keys ≡ 1 → length (ascending keys) ≡ 1
one-key [] h = absurd (omega arith)
one-key (k ∷ []) h = omega arith
one-key (k ∷ j ∷ keys) h = absurd (omega arith)

-- the shape of the input at a new place is one of the old ones
pub shape-now : (keys : List ℕ) (inputs : List (List ℕ)) (axes : List ℕ) (p : ℕ) → ((q : ℕ) → q < length keys → kept_shape 0 (get_or inputs q []) axes ≡ kept_shape 0 (get_or inputs 0 []) axes) → p < length (ascending keys)
    → kept_shape 0 (get_or (shapes_now keys inputs) p []) axes ≡ kept_shape 0 (get_or inputs 0 []) axes
shape-now keys inputs axes p same h =
    let k = get_or (ascending keys) p 0 in
    let has : Contains keys (get_or (ascending keys) p 0) = ascending-from keys (get_or (ascending keys) p 0) (contains-at (ascending keys) p h) in
    ap (λ ns. kept_shape 0 ns axes) (get_or-map (λ k. get_or inputs (position keys k) []) (ascending keys) p 0 [] h) ∙ same (position keys (get_or (ascending keys) p 0)) (position-below keys (get_or (ascending keys) p 0) has)

places-moved : (keys : List ℕ) (spec : Spec) → PlacesFit spec (length keys) → PlacesFit (moved_spec (place_now keys) (shapes_now keys (inputs_of spec)) spec) (length (ascending keys))
places-moved keys (Elementwise op left right inputs shape) h = (operand-moved keys left h.0, operand-moved keys right h.1)
places-moved keys (Where condition first second inputs shape) h = (operand-moved keys condition h.0, operand-moved keys first h.1, operand-moved keys second h.2)
places-moved keys (Slice steps dropped input) h = one-key keys h
places-moved keys (Transpose axes input) h = one-key keys h
places-moved keys (Assemble pieces inputs shape) h =
    all-mapped (λ (p : Piece). p.source < length keys) (λ (p : Piece). p.source < length (ascending keys)) (moved_piece (place_now keys)) pieces (λ p b. place-below keys p.source b) h
places-moved keys (Reduce fold axes inputs) h = (
  length-map (ascending keys) (λ k. get_or inputs (position keys k) []),
  (λ p lt. shape-now keys inputs axes p h.1 lt ∙ sym (shape-now keys inputs axes 0 h.1 (omega arith))),
)
places-moved keys (Contract left right left_axes right_axes inputs) h = (place-below keys left h.0, place-below keys right h.1)
places-moved keys (Fill dims region start step) h = tt
places-moved keys (Load input region) h = tt

pub renumbered-fit : (tasks : List Task) (order : List ℕ) → AreFit tasks → AreFit (renumbered tasks order)
renumbered-fit tasks order f = record { places = places; once = once }
  where
    is : (tasks : List Task) (order : List ℕ) (k : ℕ) → k < length order → task_at (renumbered tasks order) k ≡ moved_task (map (position order) (deps_of (shape_of tasks) (get_or order k 0))) (task_at tasks (get_or order k 0))
    is tasks order k h = get_or-map (λ old. moved_task (map (position order) (deps_of (shape_of tasks) old)) (task_at tasks old)) order k 0 no_task h

    past : (tasks : List Task) (order : List ℕ) (k : ℕ) → length order ≤ k → task_at (renumbered tasks order) k ≡ no_task
    past tasks order k h = get_or_past (renumbered tasks order) k no_task (omega (arith, length-map order (λ old. moved_task (map (position order) (deps_of (shape_of tasks) old)) (task_at tasks old))))

    number : (tasks : List Task) (order : List ℕ) (old : ℕ) → length (task_at tasks old).deps ≡ length (map (position order) (deps_of (shape_of tasks) old))
    number tasks order old = sym (length-map (deps_of (shape_of tasks) old) (position order) ∙ ap length (deps-at tasks old))

    places : (k : ℕ) → PlacesFit (task_at (renumbered tasks order) k).spec (length (task_at (renumbered tasks order) k).deps)
    places k = elim (cases_lt k (length order)) [
      | inl lt ↦ subst (λ (t : Task). PlacesFit t.spec (length t.deps)) (sym (is tasks order k lt))
          (places-moved (map (position order) (deps_of (shape_of tasks) (get_or order k 0))) (task_at tasks (get_or order k 0)).spec
          (subst (PlacesFit (task_at tasks (get_or order k 0)).spec) (number tasks order (get_or order k 0)) (f.places (get_or order k 0))))
      | inr ge ↦ subst (λ (t : Task). PlacesFit t.spec (length t.deps)) (sym (past tasks order k ge)) tt
    ]

    once : (k p : ℕ) → p < length (task_at (renumbered tasks order) k).deps → position (task_at (renumbered tasks order) k).deps (get_or (task_at (renumbered tasks order) k).deps p 0) ≡ p
    once k p h = elim (cases_lt k (length order)) [
      | inl lt ↦
          let deps : (task_at (renumbered tasks order) k).deps ≡ ascending (map (position order) (deps_of (shape_of tasks) (get_or order k 0))) = ap (λ (t : Task). t.deps) (is tasks order k lt) in
          subst (λ ds. p < length ds → position ds (get_or ds p 0) ≡ p) (sym deps)
          (λ b. rising-once (ascending (map (position order) (deps_of (shape_of tasks) (get_or order k 0)))) p (ascending-rises (map (position order) (deps_of (shape_of tasks) (get_or order k 0)))) b) h
      | inr ge ↦ absurd (let z : length (task_at (renumbered tasks order) k).deps ≡ 0 = ap (λ (t : Task). length t.deps) (past tasks order k ge) in omega arith)
    ]
