-- Under new numbers operations stay well formed.
use Rattle.std.proofs.Common.{◌≡◌, ℕ, ◌+◌, ◌<◌, cond, List, [], ◌∷◌, length, map, get_or, refl, ap, sym, subst, ◌∙◌, arith}
use Rattle.std.specs.Prelude.{All, Contains}
use Rattle.std.proofs.lemmas.List.{length-map}
use Rattle.std.proofs.lemmas.List.Elements.{All-map, All-weaker, Contains-get_or}
use Rattle.nd_shape.specs.Shape.{IsShape}
use Rattle.nd_shape.specs.Region.{IsPart}
use Rattle.nd_shape.specs.Broadcast.{broadcast, Agree}
use Rattle.nd_shape.specs.declared.region.Piece.{Piece}
use Rattle.nd_grid.specs.Grid.{kept_shape}
use Rattle.nd_grid.proofs.Turning.{position-below}
use Rattle.array_expr.specs.declared.expr.Node.{Node}
use Rattle.block_kernels.specs.declared.spec.Operand.{Operand}
use Rattle.block_kernels.specs.declared.spec.Operand.TheVariants.{Input, Number}
use Rattle.block_kernels.specs.declared.spec.Spec.{Spec}
use Rattle.block_kernels.specs.declared.spec.Spec.TheVariants.{Elementwise, Where, Slice, Transpose, Assemble, Reduce, Contract, Fill, Load}
use Rattle.block_kernels.specs.Inputs.{IsPlace, operand_shape}
use Rattle.block_kernels.specs.Kernels.{input_shapes, is_within}
use Rattle.block_kernels.specs.WellFormed.{AreAxes, FitsPiece, covered, IsFoldable, Fits}
use Rattle.task_graph.specs.declared.graph.Task.{Task}
use Rattle.task_graph.specs.Graphs.{task_at}
use Rattle.task_graph.specs.Orders.{position, ascending, moved_operand, moved_piece, moved_spec, inputs_of, renumbered}
use Rattle.task_graph.specs.Numberings.{PlacesFit, AreFit, IsNumbering}
use Rattle.task_graph.proofs.Keys.{ascending-has}
use Rattle.task_graph.proofs.Renumbered.{AreOnce, ascending-from, keys-once, task-moved}
use Rattle.task_graph.proofs.Moved.{place_now, shapes_now, place-below}
use Rattle.lowering_laws.specs.Formed.{IsLoaded}
use Rattle.lowering_laws.proofs.Fed.{dims_at}
use Rattle.lowering_laws.proofs.FedMoved.{shape-at-now, reduced-now, result-moved, number-of-keys}
use Rattle.lowering_laws.proofs.Formed.{IsFormed}

length-now : (keys : List ℕ) (inputs : List (List ℕ)) → length (shapes_now keys inputs) ≡ length (ascending keys)
length-now keys inputs = length-map (ascending keys) (λ k. get_or inputs (position keys k) [])

place-now-below : (keys : List ℕ) (inputs : List (List ℕ)) (p : ℕ) → length inputs ≡ length keys → p < length inputs → place_now keys p < length (shapes_now keys inputs)
place-now-below keys inputs p n h = let b : place_now keys p < length (ascending keys) = place-below keys p (omega arith) in omega (arith, length-now keys inputs)

-- what holds of each input still does
all-now : (P : List ℕ → Type 0) (keys : List ℕ) (inputs : List (List ℕ)) → length inputs ≡ length keys → All P inputs → All P (shapes_now keys inputs)
all-now P keys inputs n a =
    All-map P (λ k. get_or inputs (position keys k) []) (ascending keys) (λ j d h.
    let has : Contains keys (get_or (ascending keys) j d) = ascending-from keys (get_or (ascending keys) j d) (Contains-get_or (ascending keys) j d h) in
    a (position keys (get_or (ascending keys) j d)) [] (let b : position keys (get_or (ascending keys) j d) < length keys = position-below keys (get_or (ascending keys) j d) has in omega arith))

some-now : (keys : List ℕ) → 0 < length keys → 0 < length (ascending keys)
some-now [] h = absurd (omega arith)
some-now (k ∷ keys) h = let has = ascending-has (k ∷ keys) k (0, omega arith, refl) in let b = has.1 in omega arith

-- ---- operands

operand-place : (keys : List ℕ) (inputs : List (List ℕ)) (o : Operand) → length inputs ≡ length keys → IsPlace o (length inputs) → IsPlace (moved_operand (place_now keys) o) (length (shapes_now keys inputs))
operand-place keys inputs (Input p) n h = place-now-below keys inputs p n h
operand-place keys inputs (Number v) n h = tt

operand-same : (keys : List ℕ) (inputs : List (List ℕ)) (o : Operand) → AreOnce keys → length inputs ≡ length keys → IsPlace o (length inputs) → operand_shape (moved_operand (place_now keys) o) (shapes_now keys inputs) ≡ operand_shape o inputs
operand-same keys inputs (Input p) a n h = shape-at-now keys inputs p a (omega arith)
operand-same keys inputs (Number v) a n h = refl

-- ---- pieces

piece-now : (keys : List ℕ) (inputs : List (List ℕ)) (shape : List ℕ) (p : Piece) → AreOnce keys → length inputs ≡ length keys → FitsPiece p inputs shape → FitsPiece (moved_piece (place_now keys) p) (shapes_now keys inputs) shape
piece-now keys inputs shape p a n f = record {
  source_in = place-now-below keys inputs p.source n f.source_in;
  source = subst (IsPart p.from) (sym (shape-at-now keys inputs p.source a (omega (arith, f.source_in)))) f.source;
  result = f.result;
  same = f.same;
}

covered-now : (place : ℕ → ℕ) (ps : List Piece) (i : List ℕ) → covered (map (moved_piece place) ps) i ≡ covered ps i
covered-now place [] i = refl
covered-now place (p ∷ ps) i = ap (λ n. cond (is_within p.to.start p.to.lengths i) 1 0 + n) (covered-now place ps i)

-- ---- the rules of each kind

rules-moved : (keys : List ℕ) (spec : Spec) → AreOnce keys → length (input_shapes spec) ≡ length keys → PlacesFit spec (length keys) → Fits spec → Fits (moved_spec (place_now keys) (shapes_now keys (inputs_of spec)) spec)
rules-moved keys (Elementwise op left right inputs shape) a n h r =
    let l = operand-same keys inputs left a n r.left_in in
    let g = operand-same keys inputs right a n r.right_in in
    let same : operand_shape (moved_operand (place_now keys) left) (shapes_now keys inputs) ∷ operand_shape (moved_operand (place_now keys) right) (shapes_now keys inputs) ∷ [] ≡ operand_shape left inputs ∷ operand_shape right inputs ∷ [] =
    ap (λ ns. ns ∷ operand_shape (moved_operand (place_now keys) right) (shapes_now keys inputs) ∷ []) l ∙ ap (λ ns. operand_shape left inputs ∷ ns ∷ []) g in
    record {
      left_in = operand-place keys inputs left n r.left_in;
      right_in = operand-place keys inputs right n r.right_in;
      agree = subst Agree (sym same) r.agree;
      shape_is = ap broadcast same ∙ r.shape_is;
    }
rules-moved keys (Where condition first second inputs shape) a n h r =
    let c = operand-same keys inputs condition a n r.condition_in in
    let f = operand-same keys inputs first a n r.first_in in
    let g = operand-same keys inputs second a n r.second_in in
    let now : Operand → List ℕ = λ o. operand_shape (moved_operand (place_now keys) o) (shapes_now keys inputs) in
    let same : now condition ∷ now first ∷ now second ∷ [] ≡ operand_shape condition inputs ∷ operand_shape first inputs ∷ operand_shape second inputs ∷ [] =
    ap (λ ns. ns ∷ now first ∷ now second ∷ []) c ∙ ap (λ ns. operand_shape condition inputs ∷ ns ∷ now second ∷ []) f ∙ ap (λ ns. operand_shape condition inputs ∷ operand_shape first inputs ∷ ns ∷ []) g in
    record {
      condition_in = operand-place keys inputs condition n r.condition_in;
      first_in = operand-place keys inputs first n r.first_in;
      second_in = operand-place keys inputs second n r.second_in;
      agree = subst Agree (sym same) r.agree;
      shape_is = ap broadcast same ∙ r.shape_is;
    }
rules-moved keys (Slice steps dropped input) a n h r = r
rules-moved keys (Transpose axes input) a n h r = r
rules-moved keys (Assemble pieces inputs shape) a n h r = record {
  each = All-map (λ (p : Piece). FitsPiece p (shapes_now keys inputs) shape) (moved_piece (place_now keys)) pieces
      (All-weaker (λ (p : Piece). FitsPiece p inputs shape) (λ (p : Piece). FitsPiece (moved_piece (place_now keys) p) (shapes_now keys inputs) shape) (λ p f. piece-now keys inputs shape p a n f) pieces r.each);
  once = λ i g. covered-now (place_now keys) pieces i ∙ r.once i g;
}
rules-moved keys (Reduce fold axes inputs) a n h r = record {
  some = omega (arith, length-now keys inputs, some-now keys (omega (arith, r.some)));
  axes_in = all-now (λ ns. AreAxes axes (length ns)) keys inputs n r.axes_in;
  same = All-weaker (λ ns. kept_shape 0 ns axes ≡ kept_shape 0 (get_or inputs 0 []) axes) (λ ns. kept_shape 0 ns axes ≡ kept_shape 0 (get_or (shapes_now keys inputs) 0 []) axes) (λ ns e. e ∙ sym (reduced-now keys inputs axes n h.1)) (shapes_now keys inputs)
      (all-now (λ ns. kept_shape 0 ns axes ≡ kept_shape 0 (get_or inputs 0 []) axes) keys inputs n r.same);
  foldable = all-now (IsFoldable fold axes) keys inputs n r.foldable;
}
rules-moved keys (Contract left right left_axes right_axes inputs) a n h r =
    let l : get_or (shapes_now keys inputs) (place_now keys left) [] ≡ get_or inputs left [] = shape-at-now keys inputs left a h.0 in
    let g : get_or (shapes_now keys inputs) (place_now keys right) [] ≡ get_or inputs right [] = shape-at-now keys inputs right a h.1 in
    record {
      left_in = place-now-below keys inputs left n r.left_in;
      right_in = place-now-below keys inputs right n r.right_in;
      left_axes_in = subst (λ ns. AreAxes left_axes (length ns)) (sym l) r.left_axes_in;
      right_axes_in = subst (λ ns. AreAxes right_axes (length ns)) (sym g) r.right_axes_in;
      paired = ap (λ ns. map (λ a. get_or ns a 0) left_axes) l ∙ r.paired ∙ sym (ap (λ ns. map (λ a. get_or ns a 0) right_axes) g);
    }
rules-moved keys (Fill dims region start step) a n h r = r
rules-moved keys (Load input region) a n h r = r

loads-moved : (nodes : List Node) (place : ℕ → ℕ) (shapes : List (List ℕ)) (spec : Spec) → IsLoaded nodes spec → IsLoaded nodes (moved_spec place shapes spec)
loads-moved nodes place shapes (Elementwise op left right inputs shape) h = tt
loads-moved nodes place shapes (Where condition first second inputs shape) h = tt
loads-moved nodes place shapes (Slice steps dropped input) h = tt
loads-moved nodes place shapes (Transpose axes input) h = tt
loads-moved nodes place shapes (Assemble pieces inputs shape) h = tt
loads-moved nodes place shapes (Reduce fold axes inputs) h = tt
loads-moved nodes place shapes (Contract left right left_axes right_axes inputs) h = tt
loads-moved nodes place shapes (Fill dims region start step) h = tt
loads-moved nodes place shapes (Load input region) h = h

pub formed-moved : (nodes : List Node) (tasks : List Task) (order : List ℕ) (j : ℕ) → AreFit tasks → IsNumbering tasks order → ((k : ℕ) → map (dims_at tasks) (task_at tasks k).deps ≡ input_shapes (task_at tasks k).spec) → j < length order
    → IsFormed nodes (task_at tasks (get_or order j 0)) → IsFormed nodes (task_at (renumbered tasks order) j)
formed-moved nodes tasks order j f n fed lt w =
    let old = get_or order j 0 in
    let t = task_at tasks (get_or order j 0) in
    let keys = map (position order) (task_at tasks (get_or order j 0)).deps in
    let number : length (task_at tasks (get_or order j 0)).deps ≡ length (map (position order) (task_at tasks (get_or order j 0)).deps) = number-of-keys tasks order (get_or order j 0) in
    let fits : PlacesFit t.spec (length keys) = subst (PlacesFit (task_at tasks (get_or order j 0)).spec) number (f.places (get_or order j 0)) in
    let count : length (input_shapes t.spec) ≡ length keys = sym (ap (λ (nss : List (List ℕ)). length nss) (fed (get_or order j 0))) ∙ length-map (task_at tasks (get_or order j 0)).deps (dims_at tasks) ∙ number in
    let once : AreOnce keys = keys-once tasks order j f n lt in
    subst (IsFormed nodes) (sym (task-moved tasks order j lt)) (record {
      made = record { rules = rules-moved keys t.spec once count fits w.made.rules; shape = subst IsShape (sym (result-moved keys t.spec once fits)) w.made.shape };
      loads = loads-moved nodes (place_now keys) (shapes_now keys (inputs_of t.spec)) t.spec w.loads;
    })
