-- What the nodes of an expression promise is what is asked of their operands.
use Rattle.std.proofs.Common.{◌≡◌, ℕ, suc, ◌+◌, ◌-◌, ◌<◌, ◌≤◌, List, [], ◌∷◌, ◌++◌, length, get_or, set, take, map, refl, ap, sym, subst, ◌∙◌, arith, Option, Some}
use Rattle.std.specs.Prelude.{All, slice_get, Result, Ok, Err, OnOk}
use Rattle.std.proofs.lemmas.List.{take-map, get_or-take, length-take-le, length-take, get_or-set_same, length-set}
use Rattle.std.proofs.lemmas.Option.{slice_get_within, get_or_from_slice_get, same_Some}
use Rattle.nd_shape.specs.declared.slice.Part.{Part}
use Rattle.nd_shape.specs.declared.chunk.ChunkSpec.{ChunkSpec}
use Rattle.nd_shape.specs.Region.{Box}
use Rattle.nd_shape.specs.Shape.{IsShape}
use Rattle.nd_shape.specs.Index.{IsIn}
use Rattle.nd_shape.proofs.Places.{IsIn-length}
use Rattle.nd_grid.specs.declared.operation.Binary.{Binary}
use Rattle.nd_grid.specs.declared.operation.Fold.{Fold}
use Rattle.nd_grid.specs.Grid.{under, sliced_shape, SlicesFit, IsTranspose, kept_shape}
use Rattle.nd_grid.proofs.Under.{under-in}
use Rattle.array_expr.specs.declared.op.Op.{Op}
use Rattle.array_expr.specs.declared.op.Op.TheVariants.{Negate, Elementwise, Where, Slice, Transpose, Rechunk, Concatenate, Reduce, Tensordot}
use Rattle.array_expr.specs.declared.expr.Node.{Node}
use Rattle.array_expr.specs.Node.{IsExpression, NamesNodes, NamesEarlier, Makes, AreJoinable, first_shape, joined, length_on_axis, CanContract, dropped, folded_axes, shape_at, shapes_of}
use Rattle.plain_eval.proofs.Fitting.{transposes, takes-fit}
use Rattle.input_regions.specs.Uses.{Uses, IsInBranch, before_operand}
use Rattle.input_regions.specs.Widening.{Widens, AreFit, CanAsk, CanAskAll, IsFromTo, IsJoinedRange, IsUsed, AsksOperands}
use Rattle.input_regions.proofs.Widened.{shape-of}

-- the shape of an earlier node
pub front-shape : (nodes : List Node) (k of : ℕ) → of < k → shape_at (take k nodes) of ≡ shape_at nodes of
front-shape nodes k of h = ap (λ ss. get_or ss of []) (sym (take-map (λ (n : Node). n.shape) k nodes)) ∙ get_or-take k (shapes_of nodes) of [] h

front-shapes : (nodes : List Node) (k : ℕ) (of : List ℕ) → All (λ m. m < k) of → map (shape_at (take k nodes)) of ≡ map (shape_at nodes) of
front-shapes nodes k [] all = refl
front-shapes nodes k (m ∷ of) all = ap (λ s. s ∷ map (shape_at (take k nodes)) of) (front-shape nodes k m (all 0 0 (omega arith))) ∙ ap (λ ss. shape_at nodes m ∷ ss) (front-shapes nodes k of (λ i d h. all (suc i) d (omega (arith, h))))

module _ (nodes : List Node) (k : ℕ) (node : Node) (s : IsExpression nodes) (is : slice_get nodes k ≡ Some node) where
  below : k < length nodes
  below = slice_get_within nodes k node is

  pub names : (op : Op) → node.op ≡ op → NamesEarlier op k
  names op e =
      let n : NamesNodes op (length (take k nodes)) = subst (λ o. NamesNodes o (length (take k nodes))) e (s.each k node is).names in
      subst (NamesEarlier op) (length-take-le k nodes (omega (arith, below))) n.there

  made : (op : Op) → node.op ≡ op → Makes (take k nodes) op node.taken node.shape
  made op e = subst (λ o. Makes (take k nodes) o node.taken node.shape) e (s.each k node is).makes

  own : shape_at nodes k ≡ node.shape
  own = shape-of nodes k node below (get_or_from_slice_get nodes k node node is)

  pub can : (regions : List (Option Box)) (of : ℕ) → of < k → k ≤ length regions → AreFit nodes regions → CanAsk nodes regions of
  can regions of h r f = record { sound = s; there = omega (arith, h, below); room = omega (arith, h, r); fit = f }

  pub can-all : (regions : List (Option Box)) (of : List ℕ) → All (λ m. m < k) of → k ≤ length regions → AreFit nodes regions → CanAskAll nodes regions of
  can-all regions of h r f = record { sound = s; there = λ i d b. omega (arith, h i d b, below); room = λ i d b. omega (arith, h i d b, r); fit = f }

  pub same-in : (of : ℕ) (i : List ℕ) → node.op ≡ Negate of → IsIn (shape_at nodes k) i → IsIn (shape_at nodes of) i
  same-in of i e h = subst (λ ns. IsIn ns i) (own ∙ (made (Negate of) e).0 ∙ front-shape nodes k of (names (Negate of) e)) h

  pub rechunked-in : (of : ℕ) (chunks : List ChunkSpec) (i : List ℕ) → node.op ≡ Rechunk of chunks → IsIn (shape_at nodes k) i → IsIn (shape_at nodes of) i
  rechunked-in of chunks i e h = subst (λ ns. IsIn ns i) (own ∙ (made (Rechunk of chunks) e).1 ∙ front-shape nodes k of (names (Rechunk of chunks) e)) h

  pub left-in : (op : Binary) (left right : ℕ) (i : List ℕ) → node.op ≡ Elementwise op left right → IsIn (shape_at nodes k) i → IsIn (shape_at nodes left) (under (shape_at nodes left) i)
  left-in op left right i e h =
      let shapes = shape_at (take k nodes) left ∷ shape_at (take k nodes) right ∷ [] in
      let m = made (Elementwise op left right) e in
      subst (λ ns. IsIn ns (under ns i)) (front-shape nodes k left (names (Elementwise op left right) e).0)
      (under-in shapes (shape_at (take k nodes) left) i (0, omega arith, refl) m.0 (subst (λ ns. IsIn ns i) (own ∙ m.1) h))

  pub right-in : (op : Binary) (left right : ℕ) (i : List ℕ) → node.op ≡ Elementwise op left right → IsIn (shape_at nodes k) i → IsIn (shape_at nodes right) (under (shape_at nodes right) i)
  right-in op left right i e h =
      let shapes = shape_at (take k nodes) left ∷ shape_at (take k nodes) right ∷ [] in
      let m = made (Elementwise op left right) e in
      subst (λ ns. IsIn ns (under ns i)) (front-shape nodes k right (names (Elementwise op left right) e).1)
      (under-in shapes (shape_at (take k nodes) right) i (1, omega arith, refl) m.0 (subst (λ ns. IsIn ns i) (own ∙ m.1) h))

  pub condition-in : (condition first second : ℕ) (i : List ℕ) → node.op ≡ Where condition first second → IsIn (shape_at nodes k) i → IsIn (shape_at nodes condition) (under (shape_at nodes condition) i)
  condition-in condition first second i e h =
      let shapes = shape_at (take k nodes) condition ∷ shape_at (take k nodes) first ∷ shape_at (take k nodes) second ∷ [] in
      let m = made (Where condition first second) e in
      subst (λ ns. IsIn ns (under ns i)) (front-shape nodes k condition (names (Where condition first second) e).0)
      (under-in shapes (shape_at (take k nodes) condition) i (0, omega arith, refl) m.0 (subst (λ ns. IsIn ns i) (own ∙ m.1) h))

  pub first-in : (condition first second : ℕ) (i : List ℕ) → node.op ≡ Where condition first second → IsIn (shape_at nodes k) i → IsIn (shape_at nodes first) (under (shape_at nodes first) i)
  first-in condition first second i e h =
      let shapes = shape_at (take k nodes) condition ∷ shape_at (take k nodes) first ∷ shape_at (take k nodes) second ∷ [] in
      let m = made (Where condition first second) e in
      subst (λ ns. IsIn ns (under ns i)) (front-shape nodes k first (names (Where condition first second) e).1)
      (under-in shapes (shape_at (take k nodes) first) i (1, omega arith, refl) m.0 (subst (λ ns. IsIn ns i) (own ∙ m.1) h))

  pub second-in : (condition first second : ℕ) (i : List ℕ) → node.op ≡ Where condition first second → IsIn (shape_at nodes k) i → IsIn (shape_at nodes second) (under (shape_at nodes second) i)
  second-in condition first second i e h =
      let shapes = shape_at (take k nodes) condition ∷ shape_at (take k nodes) first ∷ shape_at (take k nodes) second ∷ [] in
      let m = made (Where condition first second) e in
      subst (λ ns. IsIn ns (under ns i)) (front-shape nodes k second (names (Where condition first second) e).2)
      (under-in shapes (shape_at (take k nodes) second) i (2, omega arith, refl) m.0 (subst (λ ns. IsIn ns i) (own ∙ m.1) h))

  pub slices-fit : (of : ℕ) (parts : List Part) → node.op ≡ Slice of parts → SlicesFit 0 node.taken (shape_at nodes of) (dropped parts)
  slices-fit of parts e =
      subst (λ ns. SlicesFit 0 node.taken ns (dropped parts)) (front-shape nodes k of (names (Slice of parts) e)) (takes-fit (shape_at (take k nodes) of) parts node.taken (made (Slice of parts) e).0)

  pub slice-in : (of : ℕ) (parts : List Part) (i : List ℕ) → node.op ≡ Slice of parts → IsIn (shape_at nodes k) i → IsIn (sliced_shape 0 node.taken (dropped parts)) i
  slice-in of parts i e h = subst (λ ns. IsIn ns i) (own ∙ (made (Slice of parts) e).1) h

  pub turns : (of : ℕ) (axes : List ℕ) → node.op ≡ Transpose of axes → IsTranspose axes (length (shape_at nodes of))
  turns of axes e =
      let m = made (Transpose of axes) e in
      subst (λ ns. IsTranspose axes (length ns)) (front-shape nodes k of (names (Transpose of axes) e)) (transposes (length (shape_at (take k nodes) of)) axes m.0 m.1)

  pub turn-in : (of : ℕ) (axes : List ℕ) (i : List ℕ) → node.op ≡ Transpose of axes → IsIn (shape_at nodes k) i → IsIn (map (λ a. get_or (shape_at nodes of) a 0) axes) i
  turn-in of axes i e h =
      subst (λ ns. IsIn (map (λ a. get_or ns a 0) axes) i) (front-shape nodes k of (names (Transpose of axes) e)) (subst (λ ns. IsIn ns i) (own ∙ (made (Transpose of axes) e).2) h)

  pub joined-range : (of : List ℕ) (axis : ℕ) (first last : List ℕ) → node.op ≡ Concatenate of axis → ((i : List ℕ) → IsFromTo first last i → IsIn (shape_at nodes k) i) → IsJoinedRange nodes of axis first last
  joined-range of axis first last e inside =
      let n : NamesNodes (Concatenate of axis) (length (take k nodes)) = subst (λ o. NamesNodes o (length (take k nodes))) e (s.each k node is).names in
      let m = made (Concatenate of axis) e in
      let same : map (shape_at (take k nodes)) of ≡ map (shape_at nodes) of = front-shapes nodes k of (names (Concatenate of axis) e) in
      let fits : AreJoinable (map (shape_at nodes) of) axis = subst (λ ss. AreJoinable ss axis) same m.0 in
      let shape : node.shape ≡ joined (map (shape_at nodes) of) axis = m.1 ∙ ap (λ ss. joined ss axis) same in
      let limits : IsShape (joined (map (shape_at nodes) of) axis) = subst IsShape shape (s.each k node is).limits in
      let shapes = map (shape_at nodes) of in
      let whole = length_on_axis axis (map (shape_at nodes) of) in
      record {
        joinable = fits;
        limit = omega (arith, get_or-set_same (first_shape shapes) axis whole 0 fits.there, limits.lengths axis 0 (omega (arith, length-set (first_shape shapes) axis whole, fits.there)));
        some = n.some;
        inside = λ i f. subst (λ ns. IsIn ns i) (own ∙ shape) (inside i f);
      }

  pub kept-in : (fold : Fold) (of : ℕ) (axes : Option (List ℕ)) (split : ℕ) (i : List ℕ) → node.op ≡ Reduce fold of axes split → IsIn (shape_at nodes k) i → IsIn (kept_shape 0 (shape_at nodes of) (folded_axes axes (length (shape_at nodes of)))) i
  kept-in fold of axes split i e h =
      subst (λ ns. IsIn (kept_shape 0 ns (folded_axes axes (length ns))) i) (front-shape nodes k of (names (Reduce fold of axes split) e)) (subst (λ ns. IsIn ns i) (own ∙ (made (Reduce fold of axes split) e).1) h)

  pub paired-in : (left right : ℕ) (left_axes right_axes : List ℕ) (i : List ℕ) → node.op ≡ Tensordot left right left_axes right_axes → IsIn (shape_at nodes k) i
      → IsIn (kept_shape 0 (shape_at nodes left) left_axes ++ kept_shape 0 (shape_at nodes right) right_axes) i
  paired-in left right left_axes right_axes i e h =
      let n = names (Tensordot left right left_axes right_axes) e in
      subst (λ ns. IsIn (kept_shape 0 ns left_axes ++ kept_shape 0 (shape_at nodes right) right_axes) i) (front-shape nodes k left n.0)
      (subst (λ ns. IsIn (kept_shape 0 (shape_at (take k nodes) left) left_axes ++ kept_shape 0 ns right_axes) i) (front-shape nodes k right n.1)
      (subst (λ ns. IsIn ns i) (own ∙ (made (Tensordot left right left_axes right_axes) e).1) h))

  pub asks : (op : Op) (first last : List ℕ) (old new : List (Option Box)) → node.op ≡ op → Widens (IsUsed first last (Uses op node.taken (shape_at nodes))) old new → AsksOperands nodes k first last old new
  asks op first last old new e w = record {
    each = λ other at.
        subst (λ (m : Node). Widens (IsUsed first last (Uses m.op m.taken (shape_at nodes))) old new) (same_Some node other (sym is ∙ at))
        (subst (λ o. Widens (IsUsed first last (Uses o node.taken (shape_at nodes))) old new) (sym e) w);
  }

  pub pairs-fit : (left right : ℕ) (left_axes right_axes : List ℕ) → node.op ≡ Tensordot left right left_axes right_axes → CanContract (shape_at nodes left) (shape_at nodes right) left_axes right_axes
  pairs-fit left right left_axes right_axes e =
      let n = names (Tensordot left right left_axes right_axes) e in
      subst (λ ns. CanContract ns (shape_at nodes right) left_axes right_axes) (front-shape nodes k left n.0)
      (subst (λ ns. CanContract (shape_at (take k nodes) left) ns left_axes right_axes) (front-shape nodes k right n.1) (made (Tensordot left right left_axes right_axes) e).0)

  pub join-axis : (of : List ℕ) (axis : ℕ) (i : List ℕ) → node.op ≡ Concatenate of axis → IsIn (shape_at nodes k) i → axis < length i
  join-axis of axis i e h =
      let m = made (Concatenate of axis) e in
      let shapes = map (shape_at (take k nodes)) of in
      omega (arith, m.0.there, IsIn-length (shape_at nodes k) i h, ap length (own ∙ m.1), length-set (first_shape shapes) axis (length_on_axis axis shapes))

  pub branch-whole : (of : List ℕ) (axis branch : ℕ) (i : List ℕ) (m : ℕ) (j : List ℕ) → node.op ≡ Concatenate of axis → branch < length of → IsInBranch (shape_at (take k nodes)) axis of branch i m j → IsInBranch (shape_at nodes) axis of branch i m j
  branch-whole of axis branch i m j e h u =
      let all = names (Concatenate of axis) e in
      let below : m < k = omega (arith, u.operand, all branch 0 h) in
      let same : before_operand (shape_at (take k nodes)) axis of branch ≡ before_operand (shape_at nodes) axis of branch = ap (length_on_axis axis) (front-shapes nodes k (take branch of) (λ x d b. taken-below of branch x d all b)) in
      record {
        operand = u.operand;
        low = subst (λ b. b ≤ get_or i axis 0) same u.low;
        high = subst (λ b. get_or i axis 0 < b + get_or (shape_at nodes m) axis 0) same (subst (λ ns. get_or i axis 0 < before_operand (shape_at (take k nodes)) axis of branch + get_or ns axis 0) (front-shape nodes k m below) u.high);
        same = u.same ∙ ap (λ b. set i axis (get_or i axis 0 - b)) same;
      }
    where
      taken-below : (of : List ℕ) (branch x d : ℕ) → All (λ m. m < k) of → x < length (take branch of) → get_or (take branch of) x d < k
      taken-below of branch x d all b =
          let l : x < length of = omega (arith, b, length-take branch of) in
          let c : x < branch = omega (arith, b, length-take branch of) in
          subst (λ v. v < k) (sym (get_or-take branch of x d c)) (all x d l)

pub on-ok : {A E : Type 0} (r : Result A E) (P Q : Type 0) → (P → Q) → OnOk r P → OnOk r Q
on-ok (Ok x) P Q f p = f p
on-ok (Err e) P Q f p = tt
