-- A node by its operation: what a slice takes, operands whose numbers come by reference, and operands element by element.
use Rattle.std.proofs.Common.{◌≡◌, ℕ, ℤ, pos, ◌<◌, List, [], ◌∷◌, ◌++◌, length, take, get_or, ap, sym, subst, ◌∙◌, arith, Result, IfErr}
use Rattle.std.proofs.lemmas.List.{length-take-le, length-map, get_or-map}
use Rattle.std.proofs.lemmas.Option.{slice_get_within}
use Rattle.nd_shape.specs.declared.chunk.ChunkSpec.{ChunkSpec}
use Rattle.nd_shape.specs.declared.slice.Part.{Part}
use Rattle.nd_shape.specs.declared.slice.Steps.{Steps}
use Rattle.nd_shape.specs.Chunk.{total}
use Rattle.array_expr.specs.declared.op.Op.{Op}
use Rattle.array_expr.specs.declared.op.Op.TheVariants.{Full, Ramp, Slice, Tensordot}
use Rattle.array_expr.specs.declared.expr.Node.{Node}
use Rattle.array_expr.specs.Node.{NamesEarlier, NamesNodes, Makes, Takes, part_on, shape_at}
use Rattle.chunk_layout.specs.Layouts.{lengths, normalized}
use Rattle.task_graph.specs.declared.graph.Task.{Task}
use Rattle.lowering_laws.specs.Sources.{Source}
use Rattle.lowering_laws.specs.Stages.{Arg, Point, pointwise, filled_blocks, contracted_blocks}
use Rattle.lowering_laws.specs.Lowered.{source_at, lower_op}
use Rattle.lowering_laws.proofs.Lowering.{shape-front}
use Rattle.block_lowering.specs.Args.{args_of, arg_of as meant}
use Rattle.block_lowering.specs.Growing.{Refuses}
use Rattle.block_lowering.specs.Ready.{IsReady}
use Rattle.chunk_layout.specs.Slicing.{TakesOf, TakesAll}
use Rattle.chunk_layout.proofs.Taking.{takes-resolved}
use Rattle.block_lowering.specs.declared.error.LowerError.{LowerError}
use Rattle.block_lowering.specs.declared.points.Given.{Given}

-- ---- slices

takes-layout : (layout : List (List ℕ)) (parts : List Part) (taken : List Steps) → Takes (lengths layout) parts taken → TakesAll layout taken
takes-layout layout parts taken t = record {
  axes = t.axes ∙ length-map layout (λ (sizes : List ℕ). total sizes);
  each = λ k s is.
      let axes : length taken ≡ length layout = t.axes ∙ length-map layout (λ (sizes : List ℕ). total sizes) in
      let lt : k < length taken = slice_get_within taken k s is in
      let same : get_or (lengths layout) k 0 ≡ total (get_or layout k []) = get_or-map (λ (sizes : List ℕ). total sizes) layout k [] 0 (omega arith) in
      subst (λ n. TakesOf n s) same (takes-resolved (get_or (lengths layout) k 0) (part_on parts k) s (t.first.each k s is) (t.first.inside k s is));
}

-- what a slice takes of its operand's layout
pub takes-all : (nodes : List Node) (n : ℕ) (sources : List Source) (op : Op) (of : ℕ) (parts : List Part) (taken : List Steps) (shape : List ℕ)
    → op ≡ Slice of parts → NamesNodes op (length (take n nodes)) → Makes (take n nodes) op taken shape → IsReady nodes n sources → TakesAll (source_at sources of).layout taken
takes-all nodes n sources op of parts taken shape is names makes r =
    let here = r.here in
    let there : of < length (take n nodes) = subst (λ (o : Op). NamesEarlier o (length (take n nodes))) is names.there in
    let lt : of < n = omega (arith, length-take-le n nodes (omega arith)) in
    let m : Makes (take n nodes) (Slice of parts) taken shape = subst (λ (o : Op). Makes (take n nodes) o taken shape) is makes in
    let cut : shape_at (take n nodes) of ≡ lengths (source_at sources of).layout = shape-front nodes n of lt ∙ sym (r.shapes of lt) in
    takes-layout (source_at sources of).layout parts taken (subst (λ ds. Takes ds parts taken) cut m.0)

-- ---- operations whose numbers come by reference

pub full-made : (nodes : List Node) (sources : List Source) (n : ℕ) (taken : List Steps) (shape : List ℕ) (op : Op) (base : ℕ) (dims : List ℕ) (v w : ℤ) (chunks cs : List ChunkSpec)
    → op ≡ Full dims v chunks → Makes (take n nodes) op taken shape → cs ≡ chunks → w ≡ v → filled_blocks shape (normalized shape cs) w (pos 0) base ≡ lower_op nodes sources n taken shape op base
full-made nodes sources n taken shape op base dims v w chunks cs is makes cut value =
    let m : Makes (take n nodes) (Full dims v chunks) taken shape = subst (λ (o : Op). Makes (take n nodes) o taken shape) is makes in
    ap (λ (ks : List ChunkSpec). filled_blocks shape (normalized shape ks) w (pos 0) base) cut
    ∙ ap (λ ds. filled_blocks ds (normalized ds chunks) w (pos 0) base) m.1
    ∙ ap (λ x. filled_blocks dims (normalized dims chunks) x (pos 0) base) value ∙ ap (λ (o : Op). lower_op nodes sources n taken shape o base) (sym is)

pub ramp-made : (nodes : List Node) (sources : List Source) (n : ℕ) (taken : List Steps) (shape : List ℕ) (op : Op) (base : ℕ) (dims : List ℕ) (v w x y : ℤ) (chunks cs : List ChunkSpec)
    → op ≡ Ramp dims v x chunks → Makes (take n nodes) op taken shape → cs ≡ chunks → w ≡ v → y ≡ x → filled_blocks shape (normalized shape cs) w y base ≡ lower_op nodes sources n taken shape op base
ramp-made nodes sources n taken shape op base dims v w x y chunks cs is makes cut start step =
    let m : Makes (take n nodes) (Ramp dims v x chunks) taken shape = subst (λ (o : Op). Makes (take n nodes) o taken shape) is makes in
    ap (λ (ks : List ChunkSpec). filled_blocks shape (normalized shape ks) w y base) cut
    ∙ ap (λ ds. filled_blocks ds (normalized ds chunks) w y base) m.1
    ∙ ap (λ z. filled_blocks dims (normalized dims chunks) z y base) start
    ∙ ap (λ z. filled_blocks dims (normalized dims chunks) v z base) step ∙ ap (λ (o : Op). lower_op nodes sources n taken shape o base) (sym is)

pub product-made : (nodes : List Node) (sources : List Source) (n : ℕ) (taken : List Steps) (shape : List ℕ) (op : Op) (base left right : ℕ) (left_axes right_axes : List ℕ) (l r : Source)
    → op ≡ Tensordot left right left_axes right_axes → l ≡ source_at sources left → r ≡ source_at sources right → contracted_blocks left_axes right_axes l r base ≡ lower_op nodes sources n taken shape op base
product-made nodes sources n taken shape op base left right left_axes right_axes l r is first second =
    ap (λ (s : Source). contracted_blocks left_axes right_axes s r base) first ∙ ap (λ (s : Source). contracted_blocks left_axes right_axes (source_at sources left) s base) second
    ∙ ap (λ (o : Op). lower_op nodes sources n taken shape o base) (sym is)

-- ---- operands element by element, listed one after another

pub two-args : (none one two given : List Given) (a b : Given) (x y : Arg) → none ≡ [] → one ≡ none ++ a ∷ [] → two ≡ one ++ b ∷ [] → given ≡ two → meant a ≡ x → meant b ≡ y → args_of given ≡ x ∷ y ∷ []
two-args none one two given a b x y n o t g p q =
    ap args_of (g ∙ t ∙ ap (λ (xs : List Given). xs ++ b ∷ []) (o ∙ ap (λ (xs : List Given). xs ++ a ∷ []) n))
    ∙ ap (λ (z : Arg). z ∷ meant b ∷ []) p ∙ ap (λ (z : Arg). x ∷ z ∷ []) q

pub three-args : (none one two three given : List Given) (a b c : Given) (x y z : Arg) → none ≡ [] → one ≡ none ++ a ∷ [] → two ≡ one ++ b ∷ [] → three ≡ two ++ c ∷ [] → given ≡ three
    → meant a ≡ x → meant b ≡ y → meant c ≡ z → args_of given ≡ x ∷ y ∷ z ∷ []
three-args none one two three given a b c x y z n o t h g p q r =
    ap args_of (g ∙ h ∙ ap (λ (xs : List Given). xs ++ c ∷ []) (t ∙ ap (λ (xs : List Given). xs ++ b ∷ []) (o ∙ ap (λ (xs : List Given). xs ++ a ∷ []) n)))
    ∙ ap (λ (u : Arg). u ∷ meant b ∷ meant c ∷ []) p ∙ ap (λ (u : Arg). x ∷ u ∷ meant c ∷ []) q ∙ ap (λ (u : Arg). x ∷ y ∷ u ∷ []) r

pub refuses-point : {T : Type 0} (r : Result T LowerError) (old : List Task) (point : Point) (dims shape : List ℕ) (given args : List Arg) → dims ≡ shape → given ≡ args
    → IfErr r (Refuses old (pointwise point dims given (length old)).tasks) → IfErr r (Refuses old (pointwise point shape args (length old)).tasks)
refuses-point r old point dims shape given args d g h =
    subst (λ ns. IfErr r (Refuses old (pointwise point ns args (length old)).tasks)) d
    (subst (λ (as' : List Arg). IfErr r (Refuses old (pointwise point dims as' (length old)).tasks)) g h)
