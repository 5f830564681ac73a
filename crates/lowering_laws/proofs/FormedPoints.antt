-- Elementwise operations on blocks are well formed.
use Rattle.std.proofs.Common.{◌≡◌, ℕ, ◌+◌, ◌≤◌, cond, Bool, true, false, ◌||◌, List, [], ◌∷◌, length, map, get_or, refl, ap, sym, subst, ◌∙◌, arith, ℤ, Some, None}
use Rattle.std.specs.Prelude.{nat_eq, Option}
use Rattle.std.specs.List.{AllByRecursion}
use Rattle.small_facts.proofs.Every.{all_join}
use Rattle.nd_shape.specs.Shape.{IsShape}
use Rattle.nd_shape.specs.Index.{IsIn}
use Rattle.nd_shape.specs.Region.{Box}
use Rattle.nd_shape.specs.Broadcast.{broadcast, axes_of, agrees, misfit_with, first_misfit, or_else, length_on, Agree}
use Rattle.nd_grid.specs.declared.operation.Binary.{Binary}
use Rattle.nd_grid.specs.Grid.{Grid, under}
use Rattle.nd_grid.proofs.Under.{length-broadcast}
use Rattle.array_expr.specs.declared.expr.Node.{Node}
use Rattle.chunk_layout.specs.Layouts.{counts, lengths, lengths_at}
use Rattle.chunk_layout.proofs.Parting.{length-lengths}
use Rattle.block_kernels.specs.declared.spec.Operand.{Operand}
use Rattle.block_kernels.specs.Inputs.{IsPlace, operand_shape}
use Rattle.task_graph.specs.declared.graph.Task.{Task}
use Rattle.lowering_laws.specs.Sources.{key_at, fitted}
use Rattle.lowering_laws.specs.Stages.{Use, inputs_among, Arg, Literal, Blocks, Pair, Choice, arg_layout, arg_target, fitted_args, chunks_under, uses_of, operand_of, point_task, pointwise, point_layout}
use Rattle.lowering_laws.specs.Law.{Stand}
use Rattle.lowering_laws.proofs.Carrying.{Stand-front}
use Rattle.lowering_laws.proofs.Under.{one_or, block_under, axes-blocks, lengths-blocks, IsUnder, under-layout}
use Rattle.lowering_laws.proofs.Points.{length-point}
use Rattle.lowering_laws.proofs.Fitting.{fitted-layout}
use Rattle.lowering_laws.proofs.Uses.{place-below}
use Rattle.lowering_laws.proofs.Pointwise.{AllCarry, AllAligned, target, target-is, HasUse, has-first, has-later, IsPoint, point-is, grid_shapes}
use Rattle.lowering_laws.proofs.GoodPoints.{ArgBelow, ArgsMade, all-args}
use Rattle.lowering_laws.proofs.Fed.{UseFits}
use Rattle.lowering_laws.proofs.FedPoints.{ArgShaped, ArgsCut, all-cut, uses-fit}
use Rattle.lowering_laws.proofs.FedFolded.{input-shape}
use Rattle.lowering_laws.proofs.Formed.{IsFormed, AreFormed, formed-each, box-shape}
use Rattle.lowering_laws.proofs.FormedPieces.{formed-fitted}

-- ---- blocks that lie under a block of the result agree

agrees-ones : (l x y : ℕ) → agrees (one_or l x) (one_or l y) ≡ true
agrees-ones l x y = by-case l (nat_eq x 1) (nat_eq y 1)
  where
    same : (l : ℕ) (b : Bool) → (nat_eq l l || b) ≡ true
    same l b = grind arith

    left-one : (l : ℕ) → (nat_eq 1 l || (true || nat_eq l 1)) ≡ true
    left-one l = grind arith

    right-one : (l : ℕ) → (nat_eq l 1 || (nat_eq l 1 || true)) ≡ true
    right-one l = grind arith

    by-case : (l : ℕ) (b c : Bool) → agrees (cond b 1 l) (cond c 1 l) ≡ true
    by-case l true true = refl
    by-case l true false = left-one l
    by-case l false true = right-one l
    by-case l false false = same l (nat_eq l 1 || nat_eq l 1)

misfit-ones : (l x : ℕ) (ys : List ℕ) → misfit_with (one_or l x) (map (one_or l) ys) ≡ None
misfit-ones l x [] = refl
misfit-ones l x (y ∷ ys) = ap (λ b. cond b (misfit_with (one_or l x) (map (one_or l) ys)) (Some (one_or l x, one_or l y))) (agrees-ones l x y) ∙ misfit-ones l x ys

no-misfit : (l : ℕ) (ys : List ℕ) → first_misfit (map (one_or l) ys) ≡ None
no-misfit l [] = refl
no-misfit l (y ∷ ys) = first (misfit_with (one_or l y) (map (one_or l) ys)) (first_misfit (map (one_or l) ys)) (misfit-ones l y ys) (no-misfit l ys)
  where
    first : (p q : Option (ℕ × ℕ)) → p ≡ None → q ≡ None → or_else p q ≡ None
    first p q e f = ap (λ r. or_else r q) e ∙ f

agree-blocks : (lens : List ℕ) (shapes : List (List ℕ)) → axes_of shapes ≡ length lens → Agree (map (block_under lens) shapes)
agree-blocks lens shapes axes =
    let same : axes_of (map (block_under lens) shapes) ≡ length lens = axes-blocks lens shapes (omega arith) ∙ axes in
    record {
      each = λ k h.
          ap (λ a. first_misfit (map (length_on a k) (map (block_under lens) shapes))) same
          ∙ ap first_misfit (lengths-blocks lens k shapes (omega arith) (omega arith))
          ∙ no-misfit (get_or lens k 0) (map (length_on (length lens) k) shapes);
    }

-- ---- operands

-- an operand of this shape, in the layout that it is to have under the result's
abbrev IsLaid : List (List ℕ) → Arg → List ℕ → Type 0
IsLaid layout (Literal v) ns = ns ≡ []
IsLaid layout (Blocks s) ns = s.layout ≡ target ns layout

abbrev AreLaid : List (List ℕ) → List Arg → List (List ℕ) → Type 0
AreLaid layout [] [] = Unit {0}
AreLaid layout [] (ns ∷ shapes) = ⊥
AreLaid layout (a ∷ args) [] = ⊥
AreLaid layout (a ∷ args) (ns ∷ shapes) = IsLaid layout a ns × AreLaid layout args shapes

args-laid : (files : ℕ → List ℕ → ℤ) (tasks : List Task) (layout : List (List ℕ)) (args : List Arg) (gs : List Grid) (base : ℕ) → AllCarry files tasks args gs → AreLaid layout (fitted_args layout args base).args (grid_shapes gs)
args-laid files tasks layout [] [] base c = tt
args-laid files tasks layout [] (g ∷ gs) base c = absurd c
args-laid files tasks layout (x ∷ args) [] base c = absurd c
args-laid files tasks layout (Literal v ∷ args) (g ∷ gs) base c = (c.0.shape, args-laid files tasks layout args gs (base + 0) c.1)
args-laid files tasks layout (Blocks s ∷ args) (g ∷ gs) base c =
    (fitted-layout s (arg_target layout (Blocks s)) base ∙ target-is s g layout c.0.shape, args-laid files tasks layout args gs (base + length (fitted base s (arg_target layout (Blocks s))).tasks) c.1)

args-formed : (nodes : List Node) (files : ℕ → List ℕ → ℤ) (tasks : List Task) (layout : List (List ℕ)) (args : List Arg) (gs : List Grid) (base : ℕ) → AllCarry files tasks args gs → AllAligned layout gs → AllByRecursion (λ (g : Grid). IsShape g.shape) gs
    → AreFormed nodes (fitted_args layout args base).tasks
args-formed nodes files tasks layout [] gs base c a sh = tt
args-formed nodes files tasks layout (x ∷ args) [] base c a sh = absurd c
args-formed nodes files tasks layout (Literal v ∷ args) (g ∷ gs) base c a sh = args-formed nodes files tasks layout args gs (base + 0) c.1 a.1 sh.1
args-formed nodes files tasks layout (Blocks s ∷ args) (g ∷ gs) base c a sh =
    let same : lengths (arg_target layout (Blocks s)) ≡ g.shape = ap (λ (l : List (List ℕ)). lengths l) (target-is s g layout c.0.shape) ∙ a.0.lengths_are in
    all_join (IsFormed nodes) (fitted base s (arg_target layout (Blocks s))).tasks _
    (formed-fitted nodes s (arg_target layout (Blocks s)) base (c.0.shape ∙ sym same) (subst IsShape (sym same) sh.0))
    (args-formed nodes files tasks layout args gs (base + length (fitted base s (arg_target layout (Blocks s))).tasks) c.1 a.1 sh.1)

-- the operand of a block is there, and has the lengths that lie under the block's
record IsOperand (inputs : List (List ℕ)) (lens ns : List ℕ) (o : Operand) : Type 0 where
  place : IsPlace o (length inputs)
  shape : operand_shape o inputs ≡ block_under lens ns

operand-is : (all : List Task) (layout : List (List ℕ)) (uses : List Use) (bs : List ℕ) (a : Arg) (ns : List ℕ) → AllByRecursion (UseFits all) uses → HasUse uses bs a → IsIn (counts layout) bs → length ns ≤ length layout → IsLaid layout a ns → ArgShaped all a
    → IsOperand (inputs_among uses) (lengths_at layout bs) ns (operand_of uses bs a)
operand-is all layout uses bs (Literal v) ns f u h small laid sh = record { place = tt; shape = sym (ap (block_under (lengths_at layout bs)) laid) }
operand-is all layout uses bs (Blocks s) ns f u h small laid sh =
    let key = key_at s (chunks_under s bs) in
    let it : IsUnder ns layout (target ns layout) bs = under-layout ns layout bs small h in
    let inside : IsIn (counts s.layout) (under (counts s.layout) bs) = subst (λ (l : List (List ℕ)). IsIn (counts l) (under (counts l) bs)) (sym laid) it.inside in
    record {
      place = place-below uses key u;
      shape = input-shape all uses key f u ∙ sh.at (under (counts s.layout) bs) inside ∙ ap (λ (l : List (List ℕ)). lengths_at l (under (counts l) bs)) laid ∙ ap (λ (b : Box). b.lengths) it.box;
    }

-- ---- two operands, and three

pair-formed : (nodes : List Node) (all : List Task) (op : Binary) (layout : List (List ℕ)) (args : List Arg) (ns ms bs : List ℕ) → IsIn (counts layout) bs → AreLaid layout args (ns ∷ ms ∷ []) → AllByRecursion (ArgShaped all) args
    → AllByRecursion (UseFits all) (uses_of args bs) → length ns ≤ length layout → length ms ≤ length layout → Agree (map (block_under (lengths_at layout bs)) (ns ∷ ms ∷ []))
    → broadcast (map (block_under (lengths_at layout bs)) (ns ∷ ms ∷ [])) ≡ lengths_at layout bs → IsShape (lengths_at layout bs) → IsFormed nodes (point_task (Pair op) layout args bs)
pair-formed nodes all op layout [] ns ms bs h l sh f ln lm agree res is = absurd l
pair-formed nodes all op layout (a ∷ []) ns ms bs h l sh f ln lm agree res is = absurd l.1
pair-formed nodes all op layout (a ∷ b ∷ c ∷ args) ns ms bs h l sh f ln lm agree res is = absurd l.1.1
pair-formed nodes all op layout (a ∷ b ∷ []) ns ms bs h l sh f ln lm agree res is =
    let lens = lengths_at layout bs in
    let uses = uses_of (a ∷ b ∷ []) bs in
    let inputs = inputs_among uses in
    let x : IsOperand (inputs_among uses) lens ns (operand_of uses bs a) = operand-is all layout uses bs a ns f (has-first a (b ∷ []) bs) h ln l.0 sh.0 in
    let y : IsOperand (inputs_among uses) lens ms (operand_of uses bs b) = operand-is all layout uses bs b ms f (has-later a b (b ∷ []) bs (has-first b [] bs)) h lm l.1.0 sh.1.0 in
    let same : operand_shape (operand_of uses bs a) inputs ∷ operand_shape (operand_of uses bs b) inputs ∷ [] ≡ block_under lens ns ∷ block_under lens ms ∷ [] =
    ap (λ is. is ∷ operand_shape (operand_of uses bs b) inputs ∷ []) x.shape ∙ ap (λ is. block_under lens ns ∷ is ∷ []) y.shape in
    record { made = record { rules = record { left_in = x.place; right_in = y.place; agree = subst Agree (sym same) agree; shape_is = ap broadcast same ∙ res }; shape = is }; loads = tt }

choice-formed : (nodes : List Node) (all : List Task) (layout : List (List ℕ)) (args : List Arg) (ks ns ms bs : List ℕ) → IsIn (counts layout) bs → AreLaid layout args (ks ∷ ns ∷ ms ∷ []) → AllByRecursion (ArgShaped all) args
    → AllByRecursion (UseFits all) (uses_of args bs) → length ks ≤ length layout → length ns ≤ length layout → length ms ≤ length layout → Agree (map (block_under (lengths_at layout bs)) (ks ∷ ns ∷ ms ∷ []))
    → broadcast (map (block_under (lengths_at layout bs)) (ks ∷ ns ∷ ms ∷ [])) ≡ lengths_at layout bs → IsShape (lengths_at layout bs) → IsFormed nodes (point_task Choice layout args bs)
choice-formed nodes all layout [] ks ns ms bs h l sh f lk ln lm agree res is = absurd l
choice-formed nodes all layout (a ∷ []) ks ns ms bs h l sh f lk ln lm agree res is = absurd l.1
choice-formed nodes all layout (a ∷ b ∷ []) ks ns ms bs h l sh f lk ln lm agree res is = absurd l.1.1
choice-formed nodes all layout (a ∷ b ∷ c ∷ d ∷ args) ks ns ms bs h l sh f lk ln lm agree res is = absurd l.1.1.1
choice-formed nodes all layout (a ∷ b ∷ c ∷ []) ks ns ms bs h l sh f lk ln lm agree res is =
    let lens = lengths_at layout bs in
    let uses = uses_of (a ∷ b ∷ c ∷ []) bs in
    let inputs = inputs_among uses in
    let x : IsOperand (inputs_among uses) lens ks (operand_of uses bs a) = operand-is all layout uses bs a ks f (has-first a (b ∷ c ∷ []) bs) h lk l.0 sh.0 in
    let y : IsOperand (inputs_among uses) lens ns (operand_of uses bs b) = operand-is all layout uses bs b ns f (has-later a b (b ∷ c ∷ []) bs (has-first b (c ∷ []) bs)) h ln l.1.0 sh.1.0 in
    let z : IsOperand (inputs_among uses) lens ms (operand_of uses bs c) = operand-is all layout uses bs c ms f (has-later a c (b ∷ c ∷ []) bs (has-later b c (c ∷ []) bs (has-first c [] bs))) h lm l.1.1.0 sh.1.1.0 in
    let at : Operand → List ℕ = λ o. operand_shape o inputs in
    let same : at (operand_of uses bs a) ∷ at (operand_of uses bs b) ∷ at (operand_of uses bs c) ∷ [] ≡ block_under lens ks ∷ block_under lens ns ∷ block_under lens ms ∷ [] =
    ap (λ is. is ∷ at (operand_of uses bs b) ∷ at (operand_of uses bs c) ∷ []) x.shape ∙ ap (λ is. block_under lens ks ∷ is ∷ at (operand_of uses bs c) ∷ []) y.shape ∙ ap (λ is. block_under lens ks ∷ block_under lens ns ∷ is ∷ []) z.shape in
    record { made = record { rules = record { condition_in = x.place; first_in = y.place; second_in = z.place; agree = subst Agree (sym same) agree; shape_is = ap broadcast same ∙ res }; shape = is }; loads = tt }

-- ---- the stage

-- what the operands and the layout of a stage are, with the operands of its blocks
record IsStage (all : List Task) (dims : List ℕ) (args : List Arg) (gs : List Grid) (base : ℕ) : Type 0 where
  point : IsPoint dims (point_layout dims (map arg_layout args)) gs
  laid : AreLaid (point_layout dims (map arg_layout args)) (fitted_args (point_layout dims (map arg_layout args)) args base).args (grid_shapes gs)
  shaped : AllByRecursion (ArgShaped all) (fitted_args (point_layout dims (map arg_layout args)) args base).args
  uses : (bs : List ℕ) → IsIn (counts (point_layout dims (map arg_layout args))) bs → AllByRecursion (UseFits all) (uses_of (fitted_args (point_layout dims (map arg_layout args)) args base).args bs)
  agree : (bs : List ℕ) → IsIn (counts (point_layout dims (map arg_layout args))) bs → Agree (map (block_under (lengths_at (point_layout dims (map arg_layout args)) bs)) (grid_shapes gs))

stage-is : (files : ℕ → List ℕ → ℤ) (tasks all : List Task) (dims : List ℕ) (args : List Arg) (gs : List Grid) (base : ℕ) → AllCarry files tasks args gs → Agree (grid_shapes gs) → dims ≡ broadcast (grid_shapes gs)
    → AllByRecursion (ArgBelow base (length dims)) args → AllByRecursion (ArgShaped all) args → Stand all base (fitted_args (point_layout dims (map arg_layout args)) args base).tasks → IsStage all dims args gs base
stage-is files tasks all dims args gs base c a e h sh stand =
    let layout = point_layout dims (map arg_layout args) in
    let fit = fitted_args layout args base in
    let hl : AllByRecursion (ArgBelow base (length layout)) args = subst (λ n. AllByRecursion (ArgBelow base n) args) (sym (length-point dims (map arg_layout args))) h in
    let made : ArgsMade base layout (fitted_args layout args base).tasks (fitted_args layout args base).args = all-args layout args base hl in
    let cut : ArgsCut all fit.tasks fit.args = all-cut all layout base args base hl sh stand in
    record {
      point = point-is files tasks dims args gs c a e;
      laid = args-laid files tasks layout args gs base c;
      shaped = cut.shaped;
      uses = λ bs i. uses-fit all (base + length fit.tasks) layout fit.args bs i made.ready cut.shaped;
      agree = λ bs i. agree-blocks (lengths_at layout bs) (grid_shapes gs) (sym (length-lengths layout bs i ∙ length-point dims (map arg_layout args) ∙ ap length e ∙ length-broadcast (grid_shapes gs)));
    }

pub formed-pair : (nodes : List Node) (files : ℕ → List ℕ → ℤ) (tasks all : List Task) (op : Binary) (dims : List ℕ) (a b : Arg) (g h : Grid) (base : ℕ) → AllCarry files tasks (a ∷ b ∷ []) (g ∷ h ∷ []) → Agree (g.shape ∷ h.shape ∷ []) → dims ≡ broadcast (g.shape ∷ h.shape ∷ [])
    → AllByRecursion (ArgBelow base (length dims)) (a ∷ b ∷ []) → AllByRecursion (ArgShaped all) (a ∷ b ∷ []) → AllByRecursion (λ (g : Grid). IsShape g.shape) (g ∷ h ∷ []) → IsShape dims → Stand all base (pointwise (Pair op) dims (a ∷ b ∷ []) base).tasks
    → AreFormed nodes (pointwise (Pair op) dims (a ∷ b ∷ []) base).tasks
formed-pair nodes files tasks all op dims a b g h base c agree e below sh shapes is stand =
    let layout = point_layout dims (arg_layout a ∷ arg_layout b ∷ []) in
    let fit = fitted_args layout (a ∷ b ∷ []) base in
    let s : IsStage all dims (a ∷ b ∷ []) (g ∷ h ∷ []) base = stage-is files tasks all dims (a ∷ b ∷ []) (g ∷ h ∷ []) base c agree e below sh (Stand-front all base fit.tasks _ stand) in
    all_join (IsFormed nodes) fit.tasks _ (args-formed nodes files tasks layout (a ∷ b ∷ []) (g ∷ h ∷ []) base c s.point.aligned shapes)
    (formed-each nodes (base + length fit.tasks) layout (point_task (Pair op) layout fit.args) (λ bs i.
    pair-formed nodes all op layout fit.args g.shape h.shape bs i s.laid s.shaped (s.uses bs i) s.point.aligned.0.small s.point.aligned.1.0.small (s.agree bs i) (s.point.result bs i)
    (box-shape layout bs (subst IsShape (sym s.point.cuts) is) i)))

pub formed-choice : (nodes : List Node) (files : ℕ → List ℕ → ℤ) (tasks all : List Task) (dims : List ℕ) (a b c : Arg) (f g h : Grid) (base : ℕ) → AllCarry files tasks (a ∷ b ∷ c ∷ []) (f ∷ g ∷ h ∷ []) → Agree (f.shape ∷ g.shape ∷ h.shape ∷ [])
    → dims ≡ broadcast (f.shape ∷ g.shape ∷ h.shape ∷ []) → AllByRecursion (ArgBelow base (length dims)) (a ∷ b ∷ c ∷ []) → AllByRecursion (ArgShaped all) (a ∷ b ∷ c ∷ []) → AllByRecursion (λ (g : Grid). IsShape g.shape) (f ∷ g ∷ h ∷ []) → IsShape dims
    → Stand all base (pointwise Choice dims (a ∷ b ∷ c ∷ []) base).tasks → AreFormed nodes (pointwise Choice dims (a ∷ b ∷ c ∷ []) base).tasks
formed-choice nodes files tasks all dims a b c f g h base carry agree e below sh shapes is stand =
    let layout = point_layout dims (arg_layout a ∷ arg_layout b ∷ arg_layout c ∷ []) in
    let fit = fitted_args layout (a ∷ b ∷ c ∷ []) base in
    let s : IsStage all dims (a ∷ b ∷ c ∷ []) (f ∷ g ∷ h ∷ []) base = stage-is files tasks all dims (a ∷ b ∷ c ∷ []) (f ∷ g ∷ h ∷ []) base carry agree e below sh (Stand-front all base fit.tasks _ stand) in
    all_join (IsFormed nodes) fit.tasks _ (args-formed nodes files tasks layout (a ∷ b ∷ c ∷ []) (f ∷ g ∷ h ∷ []) base carry s.point.aligned shapes)
    (formed-each nodes (base + length fit.tasks) layout (point_task Choice layout fit.args) (λ bs i.
    choice-formed nodes all layout fit.args f.shape g.shape h.shape bs i s.laid s.shaped (s.uses bs i) s.point.aligned.0.small s.point.aligned.1.0.small s.point.aligned.1.1.0.small (s.agree bs i) (s.point.result bs i)
    (box-shape layout bs (subst IsShape (sym s.point.cuts) is) i)))
