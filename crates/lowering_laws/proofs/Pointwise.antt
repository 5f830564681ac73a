-- Elementwise operations carry their formulas.
use Rattle.std.proofs.Common.{◌≡◌, ◌≢◌, ℕ, suc, ◌+◌, ◌-◌, ◌<◌, ◌≤◌, cond, List, [], ◌∷◌, length, map, drop, get_or, refl, ap, sym, subst, ◌∙◌, arith, Some, ℤ, pos, ◌*◌}
use Rattle.std.specs.Prelude.{nat_eq, Contains, Option}
use Rattle.std.proofs.lemmas.List.{length-map, get_or-map, get_or-drop, length-drop}
use Rattle.nd_shape.specs.Block.{Array}
use Rattle.nd_shape.specs.Index.{IsIn, place, index_at}
use Rattle.nd_shape.specs.Region.{Box, moved}
use Rattle.nd_shape.proofs.Places.{index_at-in}
use Rattle.nd_shape.specs.Chunk.{total}
use Rattle.nd_shape.specs.Broadcast.{broadcast, axes_of, lengths_on, length_on, Agree}
use Rattle.nd_grid.specs.declared.operation.Binary.{Binary}
use Rattle.nd_grid.specs.Grid.{Grid, Holds, grid_of, under, elementwise, chosen}
use Rattle.nd_grid.proofs.Under.{length-broadcast, broadcast-at, common-member, axes-member, length_on-own}
use Rattle.chunk_layout.specs.Layouts.{counts, lengths, blocks, lengths_at, box_at, region}
use Rattle.chunk_layout.proofs.Parting.{length-starts, length-lengths}
use Rattle.cluster_msgs.specs.Dags.{IsEarlier}
use Rattle.cluster_msgs.specs.Shape.{deps_of}
use Rattle.cluster_msgs.specs.Values.{all_of}
use Rattle.block_kernels.specs.Kernels.{nth, operand}
use Rattle.task_graph.specs.declared.graph.Task.{Task}
use Rattle.task_graph.specs.Graphs.{task_at, shape_of, value}
use Rattle.task_graph.proofs.Making.{InputIs}
use Rattle.lowering_laws.specs.Sources.{Source, key_of, key_at, fitted}
use Rattle.lowering_laws.specs.Stages.{Use, keys_used, deps_of_uses, Arg, Literal, Blocks, Pair, Choice, arg_layout, arg_target, fitted_arg, fitted_args, chunks_under, place_among, uses_of, operand_of, point_task, pointwise, point_layout, layout_under}
use Rattle.lowering_laws.specs.Law.{Carries, Stand}
use Rattle.lowering_laws.proofs.Under.{box_under, block_under, broadcast-blocks, IsUnder, under-layout}
use Rattle.lowering_laws.proofs.Points.{IsNumber, under-holds, pair-local, choice-local, number-holds, lengths-point, length-point, point-one, point-axis}
use Rattle.lowering_laws.proofs.Carrying.{Fits, task-each, fits-each, carries-each, input-holds, Stand-front, Stand-back}
use Rattle.lowering_laws.proofs.Fitting.{IsFitted, carries-fitted}
use Rattle.lowering_laws.proofs.Totals.{IsThere}
use Rattle.task_graph.proofs.Keys.{contains-here, contains-later}
use Rattle.lowering_laws.proofs.Uses.{use-at}
use Rattle.lowering_laws.proofs.Products.{total-on}

-- ---- operands

abbrev pub ArgCarries : (ℕ → List ℕ → ℤ) → List Task → Arg → Grid → Type 0
ArgCarries files tasks (Literal v) g = IsNumber v g
ArgCarries files tasks (Blocks s) g = Carries files tasks s g

-- the layout of an operand of this shape under one of the result
abbrev pub target : List ℕ → List (List ℕ) → List (List ℕ)
target ns layout = layout_under ns (drop (length layout - length ns) layout)

abbrev pub ArgFits : (ℕ → List ℕ → ℤ) → List Task → List (List ℕ) → Arg → Grid → Type 0
ArgFits files tasks layout (Literal v) g = IsNumber v g
ArgFits files tasks layout (Blocks s) g = IsFitted files tasks (target g.shape layout) g s

-- the operand's layout under the result's cuts its lengths
pub record IsAligned (layout : List (List ℕ)) (ns : List ℕ) : Type 0 where
  pub small : length ns ≤ length layout
  pub lengths_are : lengths (target ns layout) ≡ ns

abbrev pub AllCarry : (ℕ → List ℕ → ℤ) → List Task → List Arg → List Grid → Type 0
AllCarry files tasks [] [] = Unit {0}
AllCarry files tasks [] (g ∷ gs) = ⊥
AllCarry files tasks (a ∷ args) [] = ⊥
AllCarry files tasks (a ∷ args) (g ∷ gs) = ArgCarries files tasks a g × AllCarry files tasks args gs

abbrev pub AllFit : (ℕ → List ℕ → ℤ) → List Task → List (List ℕ) → List Arg → List Grid → Type 0
AllFit files tasks layout [] [] = Unit {0}
AllFit files tasks layout [] (g ∷ gs) = ⊥
AllFit files tasks layout (a ∷ args) [] = ⊥
AllFit files tasks layout (a ∷ args) (g ∷ gs) = ArgFits files tasks layout a g × AllFit files tasks layout args gs

abbrev pub AllAligned : List (List ℕ) → List Grid → Type 0
AllAligned layout [] = Unit {0}
AllAligned layout (g ∷ gs) = IsAligned layout g.shape × AllAligned layout gs

pub target-is : (s : Source) (g : Grid) (layout : List (List ℕ)) → lengths s.layout ≡ g.shape → arg_target layout (Blocks s) ≡ target g.shape layout
target-is s g layout e =
    let n : length s.layout ≡ length g.shape = sym (length-map s.layout (λ (sizes : List ℕ). total sizes)) ∙ ap length e in
    ap (λ ns. layout_under ns (drop (length layout - length s.layout) layout)) e ∙ ap (λ k. layout_under g.shape (drop (length layout - k) layout)) n

pub args-fit : (files : ℕ → List ℕ → ℤ) (tasks : List Task) → IsEarlier (deps_of (shape_of tasks)) → (layout : List (List ℕ)) (args : List Arg) (gs : List Grid) (base : ℕ) → AllCarry files tasks args gs → AllAligned layout gs
    → Stand tasks base (fitted_args layout args base).tasks → AllFit files tasks layout (fitted_args layout args base).args gs
args-fit files tasks e layout [] [] base c a stand = tt
args-fit files tasks e layout [] (g ∷ gs) base c a stand = absurd c
args-fit files tasks e layout (x ∷ args) [] base c a stand = absurd c
args-fit files tasks e layout (Literal v ∷ args) (g ∷ gs) base c a stand =
    (c.0, args-fit files tasks e layout args gs (base + length (fitted_arg base layout (Literal v)).tasks) c.1 a.1 (Stand-back tasks base (fitted_arg base layout (Literal v)).tasks _ stand))
args-fit files tasks e layout (Blocks s ∷ args) (g ∷ gs) base c a stand =
    let same : arg_target layout (Blocks s) ≡ target g.shape layout = target-is s g layout c.0.shape in (
      subst (λ t. IsFitted files tasks t g (fitted base s (arg_target layout (Blocks s))).source) same
          (carries-fitted files tasks e s g (arg_target layout (Blocks s)) base c.0 (ap (λ (l : List (List ℕ)). lengths l) same ∙ a.0.lengths_are) (Stand-front tasks base (fitted_arg base layout (Blocks s)).tasks _ stand)),
      args-fit files tasks e layout args gs (base + length (fitted_arg base layout (Blocks s)).tasks) c.1 a.1 (Stand-back tasks base (fitted_arg base layout (Blocks s)).tasks _ stand),
    )

abbrev pub HasUse : List Use → List ℕ → Arg → Type 0
HasUse uses bs (Literal v) = Unit {0}
HasUse uses bs (Blocks s) = Contains (keys_used uses) (key_at s (chunks_under s bs))

pub has-first : (a : Arg) (args : List Arg) (bs : List ℕ) → HasUse (uses_of (a ∷ args) bs) bs a
has-first (Literal v) args bs = tt
has-first (Blocks s) args bs = contains-here (key_at s (chunks_under s bs)) (keys_used (uses_of args bs))

pub has-later : (a x : Arg) (args : List Arg) (bs : List ℕ) → HasUse (uses_of args bs) bs x → HasUse (uses_of (a ∷ args) bs) bs x
has-later a (Literal v) args bs h = tt
has-later (Literal v) (Blocks s) args bs h = h
has-later (Blocks t) (Blocks s) args bs h = contains-later (key_at s (chunks_under s bs)) (key_at t (chunks_under t bs)) (keys_used (uses_of args bs)) h

operand-holds : (files : ℕ → List ℕ → ℤ) (tasks : List Task) (layout : List (List ℕ)) (uses : List Use) (bs : List ℕ) (a : Arg) (g : Grid) (blocks : List Array) → length g.shape ≤ length layout → IsIn (counts layout) bs
    → ArgFits files tasks layout a g → HasUse uses bs a → all_of (map (value files tasks) (deps_of_uses uses)) ≡ Some blocks
    → Holds (operand (operand_of uses bs a) (map grid_of blocks)) g (box_under g.shape (box_at layout bs))
operand-holds files tasks layout uses bs (Literal v) g blocks small h f u all = number-holds v g (box_at layout bs) f
operand-holds files tasks layout uses bs (Blocks s) g blocks small h f u all =
    let under-it : IsUnder g.shape layout (target g.shape layout) bs = under-layout g.shape layout bs small h in
    let inside : IsIn (counts s.layout) (under (counts s.layout) bs) = subst (λ (l : List (List ℕ)). IsIn (counts l) (under (counts l) bs)) (sym f.layout_is) under-it.inside in
    let box : box_at s.layout (under (counts s.layout) bs) ≡ box_under g.shape (box_at layout bs) = ap (λ (l : List (List ℕ)). box_at l (under (counts l) bs)) f.layout_is ∙ under-it.box in
    subst (Holds (nth (map grid_of blocks) _) g) box
    (input-holds files tasks s g (under (counts s.layout) bs) blocks _ f.carries inside (use-at files tasks uses blocks (key_at s (chunks_under s bs)) all u))

-- an operand has something at each index
operand-there : (files : ℕ → List ℕ → ℤ) (tasks : List Task) (uses : List Use) (bs : List ℕ) (a : Arg) (blocks : List Array) (j : List ℕ) → HasUse uses bs a → all_of (map (value files tasks) (deps_of_uses uses)) ≡ Some blocks
    → IsThere ((operand (operand_of uses bs a) (map grid_of blocks)).at j)
operand-there files tasks uses bs (Literal v) blocks j u all = record { value = v; is = refl }
operand-there files tasks uses bs (Blocks s) blocks j u all =
    let i : InputIs files tasks blocks (place_among uses (key_at s (chunks_under s bs))) (key_at s (chunks_under s bs)) = use-at files tasks uses blocks (key_at s (chunks_under s bs)) all u in
    record { value = get_or i.block.cells (place i.block.shape j) (pos 0); is = ap (λ (g : Grid). g.at j) i.grid_is }

-- ---- the tasks

axes-box : (layout : List (List ℕ)) (bs : List ℕ) → IsIn (counts layout) bs → length (box_at layout bs).start ≡ length (box_at layout bs).lengths
axes-box layout bs h = length-starts layout bs h ∙ sym (length-lengths layout bs h)

pair-fits : (files : ℕ → List ℕ → ℤ) (tasks : List Task) (op : Binary) (layout : List (List ℕ)) (args : List Arg) (g h : Grid) (bs : List ℕ) → IsIn (counts layout) bs → AllFit files tasks layout args (g ∷ h ∷ []) → AllAligned layout (g ∷ h ∷ [])
    → broadcast (map (block_under (lengths_at layout bs)) (g.shape ∷ h.shape ∷ [])) ≡ lengths_at layout bs → Fits files tasks (point_task (Pair op) layout args bs) (elementwise op g h) (box_at layout bs)
pair-fits files tasks op layout [] g h bs i f al res = absurd f
pair-fits files tasks op layout (a ∷ []) g h bs i f al res = absurd f.1
pair-fits files tasks op layout (a ∷ b ∷ c ∷ args) g h bs i f al res = absurd f.1.1
pair-fits files tasks op layout (a ∷ b ∷ []) g h bs i f al res = record {
  holds = λ blocks v.
      let uses = uses_of (a ∷ b ∷ []) bs in
      let ll : length (lengths_at layout bs) ≡ length layout = length-lengths layout bs i in
      pair-local op _ _ g h (box_at layout bs)
      (operand-holds files tasks layout uses bs a g blocks al.0.small i f.0 (has-first a (b ∷ []) bs) v)
      (operand-holds files tasks layout uses bs b h blocks al.1.0.small i f.1.0 (has-later a b (b ∷ []) bs (has-first b [] bs)) v)
      (axes-box layout bs i) (omega (arith, al.0.small)) (omega (arith, al.1.0.small)) res;
}

-- two arrays have elements under each index of the box
pub record AreThere (g h : Grid) (box : Box) : Type 0 where
  pub left : (i : List ℕ) → IsIn box.lengths i → IsThere (g.at (under g.shape (moved box.start i)))
  pub right : (i : List ℕ) → IsIn box.lengths i → IsThere (h.at (under h.shape (moved box.start i)))

pub record HasOperands (files : ℕ → List ℕ → ℤ) (tasks : List Task) (t : Task) (g h : Grid) (box : Box) : Type 0 where
  pub there : (blocks : List Array) → all_of (map (value files tasks) t.deps) ≡ Some blocks → AreThere g h box

there-as : (o q : Option ℤ) → o ≡ q → IsThere o → IsThere q
there-as o q e t = record { value = t.value; is = sym e ∙ t.is }

pair-there : (files : ℕ → List ℕ → ℤ) (tasks : List Task) (op : Binary) (layout : List (List ℕ)) (args : List Arg) (g h : Grid) (bs : List ℕ) → IsIn (counts layout) bs → AllFit files tasks layout args (g ∷ h ∷ []) → AllAligned layout (g ∷ h ∷ [])
    → HasOperands files tasks (point_task (Pair op) layout args bs) g h (box_at layout bs)
pair-there files tasks op layout [] g h bs i f al = absurd f
pair-there files tasks op layout (a ∷ []) g h bs i f al = absurd f.1
pair-there files tasks op layout (a ∷ b ∷ c ∷ args) g h bs i f al = absurd f.1.1
pair-there files tasks op layout (a ∷ b ∷ []) g h bs i f al = record {
  there = λ blocks v.
      let uses = uses_of (a ∷ b ∷ []) bs in
      let ll : length (lengths_at layout bs) ≡ length layout = length-lengths layout bs i in
      let ha = operand-holds files tasks layout uses bs a g blocks al.0.small i f.0 (has-first a (b ∷ []) bs) v in
      let hb = operand-holds files tasks layout uses bs b h blocks al.1.0.small i f.1.0 (has-later a b (b ∷ []) bs (has-first b [] bs)) v in
      record {
        left = λ j inside. there-as _ _ (under-holds _ g (box_at layout bs) j ha (axes-box layout bs i) (omega (arith, al.0.small)) inside) (operand-there files tasks uses bs a blocks _ (has-first a (b ∷ []) bs) v);
        right = λ j inside. there-as _ _ (under-holds _ h (box_at layout bs) j hb (axes-box layout bs i) (omega (arith, al.1.0.small)) inside) (operand-there files tasks uses bs b blocks _ (has-later a b (b ∷ []) bs (has-first b [] bs)) v);
      };
}

choice-fits : (files : ℕ → List ℕ → ℤ) (tasks : List Task) (layout : List (List ℕ)) (args : List Arg) (f g h : Grid) (bs : List ℕ) → IsIn (counts layout) bs → AllFit files tasks layout args (f ∷ g ∷ h ∷ []) → AllAligned layout (f ∷ g ∷ h ∷ [])
    → broadcast (map (block_under (lengths_at layout bs)) (f.shape ∷ g.shape ∷ h.shape ∷ [])) ≡ lengths_at layout bs → Fits files tasks (point_task Choice layout args bs) (chosen f g h) (box_at layout bs)
choice-fits files tasks layout [] f g h bs i t al res = absurd t
choice-fits files tasks layout (a ∷ []) f g h bs i t al res = absurd t.1
choice-fits files tasks layout (a ∷ b ∷ []) f g h bs i t al res = absurd t.1.1
choice-fits files tasks layout (a ∷ b ∷ c ∷ d ∷ args) f g h bs i t al res = absurd t.1.1.1
choice-fits files tasks layout (a ∷ b ∷ c ∷ []) f g h bs i t al res = record {
  holds = λ blocks v.
      let uses = uses_of (a ∷ b ∷ c ∷ []) bs in
      let ll : length (lengths_at layout bs) ≡ length layout = length-lengths layout bs i in
      choice-local _ _ _ f g h (box_at layout bs)
      (operand-holds files tasks layout uses bs a f blocks al.0.small i t.0 (has-first a (b ∷ c ∷ []) bs) v)
      (operand-holds files tasks layout uses bs b g blocks al.1.0.small i t.1.0 (has-later a b (b ∷ c ∷ []) bs (has-first b (c ∷ []) bs)) v)
      (operand-holds files tasks layout uses bs c h blocks al.1.1.0.small i t.1.1.0 (has-later a c (b ∷ c ∷ []) bs (has-later b c (c ∷ []) bs (has-first c [] bs))) v)
      (axes-box layout bs i) (omega (arith, al.0.small)) (omega (arith, al.1.0.small)) (omega (arith, al.1.1.0.small)) res;
}

-- ---- operands agree with the result

broadcast-member : (shapes : List (List ℕ)) (ns : List ℕ) (k : ℕ) → Contains shapes ns → Agree shapes → k < length ns → get_or ns k 0 ≢ 1 → get_or (broadcast shapes) (axes_of shapes - length ns + k) 0 ≡ get_or ns k 0
broadcast-member shapes ns k m a h ne =
    let axes = axes_of shapes in
    let small : length ns ≤ axes = axes-member shapes m.0 ns m.1 m.2 in
    let at = axes - length ns + k in
    let inside : at < axes = omega arith in
    let own : get_or (lengths_on shapes at) m.0 1 ≡ get_or ns k 0 = get_or-map (length_on axes at) shapes m.0 ns 1 m.1 ∙ ap (length_on axes at) m.2 ∙ length_on-own axes k ns small h in
    let hl : m.0 < length (lengths_on shapes at) = omega (arith, length-map shapes (length_on axes at), m.1) in
    broadcast-at shapes at inside ∙ common-member (lengths_on shapes at) m.0 (a.each at inside) hl (λ z. ne (sym own ∙ z)) ∙ own

aligned-along : (ns : List ℕ) (layout : List (List ℕ)) → length ns ≡ length layout → ((k : ℕ) → k < length ns → get_or ns k 0 ≢ 1 → total (get_or layout k []) ≡ get_or ns k 0) → lengths (layout_under ns layout) ≡ ns
aligned-along [] [] e h = refl
aligned-along [] (sizes ∷ layout) e h = absurd (omega arith)
aligned-along (n ∷ ns) [] e h = absurd (omega arith)
aligned-along (n ∷ ns) (sizes ∷ layout) e h =
    ap (λ m. m ∷ lengths (layout_under ns layout)) (point-axis n sizes (λ d. h 0 (omega arith) d)) ∙ ap (λ ms. n ∷ ms) (aligned-along ns layout (omega arith) (λ k lt d. h (suc k) (omega arith) d))
  where
    one : (n : ℕ) (xs : List ℕ) → n ≡ 1 → cond (nat_eq n 1) (1 ∷ []) xs ≡ 1 ∷ []
    one n xs e = grind arith

    other : (n : ℕ) (xs : List ℕ) → n ≢ 1 → cond (nat_eq n 1) (1 ∷ []) xs ≡ xs
    other n xs e = grind arith

aligned : (shapes : List (List ℕ)) (layout : List (List ℕ)) (ns : List ℕ) → Contains shapes ns → Agree shapes → lengths layout ≡ broadcast shapes → IsAligned layout ns
aligned shapes layout ns m a e =
    let number : length layout ≡ axes_of shapes = sym (length-map layout (λ (sizes : List ℕ). total sizes)) ∙ ap length e ∙ length-broadcast shapes in
    let small : length ns ≤ axes_of shapes = axes-member shapes m.0 ns m.1 m.2 in
    let off = length layout - length ns in
    record {
      small = omega arith;
      lengths_are = aligned-along ns (drop off layout) (omega (arith, length-drop off layout)) (λ k lt d.
          let at : off + k ≡ axes_of shapes - length ns + k = omega arith in
          ap total (get_or-drop off layout k []) ∙ total-on layout (off + k) ∙ ap (λ ns. get_or ns (off + k) 0) e ∙ ap (λ j. get_or (broadcast shapes) j 0) at ∙ broadcast-member shapes ns k m a lt d);
    }

abbrev pub grid_shapes : List Grid → List (List ℕ)
grid_shapes gs = map (λ (g : Grid). g.shape) gs

aligned-all : (shapes : List (List ℕ)) (layout : List (List ℕ)) (gs : List Grid) → ((k : ℕ) (g : Grid) → k < length gs → get_or gs k g ≡ g → Contains shapes g.shape) → Agree shapes → lengths layout ≡ broadcast shapes → AllAligned layout gs
aligned-all shapes layout [] m a e = tt
aligned-all shapes layout (g ∷ gs) m a e = (aligned shapes layout g.shape (m 0 g (omega arith) refl) a e, aligned-all shapes layout gs (λ k h lt i. m (suc k) h (omega arith) i) a e)

member-shape : (gs : List Grid) (k : ℕ) (g : Grid) → k < length gs → get_or gs k g ≡ g → Contains (grid_shapes gs) g.shape
member-shape gs k g lt e = (k, omega (arith, length-map gs (λ (g : Grid). g.shape)), get_or-map (λ (g : Grid). g.shape) gs k g g.shape lt ∙ ap (λ (g : Grid). g.shape) e)

-- the layouts of operands cut their shapes
pub layouts-are : (files : ℕ → List ℕ → ℤ) (tasks : List Task) (args : List Arg) (gs : List Grid) → AllCarry files tasks args gs → map (λ (layout : List (List ℕ)). lengths layout) (map arg_layout args) ≡ grid_shapes gs
layouts-are files tasks [] [] c = refl
layouts-are files tasks [] (g ∷ gs) c = absurd c
layouts-are files tasks (a ∷ args) [] c = absurd c
layouts-are files tasks (Literal v ∷ args) (g ∷ gs) c = ap (λ ns. ns ∷ map (λ (layout : List (List ℕ)). lengths layout) (map arg_layout args)) (sym c.0.shape) ∙ ap (λ ss. g.shape ∷ ss) (layouts-are files tasks args gs c.1)
layouts-are files tasks (Blocks s ∷ args) (g ∷ gs) c = ap (λ ns. ns ∷ map (λ (layout : List (List ℕ)). lengths layout) (map arg_layout args)) c.0.shape ∙ ap (λ ss. g.shape ∷ ss) (layouts-are files tasks args gs c.1)

-- what the layout of the result has to do with the operands
pub record IsPoint (dims : List ℕ) (layout : List (List ℕ)) (gs : List Grid) : Type 0 where
  pub cuts : lengths layout ≡ dims
  pub aligned : AllAligned layout gs
  pub result : (bs : List ℕ) → IsIn (counts layout) bs → broadcast (map (block_under (lengths_at layout bs)) (grid_shapes gs)) ≡ lengths_at layout bs

pub point-is : (files : ℕ → List ℕ → ℤ) (tasks : List Task) (dims : List ℕ) (args : List Arg) (gs : List Grid) → AllCarry files tasks args gs → Agree (grid_shapes gs) → dims ≡ broadcast (grid_shapes gs) → IsPoint dims (point_layout dims (map arg_layout args)) gs
point-is files tasks dims args gs c a e =
    let layouts = map arg_layout args in
    let shapes : map (λ (layout : List (List ℕ)). lengths layout) layouts ≡ grid_shapes gs = layouts-are files tasks args gs c in
    let cuts : lengths (point_layout dims layouts) ≡ dims = lengths-point dims layouts (e ∙ ap broadcast (sym shapes)) in
    record {
      cuts = cuts;
      aligned = aligned-all (grid_shapes gs) (point_layout dims layouts) gs (member-shape gs) a (cuts ∙ e);
      result = λ bs h.
          let ll : length (lengths_at (point_layout dims layouts) bs) ≡ length dims = length-lengths (point_layout dims layouts) bs h ∙ length-point dims layouts in
          let number : length dims ≡ axes_of (grid_shapes gs) = ap length e ∙ length-broadcast (grid_shapes gs) in
          broadcast-blocks (lengths_at (point_layout dims layouts) bs) (grid_shapes gs) (omega arith) (λ k lt one.
          point-one dims layouts bs k h (omega arith) (ap (λ ns. get_or ns k 0) e ∙ broadcast-at (grid_shapes gs) k (omega arith) ∙ one));
    }

-- where the dependencies of a block's task have values, both operands have elements under each index of its box
pub there-pair : (files : ℕ → List ℕ → ℤ) (tasks : List Task) → IsEarlier (deps_of (shape_of tasks)) → (op : Binary) (dims : List ℕ) (a b : Arg) (g h : Grid) (base : ℕ) → ArgCarries files tasks a g → ArgCarries files tasks b h
    → Agree (g.shape ∷ h.shape ∷ []) → dims ≡ broadcast (g.shape ∷ h.shape ∷ []) → Stand tasks base (pointwise (Pair op) dims (a ∷ b ∷ []) base).tasks
    → (c : ℕ) → c < blocks (pointwise (Pair op) dims (a ∷ b ∷ []) base).source.layout
    → HasOperands files tasks (task_at tasks (key_of (pointwise (Pair op) dims (a ∷ b ∷ []) base).source c)) g h (region (pointwise (Pair op) dims (a ∷ b ∷ []) base).source.layout c)
there-pair files tasks e op dims a b g h base ca cb agree shape stand c lt =
    let layout = point_layout dims (arg_layout a ∷ arg_layout b ∷ []) in
    let is : IsPoint dims layout (g ∷ h ∷ []) = point-is files tasks dims (a ∷ b ∷ []) (g ∷ h ∷ []) (ca, (cb, tt)) agree shape in
    let fit = fitted_args layout (a ∷ b ∷ []) base in
    let fits : AllFit files tasks layout fit.args (g ∷ h ∷ []) = args-fit files tasks e layout (a ∷ b ∷ []) (g ∷ h ∷ []) base (ca, (cb, tt)) is.aligned (Stand-front tasks base fit.tasks _ stand) in
    let at : task_at tasks (base + length fit.tasks + 1 * c) ≡ point_task (Pair op) layout fit.args (index_at (counts layout) c) = task-each tasks (base + length fit.tasks) layout (point_task (Pair op) layout fit.args) (Stand-back tasks base fit.tasks _ stand) c lt in
    subst (λ (t : Task). HasOperands files tasks t g h (region layout c)) (sym at) (pair-there files tasks op layout fit.args g h (index_at (counts layout) c) (index_at-in (counts layout) c lt) fits is.aligned)

-- what the task of each block makes holds what the operation's formula has in the block's box
pub fits-pair : (files : ℕ → List ℕ → ℤ) (tasks : List Task) → IsEarlier (deps_of (shape_of tasks)) → (op : Binary) (dims : List ℕ) (a b : Arg) (g h : Grid) (base : ℕ) → ArgCarries files tasks a g → ArgCarries files tasks b h
    → Agree (g.shape ∷ h.shape ∷ []) → dims ≡ broadcast (g.shape ∷ h.shape ∷ []) → Stand tasks base (pointwise (Pair op) dims (a ∷ b ∷ []) base).tasks
    → (c : ℕ) → c < blocks (pointwise (Pair op) dims (a ∷ b ∷ []) base).source.layout
    → Fits files tasks (task_at tasks (key_of (pointwise (Pair op) dims (a ∷ b ∷ []) base).source c)) (elementwise op g h) (region (pointwise (Pair op) dims (a ∷ b ∷ []) base).source.layout c)
fits-pair files tasks e op dims a b g h base ca cb agree shape stand c lt =
    let layout = point_layout dims (arg_layout a ∷ arg_layout b ∷ []) in
    let is : IsPoint dims layout (g ∷ h ∷ []) = point-is files tasks dims (a ∷ b ∷ []) (g ∷ h ∷ []) (ca, (cb, tt)) agree shape in
    let fit = fitted_args layout (a ∷ b ∷ []) base in
    let fits : AllFit files tasks layout fit.args (g ∷ h ∷ []) = args-fit files tasks e layout (a ∷ b ∷ []) (g ∷ h ∷ []) base (ca, (cb, tt)) is.aligned (Stand-front tasks base fit.tasks _ stand) in
    fits-each files tasks (base + length fit.tasks) layout (point_task (Pair op) layout fit.args) (elementwise op g h) (Stand-back tasks base fit.tasks _ stand)
    (λ bs i. pair-fits files tasks op layout fit.args g h bs i fits is.aligned (is.result bs i)) c lt

pub carries-pair : (files : ℕ → List ℕ → ℤ) (tasks : List Task) → IsEarlier (deps_of (shape_of tasks)) → (op : Binary) (dims : List ℕ) (a b : Arg) (g h : Grid) (base : ℕ) → ArgCarries files tasks a g → ArgCarries files tasks b h
    → Agree (g.shape ∷ h.shape ∷ []) → dims ≡ broadcast (g.shape ∷ h.shape ∷ []) → Stand tasks base (pointwise (Pair op) dims (a ∷ b ∷ []) base).tasks
    → Carries files tasks (pointwise (Pair op) dims (a ∷ b ∷ []) base).source (elementwise op g h)
carries-pair files tasks e op dims a b g h base ca cb agree shape stand =
    let layout = point_layout dims (arg_layout a ∷ arg_layout b ∷ []) in
    let is : IsPoint dims layout (g ∷ h ∷ []) = point-is files tasks dims (a ∷ b ∷ []) (g ∷ h ∷ []) (ca, (cb, tt)) agree shape in
    let fit = fitted_args layout (a ∷ b ∷ []) base in
    let fits : AllFit files tasks layout fit.args (g ∷ h ∷ []) = args-fit files tasks e layout (a ∷ b ∷ []) (g ∷ h ∷ []) base (ca, (cb, tt)) is.aligned (Stand-front tasks base fit.tasks _ stand) in
    carries-each files tasks e (base + length fit.tasks) layout (point_task (Pair op) layout fit.args) (elementwise op g h) (is.cuts ∙ shape) (Stand-back tasks base fit.tasks _ stand)
    (λ bs i. pair-fits files tasks op layout fit.args g h bs i fits is.aligned (is.result bs i))

pub carries-choice : (files : ℕ → List ℕ → ℤ) (tasks : List Task) → IsEarlier (deps_of (shape_of tasks)) → (dims : List ℕ) (a b c : Arg) (f g h : Grid) (base : ℕ) → ArgCarries files tasks a f → ArgCarries files tasks b g → ArgCarries files tasks c h
    → Agree (f.shape ∷ g.shape ∷ h.shape ∷ []) → dims ≡ broadcast (f.shape ∷ g.shape ∷ h.shape ∷ []) → Stand tasks base (pointwise Choice dims (a ∷ b ∷ c ∷ []) base).tasks
    → Carries files tasks (pointwise Choice dims (a ∷ b ∷ c ∷ []) base).source (chosen f g h)
carries-choice files tasks e dims a b c f g h base ca cb cc' agree shape stand =
    let layout = point_layout dims (arg_layout a ∷ arg_layout b ∷ arg_layout c ∷ []) in
    let is : IsPoint dims layout (f ∷ g ∷ h ∷ []) = point-is files tasks dims (a ∷ b ∷ c ∷ []) (f ∷ g ∷ h ∷ []) (ca, (cb, (cc', tt))) agree shape in
    let fit = fitted_args layout (a ∷ b ∷ c ∷ []) base in
    let fits : AllFit files tasks layout fit.args (f ∷ g ∷ h ∷ []) = args-fit files tasks e layout (a ∷ b ∷ c ∷ []) (f ∷ g ∷ h ∷ []) base (ca, (cb, (cc', tt))) is.aligned (Stand-front tasks base fit.tasks _ stand) in
    carries-each files tasks e (base + length fit.tasks) layout (point_task Choice layout fit.args) (chosen f g h) (is.cuts ∙ shape) (Stand-back tasks base fit.tasks _ stand)
    (λ bs i. choice-fits files tasks layout fit.args f g h bs i fits is.aligned (is.result bs i))
