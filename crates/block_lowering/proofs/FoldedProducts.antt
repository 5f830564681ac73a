-- A product grows by its fitted operands, then by its blocks.
use Rattle.std.proofs.Common.{◌≡◌, ℕ, ◌+◌, List, ◌++◌, length, map, ap, subst, ◌∙◌, append_assoc, length-append}
use Rattle.task_graph.specs.declared.graph.Task.{Task}
use Rattle.lowering_laws.specs.Sources.{Source, Made, fitted}
use Rattle.lowering_laws.specs.Stages.{paired_sizes, with_sizes, product_blocks, contracted_blocks}
use Rattle.block_lowering.specs.Growing.{Refuses, IsGrown}
use Rattle.block_lowering.specs.declared.error.LowerError.{LowerError}
use Rattle.block_lowering.proofs.Refusing.{refuses-more, refuses-behind, refuses-same}

-- ---- layouts that are known by equations

paired-same : (left left' right right' : List (List ℕ)) (axes axes' others others' : List ℕ) → left ≡ left' → right ≡ right' → axes ≡ axes' → others ≡ others' → paired_sizes left right axes others ≡ paired_sizes left' right' axes' others'
paired-same left left' right right' axes axes' others others' l r a b =
    ap (λ x. paired_sizes x right axes others) l ∙ ap (λ x. paired_sizes left' x axes others) r ∙ ap (λ x. paired_sizes left' right' x others) a ∙ ap (paired_sizes left' right' axes') b

with-same : (layout layout' : List (List ℕ)) (axes axes' : List ℕ) (sizes sizes' : List (List ℕ)) → layout ≡ layout' → axes ≡ axes' → sizes ≡ sizes' → with_sizes layout axes sizes ≡ with_sizes layout' axes' sizes'
with-same layout layout' axes axes' sizes sizes' l a s = ap (λ x. with_sizes x axes sizes) l ∙ ap (λ x. with_sizes layout' x sizes) a ∙ ap (with_sizes layout' axes') s

-- ---- the operands

abbrev pub fit_left : List ℕ → List ℕ → Source → Source → ℕ → Made
fit_left left_axes right_axes l r base = fitted base l (with_sizes l.layout left_axes (paired_sizes l.layout r.layout left_axes right_axes))

abbrev pub fit_right : List ℕ → List ℕ → Source → Source → ℕ → Made
fit_right left_axes right_axes l r base =
    fitted (base + length (fit_left left_axes right_axes l r base).tasks) r (with_sizes r.layout right_axes (paired_sizes l.layout r.layout left_axes right_axes))

-- the layouts to which the operands are brought, and the sizes on the paired axes
pub record AreTargets (left_axes right_axes : List ℕ) (l r : Source) (sizes to_left to_right : List (List ℕ)) : Type 0 where
  pub sizes_are : sizes ≡ paired_sizes l.layout r.layout left_axes right_axes
  pub left_is : to_left ≡ with_sizes l.layout left_axes (paired_sizes l.layout r.layout left_axes right_axes)
  pub right_is : to_right ≡ with_sizes r.layout right_axes (paired_sizes l.layout r.layout left_axes right_axes)

pub are-targets : (one two : List ℕ) (l r : Source) (xs ys xs' ys' : List (List ℕ)) (as' bs : List ℕ) (sizes cs ds to_left to_right : List (List ℕ)) → xs ≡ l.layout → ys ≡ r.layout → xs' ≡ l.layout → ys' ≡ r.layout → as' ≡ one → bs ≡ two
    → sizes ≡ paired_sizes xs ys as' bs → cs ≡ sizes → ds ≡ sizes → to_left ≡ with_sizes xs' as' cs → to_right ≡ with_sizes ys' bs ds → AreTargets one two l r sizes to_left to_right
are-targets one two l r xs ys xs' ys' as' bs sizes cs ds to_left to_right x y x' y' a b e c d f g =
    let s : sizes ≡ paired_sizes l.layout r.layout one two = e ∙ paired-same xs l.layout ys r.layout as' one bs two x y a b in
    record {
      sizes_are = s;
      left_is = f ∙ with-same xs' l.layout as' one cs (paired_sizes l.layout r.layout one two) x' a (c ∙ s);
      right_is = g ∙ with-same ys' r.layout bs two ds (paired_sizes l.layout r.layout one two) y' b (d ∙ s);
    }

-- the first operand's tasks stand behind the others, and the second's behind those
pub record IsFitted (left_axes right_axes : List ℕ) (l r : Source) (old now : List Task) (first second : Source) : Type 0 where
  pub tasks : now ≡ old ++ ((fit_left left_axes right_axes l r (length old)).tasks ++ (fit_right left_axes right_axes l r (length old)).tasks)
  pub first_is : first ≡ (fit_left left_axes right_axes l r (length old)).source
  pub second_is : second ≡ (fit_right left_axes right_axes l r (length old)).source

right-here : (left_axes right_axes : List ℕ) (l r : Source) (old now : List Task) (to : List (List ℕ)) → now ≡ old ++ (fit_left left_axes right_axes l r (length old)).tasks
    → to ≡ with_sizes r.layout right_axes (paired_sizes l.layout r.layout left_axes right_axes) → fitted (length now) r to ≡ fit_right left_axes right_axes l r (length old)
right-here left_axes right_axes l r old now to e d =
    let here : length now ≡ length old + length (fit_left left_axes right_axes l r (length old)).tasks = ap length e ∙ length-append old (fit_left left_axes right_axes l r (length old)).tasks in
    ap (λ k. fitted k r to) here ∙ ap (fitted (length old + length (fit_left left_axes right_axes l r (length old)).tasks) r) d

left-grown : (left_axes right_axes : List ℕ) (l r : Source) (old now : List Task) (sizes to_left to_right : List (List ℕ)) (first : Source) → AreTargets left_axes right_axes l r sizes to_left to_right
    → IsGrown old (fitted (length old) l to_left) now first → IsGrown old (fit_left left_axes right_axes l r (length old)) now first
left-grown left_axes right_axes l r old now sizes to_left to_right first t g = subst (λ to. IsGrown old (fitted (length old) l to) now first) t.left_is g

pub is-fitted : (left_axes right_axes : List ℕ) (l r : Source) (old mid now : List Task) (sizes to_left to_right : List (List ℕ)) (first second : Source) → AreTargets left_axes right_axes l r sizes to_left to_right
    → IsGrown old (fitted (length old) l to_left) mid first → IsGrown mid (fitted (length mid) r to_right) now second → IsFitted left_axes right_axes l r old now first second
is-fitted left_axes right_axes l r old mid now sizes to_left to_right first second t g h =
    let fit_l = fit_left left_axes right_axes l r (length old) in
    let fit_r = fit_right left_axes right_axes l r (length old) in
    let a = left-grown left_axes right_axes l r old mid sizes to_left to_right first t g in
    let b : IsGrown mid fit_r now second = subst (λ (m : Made). IsGrown mid m now second) (right-here left_axes right_axes l r old mid to_right a.tasks t.right_is) h in
    record {
      tasks = b.tasks ∙ ap (λ ts. ts ++ fit_r.tasks) a.tasks ∙ append_assoc old fit_l.tasks fit_r.tasks;
      first_is = a.source;
      second_is = b.source;
    }

-- ---- the blocks

blocks-here : (left_axes right_axes : List ℕ) (l r : Source) (old now : List Task) (sizes : List (List ℕ)) (first second : Source) → sizes ≡ paired_sizes l.layout r.layout left_axes right_axes → IsFitted left_axes right_axes l r old now first second
    → product_blocks left_axes right_axes (map (λ (ss : List ℕ). length ss) sizes) first second (length now)
    ≡ product_blocks left_axes right_axes (map (λ (ss : List ℕ). length ss) (paired_sizes l.layout r.layout left_axes right_axes)) (fit_left left_axes right_axes l r (length old)).source (fit_right left_axes right_axes l r (length old)).source
    (length old + length ((fit_left left_axes right_axes l r (length old)).tasks ++ (fit_right left_axes right_axes l r (length old)).tasks))
blocks-here left_axes right_axes l r old now sizes first second s f =
    let fit_l = fit_left left_axes right_axes l r (length old) in
    let fit_r = fit_right left_axes right_axes l r (length old) in
    let pairs = map (λ (ss : List ℕ). length ss) (paired_sizes l.layout r.layout left_axes right_axes) in
    let here : length now ≡ length old + length (fit_l.tasks ++ fit_r.tasks) = ap length f.tasks ∙ length-append old (fit_l.tasks ++ fit_r.tasks) in
    ap (λ (ns : List (List ℕ)). product_blocks left_axes right_axes (map (λ (ss : List ℕ). length ss) ns) first second (length now)) s
    ∙ ap (λ (a : Source). product_blocks left_axes right_axes pairs a second (length now)) f.first_is ∙ ap (λ (a : Source). product_blocks left_axes right_axes pairs fit_l.source a (length now)) f.second_is
    ∙ ap (product_blocks left_axes right_axes pairs fit_l.source fit_r.source) here

pub contracted-grown : (left_axes right_axes : List ℕ) (l r : Source) (old now new : List Task) (sizes : List (List ℕ)) (first second s : Source) → sizes ≡ paired_sizes l.layout r.layout left_axes right_axes
    → IsFitted left_axes right_axes l r old now first second → IsGrown now (product_blocks left_axes right_axes (map (λ (ss : List ℕ). length ss) sizes) first second (length now)) new s
    → IsGrown old (contracted_blocks left_axes right_axes l r (length old)) new s
contracted-grown left_axes right_axes l r old now new sizes first second s e f g =
    let fit_l = fit_left left_axes right_axes l r (length old) in
    let fit_r = fit_right left_axes right_axes l r (length old) in
    let pairs = map (λ (ss : List ℕ). length ss) (paired_sizes l.layout r.layout left_axes right_axes) in
    let made = product_blocks left_axes right_axes pairs fit_l.source fit_r.source (length old + length (fit_l.tasks ++ fit_r.tasks)) in
    let h : IsGrown now made new s = subst (λ (m : Made). IsGrown now m new s) (blocks-here left_axes right_axes l r old now sizes first second e f) g in
    record {
      tasks = h.tasks ∙ ap (λ ts. ts ++ made.tasks) f.tasks ∙ append_assoc old (fit_l.tasks ++ fit_r.tasks) made.tasks;
      source = h.source;
    }

-- ---- refusals

pub left-refused : (left_axes right_axes : List ℕ) (l r : Source) (old : List Task) (to : List (List ℕ)) (e : LowerError) → to ≡ with_sizes l.layout left_axes (paired_sizes l.layout r.layout left_axes right_axes)
    → Refuses old (fitted (length old) l to).tasks e → Refuses old (contracted_blocks left_axes right_axes l r (length old)).tasks e
left-refused left_axes right_axes l r old to e d x =
    let fit_l = fit_left left_axes right_axes l r (length old) in
    let fit_r = fit_right left_axes right_axes l r (length old) in
    refuses-more old (fit_l.tasks ++ fit_r.tasks) _ e (refuses-more old fit_l.tasks fit_r.tasks e (subst (λ t. Refuses old (fitted (length old) l t).tasks e) d x))

pub right-refused : (left_axes right_axes : List ℕ) (l r : Source) (old mid : List Task) (sizes to_left to_right : List (List ℕ)) (first : Source) (e : LowerError) → AreTargets left_axes right_axes l r sizes to_left to_right
    → IsGrown old (fitted (length old) l to_left) mid first → Refuses mid (fitted (length mid) r to_right).tasks e → Refuses old (contracted_blocks left_axes right_axes l r (length old)).tasks e
right-refused left_axes right_axes l r old mid sizes to_left to_right first e t g x =
    let fit_l = fit_left left_axes right_axes l r (length old) in
    let fit_r = fit_right left_axes right_axes l r (length old) in
    let a = left-grown left_axes right_axes l r old mid sizes to_left to_right first t g in
    let b : Refuses mid fit_r.tasks e = refuses-same mid _ _ e (ap (λ (m : Made). m.tasks) (right-here left_axes right_axes l r old mid to_right a.tasks t.right_is)) x in
    refuses-more old (fit_l.tasks ++ fit_r.tasks) _ e (refuses-behind old fit_l.tasks fit_r.tasks e (subst (λ ts. Refuses ts fit_r.tasks e) a.tasks b))

pub blocks-refused : (left_axes right_axes : List ℕ) (l r : Source) (old now : List Task) (sizes : List (List ℕ)) (first second : Source) (e : LowerError) → sizes ≡ paired_sizes l.layout r.layout left_axes right_axes
    → IsFitted left_axes right_axes l r old now first second → Refuses now (product_blocks left_axes right_axes (map (λ (ss : List ℕ). length ss) sizes) first second (length now)).tasks e
    → Refuses old (contracted_blocks left_axes right_axes l r (length old)).tasks e
blocks-refused left_axes right_axes l r old now sizes first second e d f x =
    let fit_l = fit_left left_axes right_axes l r (length old) in
    let fit_r = fit_right left_axes right_axes l r (length old) in
    let pairs = map (λ (ss : List ℕ). length ss) (paired_sizes l.layout r.layout left_axes right_axes) in
    let made = product_blocks left_axes right_axes pairs fit_l.source fit_r.source (length old + length (fit_l.tasks ++ fit_r.tasks)) in
    let b : Refuses now made.tasks e = refuses-same now _ _ e (ap (λ (m : Made). m.tasks) (blocks-here left_axes right_axes l r old now sizes first second d f)) x in
    refuses-behind old (fit_l.tasks ++ fit_r.tasks) made.tasks e (subst (λ ts. Refuses ts made.tasks e) f.tasks b)
