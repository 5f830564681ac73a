-- Operands that are brought to the result's layout one after another: what is done, and what is left to do.
use Rattle.std.proofs.Common.{◌≡◌, ℕ, suc, ◌+◌, ◌<◌, List, [], ◌∷◌, ◌++◌, length, map, drop, get_or, ap, sym, subst, ◌∙◌, add-one, drop-cons, append_assoc, length-append, arith}
use Rattle.std.specs.List.{range_with_len}
use Rattle.std.proofs.lemmas.List.FromFn.{map-range_with_len_more}
use Rattle.nd_shape.specs.Shape.{elements}
use Rattle.nd_shape.specs.Index.{index_at}
use Rattle.chunk_layout.specs.Layouts.{counts}
use Rattle.task_graph.specs.declared.graph.Task.{Task}
use Rattle.lowering_laws.specs.Sources.{Source, one_each, fitted}
use Rattle.lowering_laws.specs.Stages.{Arg, Blocks, Point, arg_layout, arg_target, point_layout, fitted_arg, fitted_args, point_task, pointwise}
use Rattle.block_lowering.specs.declared.points.Given.{Given}
use Rattle.block_lowering.specs.declared.points.Given.TheVariants.{Array}
use Rattle.block_lowering.specs.declared.error.LowerError.{LowerError}
use Rattle.block_lowering.specs.Args.{arg_of, args_of}
use Rattle.block_lowering.specs.Growing.{Refuses, IsGrown}
use Rattle.block_lowering.specs.Pointing.{ArgsGrown}
use Rattle.block_lowering.proofs.Refusing.{refuses-more, refuses-behind, refuses-same, refuses-moved}

-- the list from a place on begins with the item there
drop-here : {A : Type 0} (xs : List A) (k : ℕ) (x : A) → k < length xs → x ≡ get_or xs k x → drop k xs ≡ x ∷ drop (k + 1) xs
drop-here xs k x h e = drop-cons xs k x h ∙ ap (λ y. y ∷ drop (suc k) xs) (sym e) ∙ ap (λ j. x ∷ drop j xs) (sym (add-one k))

-- ---- operands

-- an operand wasn't brought to the layout, so that all together aren't
pub refuses-arg : (layout : List (List ℕ)) (args : List Given) (k : ℕ) (x : Given) (now old whole : List Task) (e : LowerError) → k < length args → x ≡ get_or args k x
    → now ++ (fitted_args layout (args_of (drop k args)) (length now)).tasks ≡ old ++ whole → Refuses now (fitted_arg (length now) layout (arg_of x)).tasks e → Refuses old whole e
refuses-arg layout args k x now old whole e h is w r =
    let made = (fitted_arg (length now) layout (arg_of x)).tasks in
    let more = (fitted_args layout (args_of (drop (k + 1) args)) (length now + length made)).tasks in
    refuses-moved now (made ++ more) old whole e (ap (λ (xs : List Given). now ++ (fitted_args layout (args_of xs) (length now)).tasks) (sym (drop-here args k x h is)) ∙ w) (refuses-more now made more e r)

-- an operand that is an array isn't brought to its layout
pub refuses-array : (layout target : List (List ℕ)) (x : Given) (s : Source) (old : List Task) (e : LowerError) → x ≡ Array s → target ≡ arg_target layout (Blocks s)
    → Refuses old (fitted (length old) s target).tasks e → Refuses old (fitted_arg (length old) layout (arg_of x)).tasks e
refuses-array layout target x s old e is t r =
    subst (λ (y : Given). Refuses old (fitted_arg (length old) layout (arg_of y)).tasks e) (sym is) (subst (λ (l : List (List ℕ)). Refuses old (fitted (length old) s l).tasks e) t r)

-- ---- the whole

abbrev tasks_of : Point → List (List ℕ) → List Given → List ℕ → List Task
tasks_of point layout given ns = map (λ c. point_task point layout (args_of given) (index_at ns c)) (range_with_len 0 (elements ns))

pub pointwise-grown : (point : Point) (dims : List ℕ) (args : List Arg) (layout : List (List ℕ)) (given used : List Given) (ns : List ℕ) (old mid new : List Task) (first : ℕ) (s : Source)
    → layout ≡ point_layout dims (map arg_layout args) → ArgsGrown old (fitted_args layout args (length old)) mid (args_of given) → used ≡ given → ns ≡ counts layout
    → new ≡ mid ++ tasks_of point layout used ns → s ≡ record { layout = layout; first = first; stride = 1 } → first ≡ length mid → IsGrown old (pointwise point dims args (length old)) new s
pointwise-grown point dims args layout given used ns old mid new first s is g same counted n e begins =
    let fit = fitted_args layout args (length old) in
    let tasks = λ (as' : List Arg). (one_each 0 layout (point_task point layout as')).tasks in
    let many : first ≡ length old + length fit.tasks = begins ∙ ap length g.tasks ∙ length-append old fit.tasks in
    let grown : IsGrown old (record { tasks = fit.tasks ++ tasks fit.args; source = record { layout = layout; first = length old + length fit.tasks; stride = 1 } }) new s = record {
      tasks = n ∙ ap (λ ms. mid ++ tasks_of point layout used ms) counted ∙ ap (λ gs. mid ++ tasks (args_of gs)) same ∙ ap (λ as'. mid ++ tasks as') (sym g.args_are) ∙ ap (λ ts. ts ++ tasks fit.args) g.tasks ∙ append_assoc old fit.tasks (tasks fit.args);
      source = e ∙ ap (λ b. at b) many;
    } in
    subst (λ (l : List (List ℕ)). let f = fitted_args l args (length old) in
    IsGrown old (record { tasks = f.tasks ++ (one_each (length old + length f.tasks) l (point_task point l f.args)).tasks; source = record { layout = l; first = length old + length f.tasks; stride = 1 } }) new s) is grown
  where
    at : ℕ → Source
    at b = record { layout = layout; first = b; stride = 1 }

-- the operands aren't brought to the layout
pub refuses-fit : (point : Point) (dims : List ℕ) (args : List Arg) (layout : List (List ℕ)) (old : List Task) (e : LowerError) → layout ≡ point_layout dims (map arg_layout args)
    → Refuses old (fitted_args layout args (length old)).tasks e → Refuses old (pointwise point dims args (length old)).tasks e
refuses-fit point dims args layout old e is r =
    let real = point_layout dims (map arg_layout args) in
    let fit = fitted_args real args (length old) in
    refuses-more old fit.tasks (one_each (length old + length fit.tasks) real (point_task point real fit.args)).tasks e (subst (λ (l : List (List ℕ)). Refuses old (fitted_args l args (length old)).tasks e) is r)

-- or the blocks aren't taken behind them
pub refuses-blocks : (point : Point) (dims : List ℕ) (args : List Arg) (layout : List (List ℕ)) (given used : List Given) (ns : List ℕ) (old mid : List Task) (e : LowerError)
    → layout ≡ point_layout dims (map arg_layout args) → ArgsGrown old (fitted_args layout args (length old)) mid (args_of given) → used ≡ given → ns ≡ counts layout
    → Refuses mid (tasks_of point layout used ns) e → Refuses old (pointwise point dims args (length old)).tasks e
refuses-blocks point dims args layout given used ns old mid e is g same counted r =
    let fit = fitted_args layout args (length old) in
    let tasks = λ (as' : List Arg). (one_each 0 layout (point_task point layout as')).tasks in
    let here : tasks_of point layout used ns ≡ tasks fit.args = ap (tasks_of point layout used) counted ∙ ap (λ gs. tasks (args_of gs)) same ∙ ap tasks (sym g.args_are) in
    let some : Refuses (old ++ fit.tasks) (tasks fit.args) e = subst (λ ts. Refuses ts (tasks fit.args) e) g.tasks (refuses-same mid (tasks_of point layout used ns) (tasks fit.args) e here r) in
    subst (λ (l : List (List ℕ)). let f = fitted_args l args (length old) in Refuses old (f.tasks ++ (one_each (length old + length f.tasks) l (point_task point l f.args)).tasks) e) is
    (refuses-behind old fit.tasks (tasks fit.args) e some)

-- one more axis
pub row-more : {A : Type 0} (f : ℕ → A) (xs new : List A) (n : ℕ) (x : A) → xs ≡ map f (range_with_len 0 n) → new ≡ xs ++ x ∷ [] → x ≡ f n → new ≡ map f (range_with_len 0 (n + 1))
row-more f xs new n x e p is = p ∙ ap (λ ys. ys ++ x ∷ []) e ∙ ap (λ y. map f (range_with_len 0 n) ++ y ∷ []) is ∙ sym (map-range_with_len_more f 0 n n (omega arith))
