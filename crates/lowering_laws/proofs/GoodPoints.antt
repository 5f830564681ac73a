-- Elementwise stages and concatenations make tasks in order.
use Rattle.std.proofs.Common.{◌≡◌, ℕ, zero, suc, ◌+◌, ◌-◌, ◌<◌, ◌≤◌, List, [], ◌∷◌, ◌++◌, length, map, drop, ap, sym, subst, ◌∙◌, arith, length-append}
use Rattle.std.specs.List.{AllByRecursion}
use Rattle.std.proofs.lemmas.List.{length-map, length-drop}
use Rattle.small_facts.proofs.Every.{all_join}
use Rattle.nd_shape.specs.Index.{IsIn}
use Rattle.nd_shape.specs.Chunk.{total}
use Rattle.nd_grid.specs.Grid.{under}
use Rattle.nd_grid.proofs.Turning.{position-below}
use Rattle.chunk_layout.specs.Layouts.{counts, lengths}
use Rattle.cluster_msgs.proofs.Dags.{all-weaker}
use Rattle.task_graph.specs.declared.graph.Task.{Task}
use Rattle.lowering_laws.specs.Sources.{key_at, one_each, fitted}
use Rattle.lowering_laws.specs.Stages.{Use, keys_used, deps_of_uses, Arg, Literal, Blocks, Point, Pair, Choice, arg_layout, arg_target, fitted_arg, fitted_args, chunks_under, uses_of, operand_of, nth_arg, point_task, pointwise, point_layout, layout_under}
use Rattle.task_graph.specs.Numberings.{OperandFits}
use Rattle.lowering_laws.proofs.Under.{IsUnder, under-layout, length-layout}
use Rattle.lowering_laws.proofs.Points.{length-point}
use Rattle.lowering_laws.proofs.Pointwise.{HasUse, has-first, has-later}
use Rattle.task_graph.proofs.Keys.{ascending-has}
use Rattle.task_graph.proofs.Rising.{ascending-rises, ascending-all}
use Rattle.lowering_laws.proofs.Good.{IsGood, AreGood, IsBelow, IsMade, IsFit, below-weaker, none-good, good-append, made-after, key-below, made-each, made-fitted}

-- an operand of no more axes than the result, whose keys are there
abbrev pub ArgBelow : ℕ → ℕ → Arg → Type 0
ArgBelow bound axes (Literal v) = Unit {0}
ArgBelow bound axes (Blocks s) = IsBelow bound s × (length s.layout ≤ axes)

-- an operand in the result's layout
abbrev pub ArgReady : ℕ → List (List ℕ) → Arg → Type 0
ArgReady bound layout (Literal v) = Unit {0}
ArgReady bound layout (Blocks s) = IsBelow bound s × ((bs : List ℕ) → IsIn (counts layout) bs → IsIn (counts s.layout) (chunks_under s bs))

arg-weaker : (b c axes : ℕ) (a : Arg) → b ≤ c → ArgBelow b axes a → ArgBelow c axes a
arg-weaker b c axes (Literal v) h a = tt
arg-weaker b c axes (Blocks s) h a = (below-weaker b c s h a.0, a.1)

ready-weaker : (b c : ℕ) (layout : List (List ℕ)) (a : Arg) → b ≤ c → ArgReady b layout a → ArgReady c layout a
ready-weaker b c layout (Literal v) h a = tt
ready-weaker b c layout (Blocks s) h a = (below-weaker b c s h a.0, a.1)

pub record ArgsMade (base : ℕ) (layout : List (List ℕ)) (tasks : List Task) (args : List Arg) : Type 0 where
  pub good : AreGood base tasks
  pub ready : AllByRecursion (ArgReady (base + length tasks) layout) args

one-arg : (layout : List (List ℕ)) (a : Arg) (base : ℕ) → ArgBelow base (length layout) a → ArgsMade base layout (fitted_arg base layout a).tasks (fitted_arg base layout a).args
one-arg layout (Literal v) base h = record { good = none-good base; ready = (tt, tt) }
one-arg layout (Blocks s) base h =
    let ns = lengths s.layout in
    let nl : length (lengths s.layout) ≡ length s.layout = length-map s.layout (λ (sizes : List ℕ). total sizes) in
    let off : length layout - length (lengths s.layout) ≡ length layout - length s.layout = ap (λ k. length layout - k) nl in
    let to = arg_target layout (Blocks s) in
    let same : layout_under (lengths s.layout) (drop (length layout - length (lengths s.layout)) layout) ≡ arg_target layout (Blocks s) = ap (λ k. layout_under (lengths s.layout) (drop k layout)) off in
    let number : length s.layout ≡ length (arg_target layout (Blocks s)) =
    sym (length-layout (lengths s.layout) (drop (length layout - length s.layout) layout) (omega (arith, length-drop (length layout - length s.layout) layout, h.1)) ∙ nl) in
    let f : IsFit base (arg_target layout (Blocks s)) (fitted base s (arg_target layout (Blocks s))) = made-fitted s (arg_target layout (Blocks s)) base number h.0 in
    record {
      good = f.made.good;
      ready = (
        (
          f.made.below,
          (λ bs i.
              let u : IsUnder (lengths s.layout) layout (layout_under (lengths s.layout) (drop (length layout - length (lengths s.layout)) layout)) bs = under-layout (lengths s.layout) layout bs (omega (arith, h.1)) i in
              subst (λ (l : List (List ℕ)). IsIn (counts l) (under (counts l) bs)) (same ∙ sym f.layout_is) u.inside),
        ),
        tt,
      );
    }

both-args : (base : ℕ) (layout : List (List ℕ)) (ts us : List Task) (as' bs : List Arg) → ArgsMade base layout ts as' → ArgsMade (base + length ts) layout us bs → ArgsMade base layout (ts ++ us) (as' ++ bs)
both-args base layout ts us as' bs a b = record {
  good = good-append base ts us a.good b.good;
  ready = all_join (ArgReady (base + length (ts ++ us)) layout) as' bs
      (all-weaker (ArgReady (base + length ts) layout) (ArgReady (base + length (ts ++ us)) layout) as' (λ x r. ready-weaker (base + length ts) (base + length (ts ++ us)) layout x (omega (arith, length-append ts us)) r) a.ready)
      (all-weaker (ArgReady (base + length ts + length us) layout) (ArgReady (base + length (ts ++ us)) layout) bs (λ x r. ready-weaker (base + length ts + length us) (base + length (ts ++ us)) layout x (omega (arith, length-append ts us)) r) b.ready);
}

pub all-args : (layout : List (List ℕ)) (args : List Arg) (base : ℕ) → AllByRecursion (ArgBelow base (length layout)) args → ArgsMade base layout (fitted_args layout args base).tasks (fitted_args layout args base).args
all-args layout [] base h = record { good = none-good base; ready = tt }
all-args layout (a ∷ args) base h =
    let first = fitted_arg base layout a in
    both-args base layout first.tasks (fitted_args layout args (base + length first.tasks)).tasks first.args (fitted_args layout args (base + length first.tasks)).args (one-arg layout a base h.0)
    (all-args layout args (base + length first.tasks) (all-weaker (ArgBelow base (length layout)) (ArgBelow (base + length first.tasks) (length layout)) args (λ x b. arg-weaker base (base + length first.tasks) (length layout) x (omega arith) b) h.1))

-- ---- the tasks

uses-below : (bound : ℕ) (layout : List (List ℕ)) (args : List Arg) (bs : List ℕ) → IsIn (counts layout) bs → AllByRecursion (ArgReady bound layout) args → AllByRecursion (λ k. k < bound) (keys_used (uses_of args bs))
uses-below bound layout [] bs i r = tt
uses-below bound layout (Literal v ∷ args) bs i r = uses-below bound layout args bs i r.1
uses-below bound layout (Blocks s ∷ args) bs i r = (key-below bound s (chunks_under s bs) r.0.0 (r.0.1 bs i), uses-below bound layout args bs i r.1)

has-nth : (args : List Arg) (k : ℕ) (bs : List ℕ) → HasUse (uses_of args bs) bs (nth_arg args k)
has-nth [] k bs = tt
has-nth (a ∷ args) zero bs = has-first a args bs
has-nth (a ∷ args) (suc k) bs = has-later a (nth_arg args k) args bs (has-nth args k bs)

operand-fits : (uses : List Use) (bs : List ℕ) (a : Arg) → HasUse uses bs a → OperandFits (operand_of uses bs a) (length (deps_of_uses uses))
operand-fits uses bs (Literal v) h = tt
operand-fits uses bs (Blocks s) h = position-below (deps_of_uses uses) (key_at s (chunks_under s bs)) (ascending-has (keys_used uses) (key_at s (chunks_under s bs)) h)

point-good : (point : Point) (layout : List (List ℕ)) (args : List Arg) (bound : ℕ) (bs : List ℕ) → IsIn (counts layout) bs → AllByRecursion (ArgReady bound layout) args → IsGood bound (point_task point layout args bs)
point-good (Pair op) layout args bound bs i r = record {
  below = ascending-all (λ k. k < bound) (keys_used (uses_of args bs)) (uses-below bound layout args bs i r);
  rising = ascending-rises (keys_used (uses_of args bs));
  places = (operand-fits (uses_of args bs) bs (nth_arg args 0) (has-nth args 0 bs), operand-fits (uses_of args bs) bs (nth_arg args 1) (has-nth args 1 bs));
}
point-good Choice layout args bound bs i r = record {
  below = ascending-all (λ k. k < bound) (keys_used (uses_of args bs)) (uses-below bound layout args bs i r);
  rising = ascending-rises (keys_used (uses_of args bs));
  places = (operand-fits (uses_of args bs) bs (nth_arg args 0) (has-nth args 0 bs), operand-fits (uses_of args bs) bs (nth_arg args 1) (has-nth args 1 bs), operand-fits (uses_of args bs) bs (nth_arg args 2) (has-nth args 2 bs));
}

pub made-pointwise : (point : Point) (dims : List ℕ) (args : List Arg) (base : ℕ) → AllByRecursion (ArgBelow base (length dims)) args → IsMade base (pointwise point dims args base)
made-pointwise point dims args base h =
    let layout = point_layout dims (map arg_layout args) in
    let fit = fitted_args layout args base in
    let a : ArgsMade base layout (fitted_args layout args base).tasks (fitted_args layout args base).args =
    all-args layout args base (subst (λ n. AllByRecursion (ArgBelow base n) args) (sym (length-point dims (map arg_layout args))) h) in
    made-after base fit.tasks (λ b. one_each b layout (point_task point layout fit.args)) a.good (made-each (base + length fit.tasks) layout (point_task point layout fit.args) (λ bs i. point-good point layout fit.args (base + length fit.tasks) bs i a.ready))
