use Rattle.std.proofs.Common.{◌≡◌, ◌≢◌, ◌<◌, ◌≤◌, ◌∷◌, ℕ, List, length, get_or, sym, ap, subst, ◌∙◌, arith}
use Rattle.cluster_msgs.specs.Shape.{deps_of}
use Rattle.task_graph.specs.declared.orders.Frame.{Frame}
use Rattle.task_graph.specs.Graphs.{shape_of}
use Rattle.task_graph.specs.Numbers.{Numbers}
use Rattle.task_graph.specs.Orders.{is_in}
use Rattle.task_graph.specs.Walks.{with_visit, AreUnderWay, IsStep}
use Rattle.task_graph.proofs.Walked.{step-numbers, step-goes-on}
use Rattle.task_graph.proofs.orders.step.Goals as goal

pub returns-then-frame-deps : goal.returns-then-frame-deps
returns-then-frame-deps c =
    let under : AreUnderWay (deps_of (shape_of c.args.tasks.now)) c.args.numbers.now.keys c.args.numbers.now.order (c.args.frame ∷ c.args.begun.now) =
    subst (λ (n : ℕ). AreUnderWay (deps_of (shape_of c.args.tasks.now)) n c.args.numbers.now.order (c.args.frame ∷ c.args.begun.now)) (sym c.requires.whole) c.requires.begun in
    let at : c.args.frame.next ≡ length (deps_of (shape_of c.args.tasks.now) c.args.frame.key) = c.if-frame-deps.true ∙ ap (λ (ds : List ℕ). length ds) c.deps_at-deps.ensures in
    subst (λ (n : Numbers). IsStep (deps_of (shape_of c.args.tasks.now)) (c.args.frame ∷ c.args.begun.now) c.args.numbers.now c.args.begun.now n) (sym c.in_ok-add.ensures.ok)
    (step-numbers (deps_of (shape_of c.args.tasks.now)) c.args.frame c.args.begun.now c.args.numbers.now under at)

pub returns : goal.returns
returns c =
    let under : AreUnderWay (deps_of (shape_of c.args.tasks.now)) c.args.numbers.now.keys c.args.numbers.now.order (c.args.frame ∷ c.args.begun.now) =
    subst (λ (n : ℕ). AreUnderWay (deps_of (shape_of c.args.tasks.now)) n c.args.numbers.now.order (c.args.frame ∷ c.args.begun.now)) (sym c.requires.whole) c.requires.begun in
    let le : c.args.frame.next ≤ length (deps_of (shape_of c.args.tasks.now) c.args.frame.key) = c.requires.begun.0.next in
    let e : length c.deps_at-deps.result.now ≡ length (deps_of (shape_of c.args.tasks.now) c.args.frame.key) = ap (λ (ds : List ℕ). length ds) c.deps_at-deps.ensures in
    let ne : c.args.frame.next ≢ length c.deps_at-deps.result.now = c.if-frame-deps.false in
    let lt : c.args.frame.next < length (deps_of (shape_of c.args.tasks.now) c.args.frame.key) = omega arith in
    let dep : get_or c.deps_at-deps.result.now c.args.frame.next 0 ≡ get_or (deps_of (shape_of c.args.tasks.now) c.args.frame.key) c.args.frame.next 0 = ap (λ (ds : List ℕ). get_or ds c.args.frame.next 0) c.deps_at-deps.ensures in
    let s = step-goes-on (deps_of (shape_of c.args.tasks.now)) c.requires.earlier c.args.frame c.args.begun.now c.args.numbers.now under lt (get_or c.deps_at-deps.result.now c.args.frame.next 0) dep in
    subst (λ (fs : List Frame). IsStep (deps_of (shape_of c.args.tasks.now)) (c.args.frame ∷ c.args.begun.now) c.args.numbers.now fs c.args.numbers.now)
    (sym (c.in_ok-begin.ensures ∙ ap (with_visit (get_or c.deps_at-deps.result.now c.args.frame.next 0) (is_in c.args.numbers.now.order (get_or c.deps_at-deps.result.now c.args.frame.next 0))) c.in_ok-push.ensures)) s
