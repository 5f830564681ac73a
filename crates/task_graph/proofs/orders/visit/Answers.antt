use Rattle.std.proofs.Common.{◌≡◌, ◌∷◌, List, length, false, sym, ap, subst, ◌∙◌}
use Rattle.cluster_msgs.specs.Shape.{deps_of}
use Rattle.task_graph.specs.declared.orders.Frame.{Frame}
use Rattle.task_graph.specs.Graphs.{shape_of}
use Rattle.task_graph.specs.Orders.{is_in}
use Rattle.task_graph.proofs.Walked.{first_frame, visit-begins, IsVisiting}
use Rattle.task_graph.proofs.orders.visit.Goals as goal

pub loop-frame-init : goal.loop-frame-init
loop-frame-init c =
    let h : is_in c.args.numbers.now.order c.args.key ≡ false = sym c.if-has.ensures in
    subst (λ (fs : List Frame). IsVisiting (deps_of (shape_of c.args.tasks.now)) (length c.args.tasks.now) c.args.key c.args.numbers.now.order fs c.args.numbers.now)
    (sym (c.in_ok-push.ensures ∙ ap (λ (fs : List Frame). first_frame c.args.key ∷ fs) c.new-begun.ensures))
    (visit-begins (deps_of (shape_of c.args.tasks.now)) c.requires.earlier (length c.args.tasks.now) c.args.key c.args.numbers.now c.requires.whole c.requires.there h)
