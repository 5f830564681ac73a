use Rattle.std.proofs.Common.{◌∙◌, Bool, ap, cond, Some, None}
use Rattle.task_graph.specs.Orders.{position}
use Rattle.task_graph.proofs.numbers.Renumber.number.Goals as goal

pub unreachable-requires : goal.unreachable-requires
unreachable-requires c =
    let e = c.in-None.ensures ∙ ap (λ (b : Bool). cond b (Some (position c.args.self.now.order c.args.old)) None) c.requires.kept in cc
