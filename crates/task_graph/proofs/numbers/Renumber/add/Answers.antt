use Rattle.std.proofs.Common.{◌≡◌, ◌<◌, ◌++◌, ◌∷◌, [], ℕ, List, false, length, set, Some, sym, ap, subst, ◌∙◌}
use Rattle.task_graph.specs.Numbers.{Numbers, AreNumbered}
use Rattle.task_graph.specs.Orders.{is_in}
use Rattle.task_graph.proofs.Numbered.{more-numbered}
use Rattle.task_graph.proofs.numbers.Renumber.add.Goals as goal

pub invariant_of-self-2 : goal.invariant_of-self-2
invariant_of-self-2 c =
    let n : c.count-number.result ≡ length c.self.inside.order.items = c.count-number.ensures ∙ ap (λ (v : Numbers). length v.order) (sym c.self.view_is) in
    let lt : c.args.old < length c.self.inside.places.items = subst (λ (v : Numbers). c.args.old < v.keys) (sym c.self.view_is) c.requires.there in
    let fresh : is_in c.self.inside.order.items c.args.old ≡ false = subst (λ (v : Numbers). is_in v.order c.args.old ≡ false) (sym c.self.view_is) c.requires.fresh in
    subst (λ (o : List ℕ). AreNumbered o (set c.self.inside.places.items c.args.old (Some c.count-number.result))) (sym c.in_ok-push.ensures.items)
    (subst (λ (m : ℕ). AreNumbered (c.self.inside.order.items ++ c.args.old ∷ []) (set c.self.inside.places.items c.args.old (Some m))) (sym n)
    (more-numbered c.self.inside.order.items c.self.inside.places.items c.args.old c.self.invariant lt fresh))
