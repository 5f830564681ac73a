use Rattle.std.proofs.Common.{ℕ, List, [], sym, subst}
use Rattle.std.specs.Prelude.{Option}
use Rattle.task_graph.specs.Numbers.{AreNumbered}
use Rattle.task_graph.proofs.Numbered.{empty-numbered}
use Rattle.task_graph.proofs.numbers.Renumber.none.Goals as goal

pub invariant_of-result : goal.invariant_of-result
invariant_of-result c =
    subst (λ (o : List ℕ). AreNumbered o c.in_ok-places.places.items) (sym c.new.ensures.items)
    (subst (λ (ps : List (Option ℕ)). AreNumbered [] ps) (sym c.in_ok-places.ensures) (empty-numbered c.args.keys c.requires))
