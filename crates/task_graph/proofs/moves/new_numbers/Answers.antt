use Rattle.std.proofs.Common.{rules, ◌++◌, ◌∷◌, [], ℕ, List, map, take, get_or, sym, ap, ◌∙◌}
use Rattle.std.proofs.lemmas.List.{take_more, map_push}
use Rattle.task_graph.specs.Orders.{position}
use Rattle.task_graph.proofs.moves.new_numbers.Goals as goal

pub loop-key-preserved : goal.loop-key-preserved
loop-key-preserved c =
    c.in_ok-push.ensures.items
    ∙ ap (λ (xs : List ℕ). xs ++ c.number.result ∷ []) c.loop-key.invariant
    ∙ ap (λ (n : ℕ). map (position c.args.numbers.now.order) (take c.loop-key.key-index c.args.keys.now) ++ n ∷ []) c.number.ensures
    ∙ sym (ap (map (position c.args.numbers.now.order)) (take_more c.args.keys.now c.loop-key.key-index 0 (search rules)) ∙ map_push (position c.args.numbers.now.order) (take c.loop-key.key-index c.args.keys.now) (get_or c.args.keys.now c.loop-key.key-index 0))
