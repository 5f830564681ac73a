use Rattle.std.proofs.Common.{rules, ◌+◌, ℕ, List, sym, subst}
use Rattle.task_graph.proofs.Edges.{AreFront, front-more}
use Rattle.task_graph.proofs.moves.with_places.Goals as goal

pub loop-place-preserved : goal.loop-place-preserved
loop-place-preserved c =
    subst (λ (ps : List (ℕ × ℕ)). AreFront c.args.keys.now (c.loop-place.place + 1) ps) (sym c.in_ok-push.ensures.items) (front-more c.args.keys.now c.loop-place.place c.loop-place.pairs.items _ (search rules) (search rules) c.loop-place.invariant)
