use Rattle.std.proofs.Common.{◌≡◌, ℕ, List, ap, ◌∙◌, get_or}
use Rattle.task_graph.specs.Orders.{ascending, position}
use Rattle.task_graph.specs.Moves.{place_now}
use Rattle.task_graph.proofs.moves.Change.place.Goals as goal

pub returns : goal.returns
returns c =
    let k : c.key_at-key.result ≡ get_or c.self.inside.keys.items c.args.place 0 = c.key_at-key.ensures ∙ ap (λ (ks : List ℕ). get_or ks c.args.place 0) c.as_slice.ensures.value in
    c.place_among.ensures
    ∙ ap (λ (ds : List ℕ). position ds c.key_at-key.result) (c.as_slice-2.ensures.value ∙ c.self.invariant.deps_are)
    ∙ ap (position (ascending c.self.inside.keys.items)) k
    ∙ ap (λ (ks : List ℕ). place_now ks c.args.place) c.self.view_is
