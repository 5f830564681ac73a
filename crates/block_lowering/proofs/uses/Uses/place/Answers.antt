use Rattle.std.proofs.Common.{ℕ, List, ap, ◌∙◌}
use Rattle.task_graph.specs.Orders.{position}
use Rattle.block_lowering.proofs.UsesZipped.{deps-of}
use Rattle.block_lowering.proofs.uses.Uses.place.Goals as goal

pub returns : goal.returns
returns c =
    let s = c.self.inside in
    c.place_of_key.ensures ∙ ap (λ (ks : List ℕ). position ks c.args.key) (c.as_slice.ensures.value ∙ deps-of s.keys.items s.shapes.items s.deps.items c.args.self.now c.self.invariant c.self.view_is)
