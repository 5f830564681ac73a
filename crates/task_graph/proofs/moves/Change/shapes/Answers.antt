use Rattle.std.proofs.Common.{ℕ, List, [], map, ap, ◌∙◌}
use Rattle.std.specs.Prelude.{slice_index_or}
use Rattle.task_graph.specs.Moves.{shapes_now}
use Rattle.task_graph.proofs.Ordered.{shapes-of}
use Rattle.task_graph.proofs.moves.Change.shapes.Goals as goal

pub returns : goal.returns
returns c =
    c.from_vec.ensures
    ∙ c.in_ok-shapes.ensures
    ∙ ap (λ (xs : List (List ℕ)). map (λ p. slice_index_or xs p []) c.as_slice-2.result.now) c.as_slice.ensures
    ∙ ap (map (λ p. slice_index_or c.args.inputs.now p [])) c.as_slice-2.ensures.value
    ∙ shapes-of c.self.inside.keys.items c.self.inside.deps.items c.self.inside.sources.items c.args.inputs.now c.self.invariant
    ∙ ap (λ (ks : List ℕ). shapes_now ks c.args.inputs.now) c.self.view_is
