use Rattle.std.proofs.Common.{arith, ℕ, List, [], get_or, map, ap, ◌∙◌}
use Rattle.std.proofs.lemmas.List.{take_all}
use Rattle.task_graph.specs.Orders.{position}
use Rattle.lowering_laws.specs.Stages.{keys_used, shapes_used}
use Rattle.block_lowering.proofs.UsesZipped.{deps-of, shapes-more}
use Rattle.block_lowering.proofs.uses.Uses.inputs.Goals as goal

pub loop-key-preserved : goal.loop-key-preserved
loop-key-preserved c =
    shapes-more (λ k. get_or (shapes_used c.args.self.now) (position (keys_used c.args.self.now) k) []) c.as_slice-key-items.result.now c.loop-key.shapes.items c.push.new.self.items c.loop-key.key-index c.in_ok-shape_of_key.field-0
    c.loop-key-test.true c.in_ok-push.ensures.items c.loop-key.invariant c.in_ok-shape_of_key.ensures

pub returns : goal.returns
returns c =
    let f = λ (k : ℕ). get_or (shapes_used c.args.self.now) (position (keys_used c.args.self.now) k) [] in
    let keys = c.as_slice-key-items.result.now in
    let s = c.self.inside in
    c.from_vec.ensures ∙ c.loop-key.invariant ∙ ap (λ (ks : List ℕ). map f ks) (take_all c.loop-key.key-index keys (omega arith))
    ∙ ap (λ (ks : List ℕ). map f ks) (c.as_slice-key-items.ensures.value ∙ deps-of s.keys.items s.shapes.items s.deps.items c.args.self.now c.self.invariant c.self.view_is)
