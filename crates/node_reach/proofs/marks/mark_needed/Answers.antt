use Rattle.std.proofs.Common.{◌≡◌, ℕ, ◌+◌, ◌-◌, ◌<◌, length, take, get_or, subst, arith, Some}
use Rattle.std.specs.Prelude.{slice_get}
use Rattle.std.proofs.lemmas.List.{length-take}
use Rattle.std.proofs.lemmas.Option.{slice_get-get_or}
use Rattle.node_reach.specs.Marks.{HasOperands, marked}
use Rattle.node_reach.proofs.Marking.{grows-step, operands-step, names-more}
use Rattle.node_reach.proofs.marks.mark_needed.Goals as goal

pub mark_if-requires : goal.mark_if-requires
mark_if-requires c =
    let nodes = c.args.nodes.now in
    let j : ℕ = length nodes - 1 - c.loop-done.done in
    let h : j < length nodes = omega (arith, c.loop-done-test.true) in
    let node = get_or nodes j c.index-nodes-node.result in
    names-more node.op (length (take j nodes)) (length c.loop-done.marks) (omega (arith, h, length-take j nodes, c.loop-done.invariant.grows.count, c.requires.count))
    (c.requires.sound.each j node (slice_get-get_or nodes j c.index-nodes-node.result h)).names.there

pub loop-done-preserved : goal.loop-done-preserved
loop-done-preserved c =
    let nodes = c.args.nodes.now in
    let j : ℕ = length nodes - 1 - c.loop-done.done in
    let h : j < length nodes = omega (arith, c.loop-done-test.true) in
    let node = get_or nodes j c.index-nodes-node.result in
    let at : slice_get nodes j ≡ Some node = slice_get-get_or nodes j c.index-nodes-node.result h in
    let a : length nodes - c.loop-done.done ≡ j + 1 = omega (arith, c.loop-done-test.true) in
    let b : j ≡ length nodes - (c.loop-done.done + 1) = omega (arith, c.loop-done-test.true) in
    let l : length (take j nodes) ≡ j = omega (arith, h, length-take j nodes) in
    let P = λ (m : ℕ). HasOperands nodes m (marked c.loop-done.marks) in
    let Q = λ (m : ℕ). HasOperands nodes m (marked c.mark_if.new.marks) in
    let names = names-more node.op (length (take j nodes)) j (omega (arith, l)) (c.requires.sound.each j node at).names.there in
    record {
      grows = grows-step nodes j node c.args.marks.now c.loop-done.marks c.mark_if.new.marks at c.mark_if.ensures c.loop-done.invariant.grows;
      operands = subst Q b (operands-step nodes j node c.loop-done.marks c.mark_if.new.marks at names c.mark_if.ensures (subst P a c.loop-done.invariant.operands));
    }

pub returns-clause-operands : goal.returns-clause-operands
returns-clause-operands c =
    let e : length c.args.nodes.now - c.loop-done.done ≡ 0 = omega (arith, c.loop-done-test.false) in
    let P = λ (m : ℕ). HasOperands c.args.nodes.now m (marked c.loop-done.marks) in
    subst P e c.loop-done.invariant.operands
