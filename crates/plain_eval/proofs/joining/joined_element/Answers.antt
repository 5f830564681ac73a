use Rattle.std.proofs.Common.{◌<◌, ◌≤◌, ℕ, List, [], ◌∷◌, length, get_or, ap, sym, subst, arith}
use Rattle.std.proofs.lemmas.List.{length-take-le}
use Rattle.plain_eval.proofs.Concatenated.{operand-axes, index-axes, operand-in}
use Rattle.plain_eval.proofs.joining.joined_element.Goals as goal

pub slice_bounds-room-end : goal.slice_bounds-room-end
slice_bounds-room-end c = omega (arith, index-axes c.args.known.now c.args.of.now c.args.axis c.args.index.now c.requires.inside, c.requires.valid.few)

pub slice_bounds-own-end : goal.slice_bounds-own-end
slice_bounds-own-end c =
    let few : length c.args.index.now ≤ 8 = omega (arith, index-axes c.args.known.now c.args.of.now c.args.axis c.args.index.now c.requires.inside, c.requires.valid.few) in
    let room : List ℕ = 0 ∷ 0 ∷ 0 ∷ 0 ∷ 0 ∷ 0 ∷ 0 ∷ 0 ∷ [] in
    sym (length-take-le (length c.args.index.now) room few)

pub copy_from_slice-requires : goal.copy_from_slice-requires
copy_from_slice-requires c =
    let few : length c.args.index.now ≤ 8 = omega (arith, index-axes c.args.known.now c.args.of.now c.args.axis c.args.index.now c.requires.inside, c.requires.valid.few) in
    let room : List ℕ = 0 ∷ 0 ∷ 0 ∷ 0 ∷ 0 ∷ 0 ∷ 0 ∷ 0 ∷ [] in
    length-take-le (length c.args.index.now) room few

pub bounds-dims_of-axis : goal.bounds-dims_of-axis
bounds-dims_of-axis c =
    omega (arith, ap length c.dims_of.ensures.value, operand-axes c.args.known.now c.args.of.now c.args.axis c.loop-node.node-index c.node-item.result c.loop-node-test.true c.node-item.is c.requires.valid, c.requires.valid.joinable.there)

pub bounds-own-axis : goal.bounds-own-axis
bounds-own-axis c = omega (arith, c.loop-node.invariant.room, index-axes c.args.known.now c.args.of.now c.args.axis c.args.index.now c.requires.inside, c.requires.valid.joinable.there)

pub element_of-requires-clause-inside : goal.element_of-requires-clause-inside
element_of-requires-clause-inside c =
    operand-in c.args.known.now c.args.of.now c.args.axis c.args.index.now c.loop-node.own c.loop-node.node-index c.node-item.result c.loop-node-test.true c.node-item.is c.requires.valid c.requires.inside c.loop-node.invariant
    (subst (λ ns. get_or c.loop-node.own c.args.axis 0 < get_or ns c.args.axis 0) c.dims_of.ensures.value c.if-own-axis.true)

pub bounds-own-axis-in-loop-node : goal.bounds-own-axis-in-loop-node
bounds-own-axis-in-loop-node c = omega (arith, c.loop-node.invariant.room, index-axes c.args.known.now c.args.of.now c.args.axis c.args.index.now c.requires.inside, c.requires.valid.joinable.there)

pub bounds-own-axis-in-loop-node-2 : goal.bounds-own-axis-in-loop-node-2
bounds-own-axis-in-loop-node-2 c = omega (arith, c.loop-node.invariant.room, index-axes c.args.known.now c.args.of.now c.args.axis c.args.index.now c.requires.inside, c.requires.valid.joinable.there)
