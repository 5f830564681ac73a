use Rattle.std.proofs.Common.{◌≡◌, ◌<◌, ◌≤◌, length, ap, sym, ◌∙◌, arith, refl, Some}
use Rattle.std.specs.Prelude.{slice_get}
use Rattle.std.proofs.lemmas.Result.{err_from_is_err_and}
use Rattle.std.proofs.lemmas.Option.{slice_get_read}
use Rattle.lowering_laws.specs.Lowered.{Lowering, lowering, limit_from}
use Rattle.block_lowering.proofs.Within.{within}
use Rattle.block_lowering.proofs.Ready.{sources-count, ready, inputs-are, named, node-lowered, node-cause, all-lowered}
use Rattle.block_lowering.proofs.expression.lower_nodes.Goals as goal

pub add-requires-clause-ready : goal.add-requires-clause-ready
add-requires-clause-ready c =
    let lt : c.loop-node.node-index < length c.args.nodes.now = omega arith in
    ready c.args.nodes.now c.loop-node.node-index c.loop-node.made c.loop-node.inputs c.requires lt c.loop-node.invariant

pub add-requires-clause-inputs : goal.add-requires-clause-inputs
add-requires-clause-inputs c =
    let le : c.loop-node.node-index ≤ length c.args.nodes.now = omega arith in
    inputs-are c.args.nodes.now c.loop-node.node-index c.loop-node.made c.loop-node.inputs c.requires le c.loop-node.invariant

pub add-requires-clause-names : goal.add-requires-clause-names
add-requires-clause-names c = named c.args.nodes.now c.loop-node.node-index c.loop-node.made c.loop-node.inputs c.loop-node.invariant

pub returns-in_err-add-clause-err : goal.returns-in_err-add-clause-err
returns-in_err-add-clause-err c =
    let nodes = c.args.nodes.now in
    let n = c.loop-node.node-index in
    let lt : n < length nodes = omega arith in
    let is : slice_get nodes n ≡ Some c.node-item.result = slice_get_read nodes (length nodes) n c.node-item.result refl lt c.node-item.is in
    let count : length c.loop-node.made.sources ≡ n = sources-count nodes n c.loop-node.made c.loop-node.inputs c.requires (omega arith) c.loop-node.invariant in
    let at : slice_get nodes (length c.loop-node.made.sources) ≡ Some c.node-item.result = ap (slice_get nodes) count ∙ is in
    let p = err_from_is_err_and c.from_residual.result c.from_residual.ensures.1 in
    rw (p.1, p.2) (node-cause nodes n c.loop-node.made c.loop-node.inputs c.node-item.result c.in_err-add.field-0.0 c.requires is c.loop-node.invariant (c.in_err-add.ensures.err c.node-item.result at))

pub loop-node-preserved : goal.loop-node-preserved
loop-node-preserved c =
    let nodes = c.args.nodes.now in
    let n = c.loop-node.node-index in
    let lt : n < length nodes = omega arith in
    let is : slice_get nodes n ≡ Some c.node-item.result = slice_get_read nodes (length nodes) n c.node-item.result refl lt c.node-item.is in
    let count : length c.loop-node.made.sources ≡ n = sources-count nodes n c.loop-node.made c.loop-node.inputs c.requires (omega arith) c.loop-node.invariant in
    let at : slice_get nodes (length c.loop-node.made.sources) ≡ Some c.node-item.result = ap (slice_get nodes) count ∙ is in
    node-lowered nodes n c.loop-node.made c.add.new.self c.loop-node.inputs c.next_input-inputs.result c.node-item.result c.requires is c.loop-node.invariant
    (c.in_ok-add.ensures.ok c.node-item.result at) c.next_input-inputs.ensures

pub returns-clause-limits : goal.returns-clause-limits
returns-clause-limits c =
    let all : c.loop-node.made ≡ lowering c.args.nodes.now = all-lowered c.args.nodes.now c.loop-node.node-index c.loop-node.made c.loop-node.inputs (omega arith) (omega arith) c.loop-node.invariant in
    ap (λ (l : Lowering). limit_from 0 0 l.tasks) (sym all) ∙ within c.loop-node.made.tasks c.sound.ensures
