use Rattle.std.proofs.Common.{◌<◌, List, length, sym, subst, IfOk, IfErr, to_z, of_z, w64, rules}
use Rattle.std.proofs.lemmas.Int.{to_z-of_z}
use Rattle.nd_shape.specs.declared.slice.Steps.{Steps}
use Rattle.lowering_laws.specs.Sources.{Source, Made}
use Rattle.lowering_laws.specs.Lowered.{source_at}
use Rattle.block_lowering.specs.Growing.{Refuses, IsGrown}
use Rattle.chunk_layout.specs.Slicing.{TakesAll}
use Rattle.block_lowering.proofs.Operands.{takes-all, full-made, ramp-made, product-made}
use Rattle.block_lowering.proofs.nodes.lower_other.Goals as goal

pub push_sliced-requires : goal.push_sliced-requires
push_sliced-requires c =
    let x = c.args.node.now in
    let sources = c.args.sources.now in
    subst (λ (s : Source). TakesAll s.layout c.as_slice-in-Slice-2.result.now) (sym c.source_of.ensures)
    (subst (λ (ss : List Steps). TakesAll (source_at sources c.in-Slice.of).layout ss) (sym c.as_slice-in-Slice-2.ensures)
    (takes-all c.args.nodes.now (length sources) sources x.op c.in-Slice.of c.in-Slice.parts x.taken x.shape c.in-Slice.is c.requires.node.names c.requires.node.makes c.requires.ready))

pub push_joined-requires-clause-few : goal.push_joined-requires-clause-few
push_joined-requires-clause-few c = subst (λ (ss : List Source). length ss < 4294967296) (sym c.as_slice-in-Concatenate-2.ensures.value) c.in_ok-operands-in-Concatenate.ensures.few

pub returns-in-Full-clause-ok : goal.returns-in-Full-clause-ok
returns-in-Full-clause-ok c =
    let x = c.args.node.now in
    let sources = c.args.sources.now in
    let base = length c.args.graph.now in
    let made = full-made c.args.nodes.now sources (length sources) x.taken x.shape x.op base c.in-Full.dims c.in-Full.value (to_z w64 (of_z w64 c.in-Full.value)) c.in-Full.chunks c.as_slice-in-Full.result.now
    c.in-Full.is c.requires.node.makes c.as_slice-in-Full.ensures (to_z-of_z w64 c.in-Full.value (search rules)) in
    subst (λ (m : Made). IfOk c.push_filled.result (IsGrown c.args.graph.now m c.push_filled.new.graph)) made c.push_filled.ensures.ok

pub returns-in-Full-clause-err : goal.returns-in-Full-clause-err
returns-in-Full-clause-err c =
    let x = c.args.node.now in
    let sources = c.args.sources.now in
    let base = length c.args.graph.now in
    let made = full-made c.args.nodes.now sources (length sources) x.taken x.shape x.op base c.in-Full.dims c.in-Full.value (to_z w64 (of_z w64 c.in-Full.value)) c.in-Full.chunks c.as_slice-in-Full.result.now
    c.in-Full.is c.requires.node.makes c.as_slice-in-Full.ensures (to_z-of_z w64 c.in-Full.value (search rules)) in
    subst (λ (m : Made). IfErr c.push_filled.result (Refuses c.args.graph.now m.tasks)) made c.push_filled.ensures.err

pub returns-in-Ramp-clause-ok : goal.returns-in-Ramp-clause-ok
returns-in-Ramp-clause-ok c =
    let x = c.args.node.now in
    let sources = c.args.sources.now in
    let base = length c.args.graph.now in
    let made = ramp-made c.args.nodes.now sources (length sources) x.taken x.shape x.op base c.in-Ramp.dims c.in-Ramp.start (to_z w64 (of_z w64 c.in-Ramp.start)) c.in-Ramp.step (to_z w64 (of_z w64 c.in-Ramp.step)) c.in-Ramp.chunks c.as_slice-in-Ramp.result.now
    c.in-Ramp.is c.requires.node.makes c.as_slice-in-Ramp.ensures (to_z-of_z w64 c.in-Ramp.start (search rules)) (to_z-of_z w64 c.in-Ramp.step (search rules)) in
    subst (λ (m : Made). IfOk c.push_filled-in-Ramp.result (IsGrown c.args.graph.now m c.push_filled-in-Ramp.new.graph)) made c.push_filled-in-Ramp.ensures.ok

pub returns-in-Ramp-clause-err : goal.returns-in-Ramp-clause-err
returns-in-Ramp-clause-err c =
    let x = c.args.node.now in
    let sources = c.args.sources.now in
    let base = length c.args.graph.now in
    let made = ramp-made c.args.nodes.now sources (length sources) x.taken x.shape x.op base c.in-Ramp.dims c.in-Ramp.start (to_z w64 (of_z w64 c.in-Ramp.start)) c.in-Ramp.step (to_z w64 (of_z w64 c.in-Ramp.step)) c.in-Ramp.chunks c.as_slice-in-Ramp.result.now
    c.in-Ramp.is c.requires.node.makes c.as_slice-in-Ramp.ensures (to_z-of_z w64 c.in-Ramp.start (search rules)) (to_z-of_z w64 c.in-Ramp.step (search rules)) in
    subst (λ (m : Made). IfErr c.push_filled-in-Ramp.result (Refuses c.args.graph.now m.tasks)) made c.push_filled-in-Ramp.ensures.err

pub returns-in-Tensordot-clause-ok : goal.returns-in-Tensordot-clause-ok
returns-in-Tensordot-clause-ok c =
    let x = c.args.node.now in
    let sources = c.args.sources.now in
    let base = length c.args.graph.now in
    let made = product-made c.args.nodes.now sources (length sources) x.taken x.shape x.op base c.in-Tensordot.left c.in-Tensordot.right c.in-Tensordot.left_axes c.in-Tensordot.right_axes
    c.source_of-first.result.now c.source_of-second.result.now c.in-Tensordot.is c.source_of-first.ensures c.source_of-second.ensures in
    subst (λ (m : Made). IfOk c.push_contracted.result (IsGrown c.args.graph.now m c.push_contracted.new.graph)) made c.push_contracted.ensures.ok

pub returns-in-Tensordot-clause-err : goal.returns-in-Tensordot-clause-err
returns-in-Tensordot-clause-err c =
    let x = c.args.node.now in
    let sources = c.args.sources.now in
    let base = length c.args.graph.now in
    let made = product-made c.args.nodes.now sources (length sources) x.taken x.shape x.op base c.in-Tensordot.left c.in-Tensordot.right c.in-Tensordot.left_axes c.in-Tensordot.right_axes
    c.source_of-first.result.now c.source_of-second.result.now c.in-Tensordot.is c.source_of-first.ensures c.source_of-second.ensures in
    subst (λ (m : Made). IfErr c.push_contracted.result (Refuses c.args.graph.now m.tasks)) made c.push_contracted.ensures.err
