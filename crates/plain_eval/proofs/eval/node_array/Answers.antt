use Rattle.std.proofs.Common.{◌++◌, ℕ, List, length, map, take, get_or, ap, sym, subst, refl, ◌∙◌, rules, w64, SFits}
use Rattle.std.proofs.lemmas.Int.{to_z-of_z}
use Rattle.nd_grid.specs.Grid.{grid_of, filled, ramp, negated, elementwise, chosen, sliced, sliced_shape, transposed, reduced, kept_shape, concatenated, contracted}
use Rattle.array_expr.specs.Node.{dropped, folded_axes}
use Rattle.array_expr.specs.Elem.{array_at, formula}
use Rattle.plain_eval.specs.Fits.{CanTake, CanTurn, CanJoin, CanContractKnown}
use Rattle.plain_eval.specs.Held.{held_in}
use Rattle.plain_eval.proofs.Nodes.{node-fits, made-by, input-grid, full-fits, ramp-fits, negate-fits, pair-fits, choice-fits, slice-fits, turn-fits, rechunk-fits, join-fits, fold-fits, dot-fits}
use Rattle.plain_eval.proofs.eval.node_array.Goals as goal

pub returns-in-Input : goal.returns-in-Input
returns-in-Input c =
    made-by c.args.nodes.now c.args.k c.args.known.now (held_in c.args.inputs.now c.args.input) c.index-nodes-k.result (grid_of c.index-inputs-input.result) c.tabulate.result c.requires.inside c.index-nodes-k.is
    ((input-grid c.args.nodes.now c.args.k c.args.inputs.now c.args.input c.index-inputs-input.result c.index-nodes-k.result c.in-Input.dims c.in-Input.chunks c.args.known.now (node-fits c.args.nodes.now c.args.k c.index-nodes-k.result c.requires.sound c.requires.inside c.index-nodes-k.is) c.requires.blocks c.requires.inside c.index-nodes-k.is c.requires.input c.index-inputs-input.is c.in-Input.is).0) ((input-grid c.args.nodes.now c.args.k c.args.inputs.now c.args.input c.index-inputs-input.result c.index-nodes-k.result c.in-Input.dims c.in-Input.chunks c.args.known.now (node-fits c.args.nodes.now c.args.k c.index-nodes-k.result c.requires.sound c.requires.inside c.index-nodes-k.is) c.requires.blocks c.requires.inside c.index-nodes-k.is c.requires.input c.index-inputs-input.is c.in-Input.is).1) c.tabulate.ensures

pub returns-in-Full : goal.returns-in-Full
returns-in-Full c =
    let fits : SFits w64 c.in-Full.value = search rules in
    made-by c.args.nodes.now c.args.k c.args.known.now (held_in c.args.inputs.now c.args.input) c.index-nodes-k.result (filled c.index-nodes-k.result.shape c.in-Full.value) c.tabulate-in-Full.result c.requires.inside c.index-nodes-k.is
    (ap (λ ns. filled ns c.in-Full.value) (full-fits (take c.args.k c.args.nodes.now) c.args.known.now c.index-nodes-k.result c.in-Full.dims c.in-Full.value c.in-Full.chunks c.requires.known (node-fits c.args.nodes.now c.args.k c.index-nodes-k.result c.requires.sound c.requires.inside c.index-nodes-k.is) c.in-Full.is) ∙ ap (λ o. formula o c.index-nodes-k.result.taken (held_in c.args.inputs.now c.args.input) (array_at c.args.known.now)) (sym c.in-Full.is)) (refl) (rw (to_z-of_z w64 c.in-Full.value fits) at c.tabulate-in-Full.ensures)

pub returns-in-Ramp : goal.returns-in-Ramp
returns-in-Ramp c =
    let first : SFits w64 c.in-Ramp.start = search rules in
    let by : SFits w64 c.in-Ramp.step = search rules in
    made-by c.args.nodes.now c.args.k c.args.known.now (held_in c.args.inputs.now c.args.input) c.index-nodes-k.result (ramp c.index-nodes-k.result.shape c.in-Ramp.start c.in-Ramp.step) c.tabulate-in-Ramp.result c.requires.inside c.index-nodes-k.is
    (ap (λ ns. ramp ns c.in-Ramp.start c.in-Ramp.step) (ramp-fits (take c.args.k c.args.nodes.now) c.args.known.now c.index-nodes-k.result c.in-Ramp.dims c.in-Ramp.start c.in-Ramp.step c.in-Ramp.chunks c.requires.known (node-fits c.args.nodes.now c.args.k c.index-nodes-k.result c.requires.sound c.requires.inside c.index-nodes-k.is) c.in-Ramp.is) ∙ ap (λ o. formula o c.index-nodes-k.result.taken (held_in c.args.inputs.now c.args.input) (array_at c.args.known.now)) (sym c.in-Ramp.is)) (refl) (rw (to_z-of_z w64 c.in-Ramp.start first, to_z-of_z w64 c.in-Ramp.step by) at c.tabulate-in-Ramp.ensures)

pub tabulate-requires-in-Negate-clause-valid : goal.tabulate-requires-in-Negate-clause-valid
tabulate-requires-in-Negate-clause-valid c = (negate-fits (take c.args.k c.args.nodes.now) c.args.known.now c.index-nodes-k.result c.in-Negate.of c.requires.known (node-fits c.args.nodes.now c.args.k c.index-nodes-k.result c.requires.sound c.requires.inside c.index-nodes-k.is) c.in-Negate.is).0

pub tabulate-requires-in-Negate-clause-same : goal.tabulate-requires-in-Negate-clause-same
tabulate-requires-in-Negate-clause-same c = (negate-fits (take c.args.k c.args.nodes.now) c.args.known.now c.index-nodes-k.result c.in-Negate.of c.requires.known (node-fits c.args.nodes.now c.args.k c.index-nodes-k.result c.requires.sound c.requires.inside c.index-nodes-k.is) c.in-Negate.is).1 ∙ sym c.in_ok-shape.ensures

pub returns-in-Negate : goal.returns-in-Negate
returns-in-Negate c =
    made-by c.args.nodes.now c.args.k c.args.known.now (held_in c.args.inputs.now c.args.input) c.index-nodes-k.result (negated (array_at c.args.known.now c.in-Negate.of)) c.tabulate-in-Negate.result c.requires.inside c.index-nodes-k.is
    (ap (λ o. formula o c.index-nodes-k.result.taken (held_in c.args.inputs.now c.args.input) (array_at c.args.known.now)) (sym c.in-Negate.is)) ((negate-fits (take c.args.k c.args.nodes.now) c.args.known.now c.index-nodes-k.result c.in-Negate.of c.requires.known (node-fits c.args.nodes.now c.args.k c.index-nodes-k.result c.requires.sound c.requires.inside c.index-nodes-k.is) c.in-Negate.is).1) c.tabulate-in-Negate.ensures

pub tabulate-requires-in-Elementwise-clause-valid : goal.tabulate-requires-in-Elementwise-clause-valid
tabulate-requires-in-Elementwise-clause-valid c = (pair-fits (take c.args.k c.args.nodes.now) c.args.known.now c.index-nodes-k.result c.in-Elementwise.op c.in-Elementwise.left c.in-Elementwise.right c.requires.known (node-fits c.args.nodes.now c.args.k c.index-nodes-k.result c.requires.sound c.requires.inside c.index-nodes-k.is) c.in-Elementwise.is).0

pub tabulate-requires-in-Elementwise-clause-same : goal.tabulate-requires-in-Elementwise-clause-same
tabulate-requires-in-Elementwise-clause-same c = (pair-fits (take c.args.k c.args.nodes.now) c.args.known.now c.index-nodes-k.result c.in-Elementwise.op c.in-Elementwise.left c.in-Elementwise.right c.requires.known (node-fits c.args.nodes.now c.args.k c.index-nodes-k.result c.requires.sound c.requires.inside c.index-nodes-k.is) c.in-Elementwise.is).1 ∙ sym c.in_ok-shape.ensures

pub returns-in-Elementwise : goal.returns-in-Elementwise
returns-in-Elementwise c =
    made-by c.args.nodes.now c.args.k c.args.known.now (held_in c.args.inputs.now c.args.input) c.index-nodes-k.result (elementwise c.in-Elementwise.op (array_at c.args.known.now c.in-Elementwise.left) (array_at c.args.known.now c.in-Elementwise.right)) c.tabulate-in-Elementwise.result c.requires.inside c.index-nodes-k.is
    (ap (λ o. formula o c.index-nodes-k.result.taken (held_in c.args.inputs.now c.args.input) (array_at c.args.known.now)) (sym c.in-Elementwise.is)) ((pair-fits (take c.args.k c.args.nodes.now) c.args.known.now c.index-nodes-k.result c.in-Elementwise.op c.in-Elementwise.left c.in-Elementwise.right c.requires.known (node-fits c.args.nodes.now c.args.k c.index-nodes-k.result c.requires.sound c.requires.inside c.index-nodes-k.is) c.in-Elementwise.is).1) c.tabulate-in-Elementwise.ensures

pub tabulate-requires-in-Where-clause-valid : goal.tabulate-requires-in-Where-clause-valid
tabulate-requires-in-Where-clause-valid c = (choice-fits (take c.args.k c.args.nodes.now) c.args.known.now c.index-nodes-k.result c.in-Where.cond c.in-Where.yes c.in-Where.no c.requires.known (node-fits c.args.nodes.now c.args.k c.index-nodes-k.result c.requires.sound c.requires.inside c.index-nodes-k.is) c.in-Where.is).0

pub tabulate-requires-in-Where-clause-same : goal.tabulate-requires-in-Where-clause-same
tabulate-requires-in-Where-clause-same c = (choice-fits (take c.args.k c.args.nodes.now) c.args.known.now c.index-nodes-k.result c.in-Where.cond c.in-Where.yes c.in-Where.no c.requires.known (node-fits c.args.nodes.now c.args.k c.index-nodes-k.result c.requires.sound c.requires.inside c.index-nodes-k.is) c.in-Where.is).1 ∙ sym c.in_ok-shape.ensures

pub returns-in-Where : goal.returns-in-Where
returns-in-Where c =
    made-by c.args.nodes.now c.args.k c.args.known.now (held_in c.args.inputs.now c.args.input) c.index-nodes-k.result (chosen (array_at c.args.known.now c.in-Where.cond) (array_at c.args.known.now c.in-Where.yes) (array_at c.args.known.now c.in-Where.no)) c.tabulate-in-Where.result c.requires.inside c.index-nodes-k.is
    (ap (λ o. formula o c.index-nodes-k.result.taken (held_in c.args.inputs.now c.args.input) (array_at c.args.known.now)) (sym c.in-Where.is)) ((choice-fits (take c.args.k c.args.nodes.now) c.args.known.now c.index-nodes-k.result c.in-Where.cond c.in-Where.yes c.in-Where.no c.requires.known (node-fits c.args.nodes.now c.args.k c.index-nodes-k.result c.requires.sound c.requires.inside c.index-nodes-k.is) c.in-Where.is).1) c.tabulate-in-Where.ensures

pub tabulate-requires-in-Rechunk-clause-valid : goal.tabulate-requires-in-Rechunk-clause-valid
tabulate-requires-in-Rechunk-clause-valid c = (rechunk-fits (take c.args.k c.args.nodes.now) c.args.known.now c.index-nodes-k.result c.in-Rechunk.of c.in-Rechunk.chunks c.requires.known (node-fits c.args.nodes.now c.args.k c.index-nodes-k.result c.requires.sound c.requires.inside c.index-nodes-k.is) c.in-Rechunk.is).0

pub tabulate-requires-in-Rechunk-clause-same : goal.tabulate-requires-in-Rechunk-clause-same
tabulate-requires-in-Rechunk-clause-same c = (rechunk-fits (take c.args.k c.args.nodes.now) c.args.known.now c.index-nodes-k.result c.in-Rechunk.of c.in-Rechunk.chunks c.requires.known (node-fits c.args.nodes.now c.args.k c.index-nodes-k.result c.requires.sound c.requires.inside c.index-nodes-k.is) c.in-Rechunk.is).1 ∙ sym c.in_ok-shape.ensures

pub returns-in-Rechunk : goal.returns-in-Rechunk
returns-in-Rechunk c =
    made-by c.args.nodes.now c.args.k c.args.known.now (held_in c.args.inputs.now c.args.input) c.index-nodes-k.result ((array_at c.args.known.now c.in-Rechunk.of)) c.tabulate-in-Rechunk.result c.requires.inside c.index-nodes-k.is
    (ap (λ o. formula o c.index-nodes-k.result.taken (held_in c.args.inputs.now c.args.input) (array_at c.args.known.now)) (sym c.in-Rechunk.is)) ((rechunk-fits (take c.args.k c.args.nodes.now) c.args.known.now c.index-nodes-k.result c.in-Rechunk.of c.in-Rechunk.chunks c.requires.known (node-fits c.args.nodes.now c.args.k c.index-nodes-k.result c.requires.sound c.requires.inside c.index-nodes-k.is) c.in-Rechunk.is).1) c.tabulate-in-Rechunk.ensures

pub sliced-requires-clause-fits : goal.sliced-requires-clause-fits
sliced-requires-clause-fits c = subst (λ ss. CanTake c.args.known.now c.in-Slice.of ss (dropped c.in-Slice.parts)) (sym c.as_slice.ensures) (slice-fits (take c.args.k c.args.nodes.now) c.args.known.now c.index-nodes-k.result c.in-Slice.of c.in-Slice.parts c.requires.known (node-fits c.args.nodes.now c.args.k c.index-nodes-k.result c.requires.sound c.requires.inside c.index-nodes-k.is) c.in-Slice.is).0

pub sliced-requires-clause-shape : goal.sliced-requires-clause-shape
sliced-requires-clause-shape c = ap (λ ss. sliced_shape 0 ss (dropped c.in-Slice.parts)) c.as_slice.ensures ∙ (slice-fits (take c.args.k c.args.nodes.now) c.args.known.now c.index-nodes-k.result c.in-Slice.of c.in-Slice.parts c.requires.known (node-fits c.args.nodes.now c.args.k c.index-nodes-k.result c.requires.sound c.requires.inside c.index-nodes-k.is) c.in-Slice.is).1 ∙ sym c.in_ok-shape.ensures

pub returns-in-Slice : goal.returns-in-Slice
returns-in-Slice c =
    made-by c.args.nodes.now c.args.k c.args.known.now (held_in c.args.inputs.now c.args.input) c.index-nodes-k.result (sliced c.as_slice.result.now (dropped c.in-Slice.parts) (array_at c.args.known.now c.in-Slice.of)) c.sliced.result c.requires.inside c.index-nodes-k.is
    (ap (λ ss. sliced ss (dropped c.in-Slice.parts) (array_at c.args.known.now c.in-Slice.of)) c.as_slice.ensures ∙ ap (λ o. formula o c.index-nodes-k.result.taken (held_in c.args.inputs.now c.args.input) (array_at c.args.known.now)) (sym c.in-Slice.is)) (ap (λ ss. sliced_shape 0 ss (dropped c.in-Slice.parts)) c.as_slice.ensures ∙ (slice-fits (take c.args.k c.args.nodes.now) c.args.known.now c.index-nodes-k.result c.in-Slice.of c.in-Slice.parts c.requires.known (node-fits c.args.nodes.now c.args.k c.index-nodes-k.result c.requires.sound c.requires.inside c.index-nodes-k.is) c.in-Slice.is).1) c.sliced.ensures

pub tabulate-requires-in-Transpose-clause-valid : goal.tabulate-requires-in-Transpose-clause-valid
tabulate-requires-in-Transpose-clause-valid c = subst (λ ks. CanTurn c.args.known.now c.in-Transpose.of ks) (sym c.as_slice-in-Transpose.ensures) (turn-fits (take c.args.k c.args.nodes.now) c.args.known.now c.index-nodes-k.result c.in-Transpose.of c.in-Transpose.axes c.requires.known (node-fits c.args.nodes.now c.args.k c.index-nodes-k.result c.requires.sound c.requires.inside c.index-nodes-k.is) c.in-Transpose.is).0

pub tabulate-requires-in-Transpose-clause-same : goal.tabulate-requires-in-Transpose-clause-same
tabulate-requires-in-Transpose-clause-same c = ap (λ ks. map (λ a. get_or (array_at c.args.known.now c.in-Transpose.of).shape a 0) ks) c.as_slice-in-Transpose.ensures ∙ (turn-fits (take c.args.k c.args.nodes.now) c.args.known.now c.index-nodes-k.result c.in-Transpose.of c.in-Transpose.axes c.requires.known (node-fits c.args.nodes.now c.args.k c.index-nodes-k.result c.requires.sound c.requires.inside c.index-nodes-k.is) c.in-Transpose.is).1 ∙ sym c.in_ok-shape.ensures

pub returns-in-Transpose : goal.returns-in-Transpose
returns-in-Transpose c =
    made-by c.args.nodes.now c.args.k c.args.known.now (held_in c.args.inputs.now c.args.input) c.index-nodes-k.result (transposed c.as_slice-in-Transpose.result.now (array_at c.args.known.now c.in-Transpose.of)) c.tabulate-in-Transpose.result c.requires.inside c.index-nodes-k.is
    (ap (λ ks. transposed ks (array_at c.args.known.now c.in-Transpose.of)) c.as_slice-in-Transpose.ensures ∙ ap (λ o. formula o c.index-nodes-k.result.taken (held_in c.args.inputs.now c.args.input) (array_at c.args.known.now)) (sym c.in-Transpose.is)) (ap (λ ks. map (λ a. get_or (array_at c.args.known.now c.in-Transpose.of).shape a 0) ks) c.as_slice-in-Transpose.ensures ∙ (turn-fits (take c.args.k c.args.nodes.now) c.args.known.now c.index-nodes-k.result c.in-Transpose.of c.in-Transpose.axes c.requires.known (node-fits c.args.nodes.now c.args.k c.index-nodes-k.result c.requires.sound c.requires.inside c.index-nodes-k.is) c.in-Transpose.is).1) c.tabulate-in-Transpose.ensures

pub tabulate-requires-in-Concatenate-clause-valid : goal.tabulate-requires-in-Concatenate-clause-valid
tabulate-requires-in-Concatenate-clause-valid c = subst (λ ks. CanJoin c.args.known.now ks c.in-Concatenate.axis) (sym c.as_slice-in-Concatenate.ensures) (join-fits (take c.args.k c.args.nodes.now) c.args.known.now c.index-nodes-k.result c.in-Concatenate.of c.in-Concatenate.axis c.requires.known (node-fits c.args.nodes.now c.args.k c.index-nodes-k.result c.requires.sound c.requires.inside c.index-nodes-k.is) c.in-Concatenate.is).0

pub tabulate-requires-in-Concatenate-clause-same : goal.tabulate-requires-in-Concatenate-clause-same
tabulate-requires-in-Concatenate-clause-same c = ap (λ ks. (concatenated c.in-Concatenate.axis (map (array_at c.args.known.now) ks)).shape) c.as_slice-in-Concatenate.ensures ∙ (join-fits (take c.args.k c.args.nodes.now) c.args.known.now c.index-nodes-k.result c.in-Concatenate.of c.in-Concatenate.axis c.requires.known (node-fits c.args.nodes.now c.args.k c.index-nodes-k.result c.requires.sound c.requires.inside c.index-nodes-k.is) c.in-Concatenate.is).1 ∙ sym c.in_ok-shape.ensures

pub returns-in-Concatenate : goal.returns-in-Concatenate
returns-in-Concatenate c =
    made-by c.args.nodes.now c.args.k c.args.known.now (held_in c.args.inputs.now c.args.input) c.index-nodes-k.result (concatenated c.in-Concatenate.axis (map (array_at c.args.known.now) c.as_slice-in-Concatenate.result.now)) c.tabulate-in-Concatenate.result c.requires.inside c.index-nodes-k.is
    (ap (λ ks. concatenated c.in-Concatenate.axis (map (array_at c.args.known.now) ks)) c.as_slice-in-Concatenate.ensures ∙ ap (λ o. formula o c.index-nodes-k.result.taken (held_in c.args.inputs.now c.args.input) (array_at c.args.known.now)) (sym c.in-Concatenate.is)) (ap (λ ks. (concatenated c.in-Concatenate.axis (map (array_at c.args.known.now) ks)).shape) c.as_slice-in-Concatenate.ensures ∙ (join-fits (take c.args.k c.args.nodes.now) c.args.known.now c.index-nodes-k.result c.in-Concatenate.of c.in-Concatenate.axis c.requires.known (node-fits c.args.nodes.now c.args.k c.index-nodes-k.result c.requires.sound c.requires.inside c.index-nodes-k.is) c.in-Concatenate.is).1) c.tabulate-in-Concatenate.ensures

pub dims_of-requires : goal.dims_of-requires
dims_of-requires c = (fold-fits (take c.args.k c.args.nodes.now) c.args.known.now c.index-nodes-k.result c.in-Reduce.fold c.in-Reduce.of c.in-Reduce.axes c.in-Reduce.split c.requires.known (node-fits c.args.nodes.now c.args.k c.index-nodes-k.result c.requires.sound c.requires.inside c.index-nodes-k.is) c.in-Reduce.is).0

pub reduced-requires-clause-there : goal.reduced-requires-clause-there
reduced-requires-clause-there c = (fold-fits (take c.args.k c.args.nodes.now) c.args.known.now c.index-nodes-k.result c.in-Reduce.fold c.in-Reduce.of c.in-Reduce.axes c.in-Reduce.split c.requires.known (node-fits c.args.nodes.now c.args.k c.index-nodes-k.result c.requires.sound c.requires.inside c.index-nodes-k.is) c.in-Reduce.is).0

pub reduced-requires-clause-shape : goal.reduced-requires-clause-shape
reduced-requires-clause-shape c = ap (λ ks. kept_shape 0 (array_at c.args.known.now c.in-Reduce.of).shape ks) (c.as_slice-in-Reduce.ensures ∙ c.in_ok-folded-in-Reduce.ensures ∙ ap (λ (ns : List ℕ). folded_axes c.in-Reduce.axes (length ns)) c.dims_of.ensures.value) ∙ (fold-fits (take c.args.k c.args.nodes.now) c.args.known.now c.index-nodes-k.result c.in-Reduce.fold c.in-Reduce.of c.in-Reduce.axes c.in-Reduce.split c.requires.known (node-fits c.args.nodes.now c.args.k c.index-nodes-k.result c.requires.sound c.requires.inside c.index-nodes-k.is) c.in-Reduce.is).1 ∙ sym c.in_ok-shape.ensures

pub returns-in_ok-folded-in-Reduce : goal.returns-in_ok-folded-in-Reduce
returns-in_ok-folded-in-Reduce c =
    made-by c.args.nodes.now c.args.k c.args.known.now (held_in c.args.inputs.now c.args.input) c.index-nodes-k.result (reduced c.in-Reduce.fold c.as_slice-in-Reduce.result.now (array_at c.args.known.now c.in-Reduce.of)) c.reduced.result c.requires.inside c.index-nodes-k.is
    (ap (λ ks. reduced c.in-Reduce.fold ks (array_at c.args.known.now c.in-Reduce.of)) (c.as_slice-in-Reduce.ensures ∙ c.in_ok-folded-in-Reduce.ensures ∙ ap (λ (ns : List ℕ). folded_axes c.in-Reduce.axes (length ns)) c.dims_of.ensures.value) ∙ ap (λ o. formula o c.index-nodes-k.result.taken (held_in c.args.inputs.now c.args.input) (array_at c.args.known.now)) (sym c.in-Reduce.is)) (ap (λ ks. kept_shape 0 (array_at c.args.known.now c.in-Reduce.of).shape ks) (c.as_slice-in-Reduce.ensures ∙ c.in_ok-folded-in-Reduce.ensures ∙ ap (λ (ns : List ℕ). folded_axes c.in-Reduce.axes (length ns)) c.dims_of.ensures.value) ∙ (fold-fits (take c.args.k c.args.nodes.now) c.args.known.now c.index-nodes-k.result c.in-Reduce.fold c.in-Reduce.of c.in-Reduce.axes c.in-Reduce.split c.requires.known (node-fits c.args.nodes.now c.args.k c.index-nodes-k.result c.requires.sound c.requires.inside c.index-nodes-k.is) c.in-Reduce.is).1) c.reduced.ensures

pub contracted-requires-clause-fits : goal.contracted-requires-clause-fits
contracted-requires-clause-fits c = subst (λ ks. CanContractKnown c.args.known.now c.in-Tensordot.left c.in-Tensordot.right ks c.as_slice-in-Tensordot-2.result.now) (sym c.as_slice-in-Tensordot.ensures) (subst (λ ks. CanContractKnown c.args.known.now c.in-Tensordot.left c.in-Tensordot.right c.in-Tensordot.left_axes ks) (sym c.as_slice-in-Tensordot-2.ensures) (dot-fits (take c.args.k c.args.nodes.now) c.args.known.now c.index-nodes-k.result c.in-Tensordot.left c.in-Tensordot.right c.in-Tensordot.left_axes c.in-Tensordot.right_axes c.requires.known (node-fits c.args.nodes.now c.args.k c.index-nodes-k.result c.requires.sound c.requires.inside c.index-nodes-k.is) c.in-Tensordot.is).0)

pub contracted-requires-clause-shape : goal.contracted-requires-clause-shape
contracted-requires-clause-shape c = ap (λ ks. kept_shape 0 (array_at c.args.known.now c.in-Tensordot.left).shape ks ++ kept_shape 0 (array_at c.args.known.now c.in-Tensordot.right).shape c.as_slice-in-Tensordot-2.result.now) c.as_slice-in-Tensordot.ensures ∙ ap (λ ks. kept_shape 0 (array_at c.args.known.now c.in-Tensordot.left).shape c.in-Tensordot.left_axes ++ kept_shape 0 (array_at c.args.known.now c.in-Tensordot.right).shape ks) c.as_slice-in-Tensordot-2.ensures ∙ (dot-fits (take c.args.k c.args.nodes.now) c.args.known.now c.index-nodes-k.result c.in-Tensordot.left c.in-Tensordot.right c.in-Tensordot.left_axes c.in-Tensordot.right_axes c.requires.known (node-fits c.args.nodes.now c.args.k c.index-nodes-k.result c.requires.sound c.requires.inside c.index-nodes-k.is) c.in-Tensordot.is).1 ∙ sym c.in_ok-shape.ensures

pub returns-in-Tensordot : goal.returns-in-Tensordot
returns-in-Tensordot c =
    made-by c.args.nodes.now c.args.k c.args.known.now (held_in c.args.inputs.now c.args.input) c.index-nodes-k.result (contracted c.as_slice-in-Tensordot.result.now c.as_slice-in-Tensordot-2.result.now (array_at c.args.known.now c.in-Tensordot.left) (array_at c.args.known.now c.in-Tensordot.right)) c.contracted.result c.requires.inside c.index-nodes-k.is
    (ap (λ ks. contracted ks c.as_slice-in-Tensordot-2.result.now (array_at c.args.known.now c.in-Tensordot.left) (array_at c.args.known.now c.in-Tensordot.right)) c.as_slice-in-Tensordot.ensures ∙ ap (λ ks. contracted c.in-Tensordot.left_axes ks (array_at c.args.known.now c.in-Tensordot.left) (array_at c.args.known.now c.in-Tensordot.right)) c.as_slice-in-Tensordot-2.ensures ∙ ap (λ o. formula o c.index-nodes-k.result.taken (held_in c.args.inputs.now c.args.input) (array_at c.args.known.now)) (sym c.in-Tensordot.is)) (ap (λ ks. kept_shape 0 (array_at c.args.known.now c.in-Tensordot.left).shape ks ++ kept_shape 0 (array_at c.args.known.now c.in-Tensordot.right).shape c.as_slice-in-Tensordot-2.result.now) c.as_slice-in-Tensordot.ensures ∙ ap (λ ks. kept_shape 0 (array_at c.args.known.now c.in-Tensordot.left).shape c.in-Tensordot.left_axes ++ kept_shape 0 (array_at c.args.known.now c.in-Tensordot.right).shape ks) c.as_slice-in-Tensordot-2.ensures ∙ (dot-fits (take c.args.k c.args.nodes.now) c.args.known.now c.index-nodes-k.result c.in-Tensordot.left c.in-Tensordot.right c.in-Tensordot.left_axes c.in-Tensordot.right_axes c.requires.known (node-fits c.args.nodes.now c.args.k c.index-nodes-k.result c.requires.sound c.requires.inside c.index-nodes-k.is) c.in-Tensordot.is).1) c.contracted.ensures
