use Rattle.std.proofs.Common.{arith, refl, get_or, pos, ◌<◌, ◌∙◌, length, length-set, take}
use Rattle.nd_shape.specs.declared.slice.Steps.{Steps}
use Rattle.nd_grid.specs.Grid.{sliced_from}
use Rattle.nd_grid.proofs.Slicing.{SlicesFit-length, sliced_step, next-le, slicing_written, slicing_end}
use Rattle.nd_grid.proofs.operand.index_sliced.Goals as goal

no_steps : Steps
no_steps = record { start = 0; step = pos 0; count = 0 }

pub bounds-steps-axis : goal.bounds-steps-axis
bounds-steps-axis c = omega (arith, SlicesFit-length 0 c.args.steps.now c.args.dims.now c.args.dropped.now c.requires.fits)

pub coordinate_or_start-requires-clause-there : goal.coordinate_or_start-requires-clause-there
unfolding no_steps
coordinate_or_start-requires-clause-there c =
    let h : c.loop-axis.axis < length c.args.steps.now = omega (arith, SlicesFit-length 0 c.args.steps.now c.args.dims.now c.args.dropped.now c.requires.fits) in
    (sliced_step c.args.steps.now c.args.dims.now c.args.dropped.now c.args.index.now (take c.loop-axis.axis c.loop-axis.own) _ c.loop-axis.axis c.loop-axis.used (get_or c.args.steps.now c.loop-axis.axis no_steps) no_steps c.is_in_list-gone.result
    h refl c.is_in_list-gone.ensures c.requires.lengths c.loop-axis.invariant.slicing).there

pub coordinate_or_start-requires-clause-forward : goal.coordinate_or_start-requires-clause-forward
unfolding no_steps
coordinate_or_start-requires-clause-forward c =
    let h : c.loop-axis.axis < length c.args.steps.now = omega (arith, SlicesFit-length 0 c.args.steps.now c.args.dims.now c.args.dropped.now c.requires.fits) in
    (sliced_step c.args.steps.now c.args.dims.now c.args.dropped.now c.args.index.now (take c.loop-axis.axis c.loop-axis.own) _ c.loop-axis.axis c.loop-axis.used (get_or c.args.steps.now c.loop-axis.axis no_steps) no_steps c.is_in_list-gone.result
    h refl c.is_in_list-gone.ensures c.requires.lengths c.loop-axis.invariant.slicing).forward

pub coordinate_or_start-requires-clause-small : goal.coordinate_or_start-requires-clause-small
unfolding no_steps
coordinate_or_start-requires-clause-small c =
    let h : c.loop-axis.axis < length c.args.steps.now = omega (arith, SlicesFit-length 0 c.args.steps.now c.args.dims.now c.args.dropped.now c.requires.fits) in
    (sliced_step c.args.steps.now c.args.dims.now c.args.dropped.now c.args.index.now (take c.loop-axis.axis c.loop-axis.own) _ c.loop-axis.axis c.loop-axis.used (get_or c.args.steps.now c.loop-axis.axis no_steps) no_steps c.is_in_list-gone.result
    h refl c.is_in_list-gone.ensures c.requires.lengths c.loop-axis.invariant.slicing).small

pub loop-axis-preserved : goal.loop-axis-preserved
unfolding no_steps
loop-axis-preserved c =
    let h : c.loop-axis.axis < length c.args.steps.now = omega (arith, SlicesFit-length 0 c.args.steps.now c.args.dims.now c.args.dropped.now c.requires.fits) in
    let room : c.loop-axis.axis < length c.loop-axis.own = omega (arith, c.loop-axis.invariant.room) in
    let st = sliced_step c.args.steps.now c.args.dims.now c.args.dropped.now c.args.index.now (take c.loop-axis.axis c.loop-axis.own) (sliced_from 0 c.args.steps.now c.args.dropped.now c.args.index.now) c.loop-axis.axis c.loop-axis.used
    (get_or c.args.steps.now c.loop-axis.axis no_steps) no_steps c.is_in_list-gone.result h refl c.is_in_list-gone.ensures c.requires.lengths c.loop-axis.invariant.slicing in
    record {
      used = rw c.next_used-used.ensures (next-le c.is_in_list-gone.result c.loop-axis.used c.loop-axis.axis c.loop-axis.invariant.used);
      room = length-set c.loop-axis.own c.loop-axis.axis c.coordinate_or_start.result ∙ c.loop-axis.invariant.room;
      slicing = slicing_written c.args.steps.now c.args.dims.now c.args.dropped.now c.args.index.now c.loop-axis.own (sliced_from 0 c.args.steps.now c.args.dropped.now c.args.index.now) c.loop-axis.axis c.next_used-used.result
          c.coordinate_or_start.result room (rw (c.next_used-used.ensures, c.coordinate_or_start.ensures) st.next);
    }

pub returns : goal.returns
returns c =
    slicing_end c.args.steps.now c.args.dims.now c.args.dropped.now c.args.index.now c.loop-axis.own (sliced_from 0 c.args.steps.now c.args.dropped.now c.args.index.now) c.loop-axis.axis c.loop-axis.used
    (omega (arith, SlicesFit-length 0 c.args.steps.now c.args.dims.now c.args.dropped.now c.requires.fits)) (omega (arith, c.loop-axis.invariant.room)) c.loop-axis.invariant.slicing
