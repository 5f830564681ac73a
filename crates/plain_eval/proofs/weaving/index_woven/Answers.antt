use Rattle.std.proofs.Common.{arith, ◌<◌, ◌∙◌, length, length-set, take, sym}
use Rattle.nd_grid.specs.Grid.{woven}
use Rattle.nd_grid.proofs.Slicing.{next-le}
use Rattle.plain_eval.proofs.Woven.{weave_step, weaving_written, weaving_end}
use Rattle.plain_eval.proofs.weaving.index_woven.Goals as goal
use Rattle.nd_grid.proofs.Woven.{among-place}

pub one_of-requires-clause-rest : goal.one_of-requires-clause-rest
one_of-requires-clause-rest c = λ e. omega (arith, c.requires.rest, c.place_in_list-place.ensures, among-place c.args.axes.now c.loop-axis.axis (sym c.is_in_list-paired.ensures ∙ e))

pub one_of-requires-clause-kept : goal.one_of-requires-clause-kept
one_of-requires-clause-kept c = (weave_step c.args.dims.now c.args.axes.now c.args.kept.now c.args.rest.now (take c.loop-axis.axis c.loop-axis.own) (woven 0 c.args.dims.now c.args.axes.now c.args.kept.now c.args.rest.now) c.loop-axis.axis c.loop-axis.used c.is_in_list-paired.result c.loop-axis-test.true c.is_in_list-paired.ensures c.loop-axis.invariant.weaving).kept

pub loop-axis-preserved : goal.loop-axis-preserved
loop-axis-preserved c =
    let room : c.loop-axis.axis < length c.loop-axis.own = omega (arith, c.loop-axis.invariant.room) in
    let st = weave_step c.args.dims.now c.args.axes.now c.args.kept.now c.args.rest.now (take c.loop-axis.axis c.loop-axis.own) (woven 0 c.args.dims.now c.args.axes.now c.args.kept.now c.args.rest.now) c.loop-axis.axis c.loop-axis.used c.is_in_list-paired.result c.loop-axis-test.true c.is_in_list-paired.ensures c.loop-axis.invariant.weaving in
    record {
      used = rw c.next_used-used.ensures (next-le c.is_in_list-paired.result c.loop-axis.used c.loop-axis.axis c.loop-axis.invariant.used);
      room = length-set c.loop-axis.own c.loop-axis.axis c.one_of.result ∙ c.loop-axis.invariant.room;
      weaving = weaving_written c.args.dims.now c.args.axes.now c.args.kept.now c.args.rest.now c.loop-axis.own (woven 0 c.args.dims.now c.args.axes.now c.args.kept.now c.args.rest.now) c.loop-axis.axis c.next_used-used.result c.one_of.result room
          (rw (c.next_used-used.ensures, c.one_of.ensures, c.place_in_list-place.ensures) st.next);
    }

pub returns : goal.returns
returns c =
    weaving_end c.args.dims.now c.args.axes.now c.args.kept.now c.args.rest.now c.loop-axis.own (woven 0 c.args.dims.now c.args.axes.now c.args.kept.now c.args.rest.now) c.loop-axis.axis c.loop-axis.used (omega arith) (omega (arith, c.loop-axis.invariant.room)) c.loop-axis.invariant.weaving
