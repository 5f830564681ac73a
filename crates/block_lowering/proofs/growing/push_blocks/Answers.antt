use Rattle.std.proofs.Common.{arith, length}
use Rattle.std.proofs.lemmas.Result.{err_from_is_err_and}
use Rattle.nd_shape.specs.Shape.{elements}
use Rattle.block_lowering.proofs.Pushing.{kept-length, push-one, all-pushed, all-counted, refuses-next}
use Rattle.block_lowering.proofs.growing.push_blocks.Goals as goal

pub returns-in_err-push_at-clause-err : goal.returns-in_err-push_at-clause-err
returns-in_err-push_at-clause-err g c =
    let p = err_from_is_err_and c.from_residual-in_err-push_at.result c.from_residual-in_err-push_at.ensures.1 in
    rw (p.1, p.2)
    (refuses-next c.args.graph.now c.loop-place.graph _ (elements c.args.counts.now) c.loop-place.place c.in_err-push_at.field-0.0 (omega arith) c.loop-place.invariant.tasks c.in_err-push_at.ensures.err)

pub loop-place-preserved : goal.loop-place-preserved
loop-place-preserved g c = record {
  axes = kept-length c.push_at.new.numbers c.loop-place.numbers.items c.loop-place.numbers.len (length c.args.counts.now) (omega arith) (omega arith);
  tasks = push-one c.args.graph.now c.loop-place.graph c.push_at.new.graph _ c.loop-place.place c.loop-place.invariant.tasks c.in_ok-push_at.ensures.ok;
}

pub returns-clause-ok : goal.returns-clause-ok
returns-clause-ok g c =
    all-pushed c.args.graph.now c.loop-place.graph _ c.loop-place.place (elements c.args.counts.now) c.loop-place.invariant.tasks
    (all-counted c.args.graph.now c.loop-place.graph _ c.loop-place.place (elements c.args.counts.now) c.sound.ensures c.loop-place.invariant.tasks (omega arith))
