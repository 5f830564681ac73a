use Rattle.std.proofs.lemmas.Result.{err_from_is_err_and}
use Rattle.msgpack_frames.specs.Groups.{lens_at}
use Rattle.msgpack_frames.proofs.GroupLoops.{lens_more, lens_fail, lens_done}
use Rattle.msgpack_frames.proofs.group.lens_of.Goals as goal

pub returns-in_err-len : goal.returns-in_err-len
returns-in_err-len c =
    let p = err_from_is_err_and c.from_residual.result c.from_residual.ensures.1 in
    rw (p.1, p.2) (lens_fail c.args.count c.lens.place c.lens.rest.now c.lens.lens.items (lens_at 0 c.args.count c.args.bytes.now) c.lens.invariant c.in_err-len.field-0.0 c.lens-test.true c.in_err-len.ensures)

pub lens-preserved : goal.lens-preserved
lens-preserved c =
    rw c.in_ok-push.ensures.items (lens_more c.args.count c.lens.place c.lens.rest.now c.lens.lens.items (lens_at 0 c.args.count c.args.bytes.now) c.lens.invariant c.in_ok-len.len c.in_ok-len.after.now c.lens-test.true c.in_ok-len.ensures)

pub returns : goal.returns
returns c = lens_done c.args.count c.lens.place c.lens.rest.now c.lens.lens.items (lens_at 0 c.args.count c.args.bytes.now) c.lens.invariant c.lens-test.false
