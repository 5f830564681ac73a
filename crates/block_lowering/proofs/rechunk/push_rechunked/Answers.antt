use Rattle.std.proofs.lemmas.Result.{err_from_is_err_and}
use Rattle.chunk_layout.specs.Layouts.{normalized}
use Rattle.block_lowering.proofs.Recutting.{rechunked-grown, rechunked-refused}
use Rattle.block_lowering.proofs.rechunk.push_rechunked.Goals as goal

pub returns-clause-ok : goal.returns-clause-ok
returns-clause-ok c =
    rechunked-grown c.args.graph.now c.push_layout.new.graph c.args.source.now c.in_ok-made.made (normalized c.args.shape.now c.args.chunks.now) c.in_ok-layout.layout c.in_ok-layout.ensures c.sound.ensures c.in_ok-made.ensures.ok

pub returns-in_err-made-clause-err : goal.returns-in_err-made-clause-err
returns-in_err-made-clause-err c =
    let p = err_from_is_err_and c.from_residual-in_err-made.result c.from_residual-in_err-made.ensures.1 in
    rw (p.1, p.2) (rechunked-refused c.args.graph.now c.args.source.now (normalized c.args.shape.now c.args.chunks.now) c.in_ok-layout.layout c.in_err-made.field-0.0 c.in_ok-layout.ensures c.in_err-made.ensures.err)
