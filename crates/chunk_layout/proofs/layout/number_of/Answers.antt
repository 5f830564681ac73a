use Rattle.std.proofs.Common.{arith, ◌≡◌, ◌+◌, ◌*◌, ◌<◌, ◌^◌, [], length, get_or}
use Rattle.std.proofs.lemmas.List.{get_or_read}
use Rattle.chunk_layout.specs.Layouts.{chunk_of}
use Rattle.chunk_layout.proofs.Numbering.{number-fits, number-end}
use Rattle.chunk_layout.proofs.layout.number_of.Goals as goal

pub overflow_mul-at : goal.overflow_mul-at
overflow_mul-at c =
    let e : c.index-axes-axis.result ≡ get_or c.args.axes.now c.loop-axis.axis [] = get_or_read c.args.axes.now c.loop-axis.axis c.index-axes-axis.result c.loop-axis-test.true c.index-axes-axis.is [] in
    let n : c.count.result ≡ length (get_or c.args.axes.now c.loop-axis.axis []) = rw (← e) c.count.ensures.count in
    let f = number-fits c.args.axes.now c.args.index.now c.loop-axis.axis c.loop-axis.at c.requires.sound c.requires.inside c.loop-axis-test.true c.loop-axis.invariant.inside c.loop-axis.invariant.value in
    let g : c.loop-axis.at * c.count.result + chunk_of (get_or c.args.axes.now c.loop-axis.axis []) (get_or c.args.index.now c.loop-axis.axis 0) < 2 ^ 31 = rw n f in
    omega arith

pub overflow_add-at : goal.overflow_add-at
overflow_add-at c =
    let e : c.index-axes-axis.result ≡ get_or c.args.axes.now c.loop-axis.axis [] = get_or_read c.args.axes.now c.loop-axis.axis c.index-axes-axis.result c.loop-axis-test.true c.index-axes-axis.is [] in
    let n : c.count.result ≡ length (get_or c.args.axes.now c.loop-axis.axis []) = rw (← e) c.count.ensures.count in
    let m : c.chunk_at.result ≡ chunk_of (get_or c.args.axes.now c.loop-axis.axis []) (get_or c.args.index.now c.loop-axis.axis 0) = rw (← e) c.chunk_at.ensures.chunk in
    let f = number-fits c.args.axes.now c.args.index.now c.loop-axis.axis c.loop-axis.at c.requires.sound c.requires.inside c.loop-axis-test.true c.loop-axis.invariant.inside c.loop-axis.invariant.value in
    let g : c.loop-axis.at * c.count.result + c.chunk_at.result < 2 ^ 31 = rw (n, m) f in
    omega arith

pub returns-clause-there : goal.returns-clause-there
returns-clause-there c =
    number-end c.args.axes.now c.args.index.now c.loop-axis.axis c.loop-axis.at (omega arith) c.requires.inside c.loop-axis.invariant.value
