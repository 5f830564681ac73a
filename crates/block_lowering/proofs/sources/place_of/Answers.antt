use Rattle.std.proofs.Common.{arith, ◌≡◌, ◌<◌, ◌+◌, ◌*◌, ◌^◌, [], length, get_or, drop}
use Rattle.std.proofs.lemmas.List.{get_or_read, drop_all}
use Rattle.nd_shape.specs.Shape.{elements}
use Rattle.nd_shape.specs.Index.{place}
use Rattle.nd_shape.proofs.Places.{along, along-step, along-fits, place-below, IsIn-length}
use Rattle.chunk_layout.specs.Layouts.{counts}
use Rattle.block_lowering.proofs.SourcesSteps.{counts-length, counts-at}
use Rattle.block_lowering.proofs.sources.place_of.Goals as goal

pub overflow_mul-at : goal.overflow_mul-at
overflow_mul-at c =
    let k = c.loop-axis.axis in
    let axes = c.args.axes.now in
    let h : k < length (counts axes) = omega (arith, counts-length axes) in
    let e : c.index-axes-axis.result ≡ get_or axes k [] = get_or_read axes k c.index-axes-axis.result c.loop-axis-test.true c.index-axes-axis.is [] in
    let n : c.count.result ≡ length (get_or axes k []) = rw (← e) c.count.ensures.count in
    let m : c.count.result ≡ get_or (counts axes) k 0 = counts-at axes k c.count.result c.loop-axis-test.true n in
    let f : c.loop-axis.at * get_or (counts axes) k 0 + get_or c.args.numbers.now k 0 < 2 ^ 31 =
    along-fits (counts axes) c.args.numbers.now k c.loop-axis.at (omega (arith, c.requires.few)) c.requires.inside h c.loop-axis.invariant.rest c.loop-axis.invariant.value in
    let g : c.loop-axis.at * c.count.result + get_or c.args.numbers.now k 0 < 2 ^ 31 = rw m f in
    omega arith

pub bounds-numbers-axis : goal.bounds-numbers-axis
bounds-numbers-axis c = omega (arith, counts-length c.args.axes.now, IsIn-length (counts c.args.axes.now) c.args.numbers.now c.requires.inside)

pub overflow_add-at : goal.overflow_add-at
overflow_add-at c =
    let k = c.loop-axis.axis in
    let axes = c.args.axes.now in
    let h : k < length (counts axes) = omega (arith, counts-length axes) in
    let e : c.index-axes-axis.result ≡ get_or axes k [] = get_or_read axes k c.index-axes-axis.result c.loop-axis-test.true c.index-axes-axis.is [] in
    let n : c.count.result ≡ length (get_or axes k []) = rw (← e) c.count.ensures.count in
    let m : c.count.result ≡ get_or (counts axes) k 0 = counts-at axes k c.count.result c.loop-axis-test.true n in
    let f : c.loop-axis.at * get_or (counts axes) k 0 + get_or c.args.numbers.now k 0 < 2 ^ 31 =
    along-fits (counts axes) c.args.numbers.now k c.loop-axis.at (omega (arith, c.requires.few)) c.requires.inside h c.loop-axis.invariant.rest c.loop-axis.invariant.value in
    let g : c.loop-axis.at * c.count.result + get_or c.args.numbers.now k 0 < 2 ^ 31 = rw m f in
    omega arith

pub loop-axis-preserved : goal.loop-axis-preserved
loop-axis-preserved c =
    let k = c.loop-axis.axis in
    let axes = c.args.axes.now in
    let h : k < length (counts axes) = omega (arith, counts-length axes) in
    let len : length c.args.numbers.now ≡ length (counts axes) = IsIn-length (counts axes) c.args.numbers.now c.requires.inside in
    let e : c.index-axes-axis.result ≡ get_or axes k [] = get_or_read axes k c.index-axes-axis.result c.loop-axis-test.true c.index-axes-axis.is [] in
    let n : c.count.result ≡ length (get_or axes k []) = rw (← e) c.count.ensures.count in
    let m : c.count.result ≡ get_or (counts axes) k 0 = counts-at axes k c.count.result c.loop-axis-test.true n in
    record {
      rest = (along (counts axes) c.args.numbers.now k h len c.loop-axis.invariant.rest).rest;
      value = rw m (along-step (counts axes) c.args.numbers.now k c.loop-axis.at (place (counts axes) c.args.numbers.now) h len c.loop-axis.invariant.rest c.loop-axis.invariant.value);
    }

pub returns-clause-there : goal.returns-clause-there
returns-clause-there c =
    let ns = counts c.args.axes.now in
    let k = c.loop-axis.axis in
    let none : drop k ns ≡ [] = drop_all k ns (omega (arith, counts-length c.args.axes.now)) in
    let e : c.loop-axis.at * elements [] + place [] (drop k c.args.numbers.now) ≡ place ns c.args.numbers.now = rw none at c.loop-axis.invariant.value in
    let whole : c.loop-axis.at * 1 + 0 ≡ place ns c.args.numbers.now = e in
    let below : place ns c.args.numbers.now < elements ns = place-below ns c.args.numbers.now c.requires.inside in
    omega arith
