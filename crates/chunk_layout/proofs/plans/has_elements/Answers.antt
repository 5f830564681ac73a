use Rattle.std.proofs.Common.{arith, ◌≡◌, ◌<◌, ◌≤◌, ◌^◌, [], length, get_or, ap, ◌∙◌}
use Rattle.std.proofs.lemmas.List.{get_or_read}
use Rattle.chunk_layout.proofs.Crossing.{number-there}
use Rattle.chunk_layout.proofs.Cutting.{count-small}
use Rattle.chunk_layout.proofs.plans.has_elements.Goals as goal

pub bounds-numbers-axis : goal.bounds-numbers-axis
bounds-numbers-axis c = (number-there c.args.axes.now c.args.numbers.now c.loop-axis.axis c.requires c.loop-axis-test.true).0

pub offset_bounds-sizes-numbers : goal.offset_bounds-sizes-numbers
offset_bounds-sizes-numbers c =
    let x : c.index-axes-axis.result ≡ get_or c.args.axes.now c.loop-axis.axis [] = get_or_read c.args.axes.now c.loop-axis.axis c.index-axes-axis.result c.loop-axis-test.true c.index-axes-axis.is [] in
    let n : get_or c.args.numbers.now c.loop-axis.axis 0 < length (get_or c.args.axes.now c.loop-axis.axis []) = (number-there c.args.axes.now c.args.numbers.now c.loop-axis.axis c.requires c.loop-axis-test.true).1 in
    let l : length c.index-axes-axis.result ≡ length (get_or c.args.axes.now c.loop-axis.axis []) = ap length x in
    let s : length c.index-axes-axis.result ≤ 2 ^ 31 = count-small c.index-axes-axis.result c.sizes.ensures.cut in
    omega arith

pub bounds-sizes-numbers : goal.bounds-sizes-numbers
bounds-sizes-numbers c =
    let x : c.index-axes-axis.result ≡ get_or c.args.axes.now c.loop-axis.axis [] = get_or_read c.args.axes.now c.loop-axis.axis c.index-axes-axis.result c.loop-axis-test.true c.index-axes-axis.is [] in
    let n : get_or c.args.numbers.now c.loop-axis.axis 0 < length (get_or c.args.axes.now c.loop-axis.axis []) = (number-there c.args.axes.now c.args.numbers.now c.loop-axis.axis c.requires c.loop-axis-test.true).1 in
    let l : length c.sizes.result.now ≡ length (get_or c.args.axes.now c.loop-axis.axis []) = ap length (c.sizes.ensures.value ∙ x) in
    omega arith
