use Rattle.std.proofs.Common.{◌+◌, ◌-◌, ◌<◌, length, get_or, ap, arith}
use Rattle.std.proofs.lemmas.List.{length_push}
use Rattle.input_regions.proofs.Asked.{last-pushed}
use Rattle.input_regions.proofs.regions.last_index.Goals as goal

pub loop-axis-preserved : goal.loop-axis-preserved
loop-axis-preserved c =
    let box = c.args.region.now in
    let k = c.loop-axis.axis in
    let x = get_or c.starts-starts.result.now k 0 + get_or c.lengths-len-items.result.now k 0 - 1 in
    let there : c.loop-axis.axis < length c.args.region.now.start = omega (arith, c.loop-axis-test.true, ap length c.lengths-len-items.ensures.value, c.requires.sides) in
    record {
      axes = omega (arith, ap length c.in_ok-push.ensures.items, length_push c.loop-axis.last.items x, c.loop-axis.invariant.axes);
      each = last-pushed c.loop-axis.last.items c.push.new.self.items x k (λ a. get_or box.start a 0 + get_or box.lengths a 0) c.in_ok-push.ensures.items c.loop-axis.invariant.axes c.loop-axis.invariant.each
          (omega (arith, ap (λ xs. get_or xs k 0) c.starts-starts.ensures.value, ap (λ xs. get_or xs k 0) c.lengths-len-items.ensures.value, c.requires.filled k there));
    }
