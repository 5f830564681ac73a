use Rattle.std.proofs.Common.{◌+◌, ◌-◌, ap, arith, get_or, length, min, max}
use Rattle.std.proofs.lemmas.List.{length_push}
use Rattle.input_regions.proofs.Least.{pushed-at, pushed-sum}
use Rattle.input_regions.proofs.boxes.stretched.Goals as goal

pub loop-axis-preserved : goal.loop-axis-preserved
loop-axis-preserved c =
    let old = c.args.region.now in
    let i = c.args.index.now in
    let k = c.loop-axis.axis in
    let least = rw c.starts-starts.ensures.value at c.min-start.ensures in
    let greatest = rw (c.starts-starts.ensures.value, c.lengths-lengths.ensures.value) at c.max-end.ensures in
    record {
      starts = omega (arith, ap length c.push.ensures.starts, length_push c.loop-axis.wider.start c.min-start.result, c.loop-axis.invariant.starts);
      lengths = omega (arith, ap length c.push.ensures.lengths, length_push c.loop-axis.wider.lengths (c.max-end.result - c.min-start.result), c.loop-axis.invariant.lengths);
      start = pushed-at c.loop-axis.wider.start c.push.new.self.start c.min-start.result k (λ a. min (get_or old.start a 0) (get_or i a 0)) c.push.ensures.starts c.loop-axis.invariant.starts c.loop-axis.invariant.start least;
      end = pushed-sum c.loop-axis.wider.start c.push.new.self.start c.loop-axis.wider.lengths c.push.new.self.lengths c.min-start.result (c.max-end.result - c.min-start.result) k (λ a. max (get_or old.start a 0 + get_or old.lengths a 0) (get_or i a 0 + 1))
          c.push.ensures.starts c.push.ensures.lengths c.loop-axis.invariant.starts c.loop-axis.invariant.lengths c.loop-axis.invariant.end (omega (arith, least, greatest));
    }
