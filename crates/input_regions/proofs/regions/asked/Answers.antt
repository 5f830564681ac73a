use Rattle.std.proofs.Common.{◌∙◌, ap, arith, length, None, Option}
use Rattle.std.proofs.lemmas.List.{length_push}
use Rattle.nd_shape.specs.Region.{Box}
use Rattle.input_regions.specs.Needed.{region_at}
use Rattle.input_regions.proofs.Asked.{none-pushed, asked-pushed}
use Rattle.input_regions.proofs.regions.asked.Goals as goal

pub loop-k-preserved : goal.loop-k-preserved
loop-k-preserved c = record {
  count = omega (arith, ap length c.in_ok-push.ensures.items, length_push {X = Option Box} c.loop-k.needs.items None, c.loop-k.invariant.count);
  none = λ j. ap (λ xs. region_at xs j) c.in_ok-push.ensures.items ∙ none-pushed c.loop-k.needs.items j c.loop-k.invariant.none;
}

pub returns : goal.returns
returns c =
    asked-pushed c.loop-k.needs.items c.push-2.new.self.items c.filled.result c.args.count c.args.region.now c.in_ok-push-2.ensures.items
    (omega (arith, c.loop-k.invariant.count, c.loop-k-test.false, c.loop-k.auto._k-end, c.requires)) c.loop-k.invariant.none c.filled.ensures
