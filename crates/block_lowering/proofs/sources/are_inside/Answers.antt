use Rattle.std.proofs.Common.{arith, refl, ◌≡◌, ◌<◌, [], length, get_or, sym, ◌∙◌}
use Rattle.std.proofs.lemmas.List.{get_or_read}
use Rattle.nd_shape.proofs.Axes.{IsIn-at, IsIn-from}
use Rattle.nd_shape.proofs.Places.{IsIn-length}
use Rattle.chunk_layout.specs.Layouts.{counts}
use Rattle.block_lowering.proofs.SourcesSteps.{counts-length, counts-at}
use Rattle.block_lowering.proofs.sources.are_inside.Goals as goal

pub returns-then-axes-numbers : goal.returns-then-axes-numbers
returns-then-axes-numbers c = (λ h. cc, λ h. absurd (c.if-axes-numbers.true (sym (counts-length c.args.axes.now) ∙ sym (IsIn-length (counts c.args.axes.now) c.args.numbers.now h))))

pub returns-then-numbers-axis : goal.returns-then-numbers-axis
returns-then-numbers-axis c =
    let k = c.loop-axis.axis in
    let e : c.index-axes-axis.result ≡ get_or c.args.axes.now k [] = get_or_read c.args.axes.now k c.index-axes-axis.result c.loop-axis-test.true c.index-axes-axis.is [] in
    let n : c.count.result ≡ length (get_or c.args.axes.now k []) = rw (← e) c.count.ensures.count in
    let m : c.count.result ≡ get_or (counts c.args.axes.now) k 0 = counts-at c.args.axes.now k c.count.result c.loop-axis-test.true n in (
      λ h. cc,
      λ h.
          let b : get_or c.args.numbers.now k 0 < get_or (counts c.args.axes.now) k 0 = IsIn-at (counts c.args.axes.now) c.args.numbers.now k h (omega (arith, counts-length c.args.axes.now)) in
          absurd (omega arith),
    )

pub returns : goal.returns
returns c = (
  λ h. IsIn-from (counts c.args.axes.now) c.args.numbers.now (omega (arith, counts-length c.args.axes.now)) (λ k b. c.loop-axis.invariant k (omega (arith, counts-length c.args.axes.now))),
  λ h. refl,
)
