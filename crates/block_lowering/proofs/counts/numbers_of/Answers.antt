use Rattle.std.proofs.Common.{arith, ◌≡◌, ◌++◌, ℕ, take, drop, subst, sym}
use Rattle.nd_shape.specs.Index.{IsIn, index_at}
use Rattle.nd_shape.proofs.Places.{index_at-in}
use Rattle.block_lowering.proofs.CountsSteps.{digit-back}
use Rattle.block_lowering.proofs.counts.numbers_of.Goals as goal

pub nonzero_rem-numbers : goal.nonzero_rem-numbers
nonzero_rem-numbers c =
    (digit-back c.args.counts.now c.loop-axis.numbers (index_at c.args.counts.now c.args.place) c.loop-axis.axis c.loop-axis.left (omega arith) c.loop-axis.invariant.there (omega (arith, c.requires.axes, c.loop-axis.auto.numbers)) c.loop-axis.invariant.inside c.loop-axis.invariant.value).some

pub nonzero_div-left : goal.nonzero_div-left
nonzero_div-left c =
    (digit-back c.args.counts.now c.loop-axis.numbers (index_at c.args.counts.now c.args.place) c.loop-axis.axis c.loop-axis.left (omega arith) c.loop-axis.invariant.there (omega (arith, c.requires.axes, c.loop-axis.auto.numbers)) c.loop-axis.invariant.inside c.loop-axis.invariant.value).some

pub loop-axis-preserved : goal.loop-axis-preserved
loop-axis-preserved c =
    let d =
    digit-back c.args.counts.now c.loop-axis.numbers (index_at c.args.counts.now c.args.place) c.loop-axis.axis c.loop-axis.left (omega arith) c.loop-axis.invariant.there (omega (arith, c.requires.axes, c.loop-axis.auto.numbers)) c.loop-axis.invariant.inside c.loop-axis.invariant.value in
    record { there = omega (arith, c.loop-axis.invariant.there); inside = d.inside; value = d.value }

pub returns-clause-inside : goal.returns-clause-inside
returns-clause-inside c =
    let z : c.loop-axis.axis ≡ 0 = omega arith in
    let e : c.loop-axis.numbers ≡ index_at c.args.counts.now c.args.place =
    subst (λ (j : ℕ). index_at (take j c.args.counts.now) c.loop-axis.left ++ drop j c.loop-axis.numbers ≡ index_at c.args.counts.now c.args.place) z c.loop-axis.invariant.value in
    subst (IsIn c.args.counts.now) (sym e) (index_at-in c.args.counts.now c.args.place c.requires.place)
