use Rattle.std.proofs.Common.{arith, ◌≡◌, ◌<◌, ◌+◌, ◌-◌, ◌++◌, ℕ, [], take, drop, length, get_or, subst, sym}
use Rattle.std.proofs.lemmas.List.{get_or_read}
use Rattle.nd_shape.specs.Index.{IsIn, index_at}
use Rattle.nd_shape.proofs.Places.{index_at-in}
use Rattle.chunk_layout.specs.Layouts.{counts, blocks}
use Rattle.chunk_layout.proofs.Numbering.{digit-more}
use Rattle.chunk_layout.proofs.layout.numbers_at.Goals as goal

pub loop-axis-preserved : goal.loop-axis-preserved
loop-axis-preserved c =
    let k = c.loop-axis.axis - 1 in
    let s : c.loop-axis.axis ≡ k + 1 = omega arith in
    let h : k < length c.args.axes.now = omega (arith, c.loop-axis.invariant.there) in
    let g : k < length c.loop-axis.numbers = omega (arith, c.loop-axis.invariant.there, c.requires.axes, c.loop-axis.auto.numbers) in
    let e : c.index-axes-axis.result ≡ get_or c.args.axes.now k [] = get_or_read c.args.axes.now k c.index-axes-axis.result h c.index-axes-axis.is [] in
    let n : c.count-count.result ≡ length (get_or c.args.axes.now k []) = rw (← e) c.count-count.ensures.count in
    let d = digit-more c.args.axes.now c.loop-axis.numbers (index_at (counts c.args.axes.now) c.args.block) k c.loop-axis.left h g
    (subst (λ (j : ℕ). c.loop-axis.left < blocks (take j c.args.axes.now)) s c.loop-axis.invariant.inside)
    (subst (λ (j : ℕ). index_at (counts (take j c.args.axes.now)) c.loop-axis.left ++ drop j c.loop-axis.numbers ≡ index_at (counts c.args.axes.now) c.args.block) s c.loop-axis.invariant.value) in
    record { there = omega (arith, c.loop-axis.invariant.there); inside = rw n d.inside; value = rw n d.value }

pub returns-clause-inside : goal.returns-clause-inside
returns-clause-inside c =
    let z : c.loop-axis.axis ≡ 0 = omega arith in
    let e : c.loop-axis.numbers ≡ index_at (counts c.args.axes.now) c.args.block =
    subst (λ (j : ℕ). index_at (counts (take j c.args.axes.now)) c.loop-axis.left ++ drop j c.loop-axis.numbers ≡ index_at (counts c.args.axes.now) c.args.block) z c.loop-axis.invariant.value in
    subst (IsIn (counts c.args.axes.now)) (sym e) (index_at-in (counts c.args.axes.now) c.args.block c.requires.block)
