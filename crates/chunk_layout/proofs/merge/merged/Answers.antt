use Rattle.std.proofs.Common.{arith, ◌<◌, ◌≤◌, ◌+◌, ◌-◌, ◌^◌, ℕ, ap, ◌∙◌, cond}
use Rattle.std.specs.Prelude.{nat_eq}
use Rattle.nd_shape.specs.Chunk.{total}
use Rattle.chunk_layout.proofs.Merging.{merge-end, merged-more, merged-end}
use Rattle.chunk_layout.proofs.merge.merged.Goals as goal

pub overflow_sub-end : goal.overflow_sub-end
overflow_sub-end c =
    let lt : c.loop-at.at < total c.args.a.now = omega (arith, c.loop-at-test.true, c.len-len.ensures) in
    let m = merge-end c.args.a.now c.args.b.now c.starts-left.result.now c.starts-right.result.now c.loop-at.sizes.items c.loop-at.i c.loop-at.j c.loop-at.at c.min-end.result
    c.starts-left.ensures.starts c.starts-right.ensures.starts c.requires.same c.loop-at.invariant.here lt c.min-end.ensures in
    let p : c.loop-at.at < c.min-end.result = m.past in
    omega arith

pub overflow_cast-end : goal.overflow_cast-end
overflow_cast-end c =
    let lt : c.loop-at.at < total c.args.a.now = omega (arith, c.loop-at-test.true, c.len-len.ensures) in
    let m = merge-end c.args.a.now c.args.b.now c.starts-left.result.now c.starts-right.result.now c.loop-at.sizes.items c.loop-at.i c.loop-at.j c.loop-at.at c.min-end.result
    c.starts-left.ensures.starts c.starts-right.ensures.starts c.requires.same c.loop-at.invariant.here lt c.min-end.ensures in
    let t : c.min-end.result ≤ total c.args.a.now = m.top in
    let s : total c.args.a.now ≤ 2 ^ 31 = c.starts-left.ensures.cut.small in
    omega arith

pub loop-at-smaller : goal.loop-at-smaller
loop-at-smaller c =
    let lt : c.loop-at.at < total c.args.a.now = omega (arith, c.loop-at-test.true, c.len-len.ensures) in
    let m = merge-end c.args.a.now c.args.b.now c.starts-left.result.now c.starts-right.result.now c.loop-at.sizes.items c.loop-at.i c.loop-at.j c.loop-at.at c.min-end.result
    c.starts-left.ensures.starts c.starts-right.ensures.starts c.requires.same c.loop-at.invariant.here lt c.min-end.ensures in
    let p : c.loop-at.at < c.min-end.result = m.past in
    let l : c.loop-at.at < c.len-len.result = c.loop-at-test.true in
    let q : c.len-len.result - c.min-end.result < c.len-len.result - c.loop-at.at = omega arith in
    q

pub loop-at-preserved : goal.loop-at-preserved
loop-at-preserved c =
    let lt : c.loop-at.at < total c.args.a.now = omega (arith, c.loop-at-test.true, c.len-len.ensures) in
    let m = merge-end c.args.a.now c.args.b.now c.starts-left.result.now c.starts-right.result.now c.loop-at.sizes.items c.loop-at.i c.loop-at.j c.loop-at.at c.min-end.result
    c.starts-left.ensures.starts c.starts-right.ensures.starts c.requires.same c.loop-at.invariant.here lt c.min-end.ensures in
    record {
      left_some = c.loop-at.invariant.left_some;
      right_some = c.loop-at.invariant.right_some;
      here = rw c.in_ok-push.ensures.items (merged-more c.args.a.now c.args.b.now c.loop-at.sizes.items c.loop-at.i c.loop-at.j c.loop-at.at c.min-end.result
          (c.loop-at.i + c.passed-i.result) (c.loop-at.j + c.passed-j.result) c.loop-at.invariant.left_some c.loop-at.invariant.right_some c.requires.same c.loop-at.invariant.here lt m.end_is
          (ap (λ (k : ℕ). c.loop-at.i + k) (c.passed-i.ensures ∙ ap (λ (x : ℕ). cond {A = ℕ} (nat_eq x c.min-end.result) 1 0) m.left_is))
          (ap (λ (k : ℕ). c.loop-at.j + k) (c.passed-j.ensures ∙ ap (λ (x : ℕ). cond {A = ℕ} (nat_eq x c.min-end.result) 1 0) m.right_is)));
    }

pub returns : goal.returns
returns c =
    merged-end c.args.a.now c.args.b.now c.loop-at.sizes.items c.loop-at.i c.loop-at.j c.loop-at.at c.loop-at.invariant.here (omega (arith, c.loop-at-test.false, c.len-len.ensures))
