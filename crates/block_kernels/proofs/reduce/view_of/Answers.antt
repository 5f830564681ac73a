use Rattle.std.proofs.Common.{arith, subst, ◌≡◌, ◌-◌, drop}
use Rattle.block_kernels.specs.Viewing.{IsView}
use Rattle.block_kernels.proofs.Viewing.{view-start, view-bounds, view-step}
use Rattle.block_kernels.proofs.reduce.view_of.Goals as goal

pub loop-axis-init : goal.loop-axis-init
loop-axis-init c = record { inside = omega arith; seen = view-start c.args.dims.now c.args.axes.now }

pub extended-requires-clause-small : goal.extended-requires-clause-small
extended-requires-clause-small c =
    (view-bounds c.args.dims.now c.args.axes.now (c.loop-axis.axis - 1) c.loop-axis.axis c.loop-axis.view.outer c.loop-axis.view.rows c.loop-axis.view.inner (omega arith) c.loop-axis.invariant.inside c.requires.small c.requires.some c.loop-axis.invariant.seen).small

pub extended-requires-clause-some : goal.extended-requires-clause-some
extended-requires-clause-some c =
    (view-bounds c.args.dims.now c.args.axes.now (c.loop-axis.axis - 1) c.loop-axis.axis c.loop-axis.view.outer c.loop-axis.view.rows c.loop-axis.view.inner (omega arith) c.loop-axis.invariant.inside c.requires.small c.requires.some c.loop-axis.invariant.seen).some

pub loop-axis-preserved : goal.loop-axis-preserved
loop-axis-preserved c = record {
  inside = omega arith;
  seen = view-step c.args.dims.now c.args.axes.now (c.loop-axis.axis - 1) c.loop-axis.axis c.is_in_list-gone.result c.loop-axis.view.outer c.loop-axis.view.rows c.loop-axis.view.inner c.in-Some.next.outer c.in-Some.next.rows c.in-Some.next.inner
      (omega arith) c.loop-axis.invariant.inside c.is_in_list-gone.ensures c.in-Some.ensures c.loop-axis.invariant.seen;
}

pub returns : goal.returns
returns c =
    let none : c.loop-axis.axis ≡ 0 = omega arith in
    subst (λ k. IsView k (drop k c.args.dims.now) c.args.axes.now c.loop-axis.view.outer c.loop-axis.view.rows c.loop-axis.view.inner) none c.loop-axis.invariant.seen
