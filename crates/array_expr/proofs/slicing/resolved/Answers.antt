use Rattle.std.proofs.Common.{[], ◌∷◌, length, arith, ap, sym, subst, length-append}
use Rattle.array_expr.specs.Node.{TakesFirst}
use Rattle.array_expr.proofs.Parted.{part-refused, takes-more}
use Rattle.array_expr.proofs.slicing.resolved.Goals as goal

pub returns-in-Err-clause-err : goal.returns-in-Err-clause-err
returns-in-Err-clause-err c =
    part-refused c.args.dims.now c.args.parts.now c.loop-axis.taken.items c.loop-axis.axis c.in-Err.e c.loop-axis.invariant.count c.requires c.loop-axis.invariant.first
    (rw c.part_on-part.ensures at c.in-Err.ensures.err)

pub loop-axis-preserved : goal.loop-axis-preserved
loop-axis-preserved c = record {
  count = omega (arith, ap length c.in_ok-push-in-Ok.ensures.items, length-append c.loop-axis.taken.items (c.in-Ok.steps ∷ []), c.loop-axis.invariant.count);
  first = subst (TakesFirst c.args.dims.now c.args.parts.now) (sym c.in_ok-push-in-Ok.ensures.items)
      (takes-more c.args.dims.now c.args.parts.now c.loop-axis.taken.items c.loop-axis.axis c.in-Ok.steps c.loop-axis.invariant.count c.loop-axis.invariant.first (rw c.part_on-part.ensures at c.in-Ok.ensures.ok) c.in-Ok.ensures.inside);
}
