use Rattle.std.proofs.Common.{◌≡◌, ◌+◌, ◌*◌, ◌≤◌, get_or, arith, ap, sym, subst, ◌∙◌}
use Rattle.nd_shape.specs.Shape.{elements}
use Rattle.nd_rows.specs.Storage.{IsRow}
use Rattle.nd_rows.proofs.Spots.{walk_to, longer_row, new_row, longer_fits, all_axes}
use Rattle.nd_rows.proofs.walk.row_of.Goals as goal
use Rattle.nd_rows.proofs.walk.row_of.Goals.{then-lengths-axis, else-lengths-axis}

pub overflow_mul-row : goal.overflow_mul-row
overflow_mul-row c =
    let k = c.loop-axis.axis in
    let e : get_or c.args.region.now.lengths k 0 ≡ get_or c.args.dims.now k 0 = ap (λ xs. get_or xs k 0) (sym c.lengths-lengths.ensures.value) ∙ c.if-lengths-axis.true in
    let f : c.loop-axis.row * get_or c.args.dims.now k 0 ≤ elements c.args.region.now.lengths =
    longer_fits c.args.dims.now c.args.region.now.start c.args.region.now.lengths k c.loop-axis.row c.requires.part c.loop-axis-test.true c.requires.some e c.loop-axis.invariant in
    omega (arith, f)

pub loop-axis-preserved : goal.loop-axis-preserved
loop-axis-preserved c =
    let k = c.loop-axis.axis in
    let D = c.args.dims.now in
    let S = c.args.region.now.start in
    let L = c.args.region.now.lengths in
    let v : get_or c.lengths-lengths.result.now k 0 ≡ get_or L k 0 = ap (λ xs. get_or xs k 0) c.lengths-lengths.ensures.value in
    elim c.if-lengths-axis.branch [
      | then-lengths-axis w ↦ subst (IsRow (walk_to (k + 1) D S L)) (sym w.row-is) (longer_row D S L k c.loop-axis.row c.requires.part c.loop-axis-test.true c.requires.some (sym v ∙ w.if-lengths-axis.true) c.loop-axis.invariant)
      | else-lengths-axis w ↦ subst (IsRow (walk_to (k + 1) D S L)) (sym (w.row-is ∙ v)) (new_row D S L k c.requires.part c.loop-axis-test.true c.requires.some (λ e. w.if-lengths-axis.false (v ∙ e)))
    ]

pub returns : goal.returns
returns c = all_axes c.args.dims.now c.args.region.now.start c.args.region.now.lengths c.loop-axis.axis c.loop-axis.row c.requires.part (omega arith) c.loop-axis.invariant
