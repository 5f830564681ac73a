use Rattle.std.proofs.Common.{arith, rules, w64, ◌≡◌, length, ap, sym, ◌∙◌, List, ℕ, [], ◌∷◌, ◌≤◌}
use Rattle.std.proofs.lemmas.List.{length-take-le}
use Rattle.std.proofs.lemmas.Int.{to_z-of_z}
use mir.Val.{SFits}
use Rattle.nd_shape.specs.Shape.{elements}
use Rattle.nd_grid.proofs.Cells.{cells-none, cells-more, cells-missing}
use Rattle.nd_grid.proofs.formula.cells_of.Goals as goal

pub loop-position-init : goal.loop-position-init
loop-position-init g c = record {
  axes =
      let room : List ℕ = 0 ∷ 0 ∷ 0 ∷ 0 ∷ 0 ∷ 0 ∷ 0 ∷ 0 ∷ [] in
      let same : length c.dims.result.now ≡ length c.args.shape.now = ap length c.dims.ensures.dims in
      let few : length c.dims.result.now ≤ 8 = omega (arith, same, c.dims.ensures.limits.axes) in
      length-take-le (length c.dims.result.now) room few ∙ same;
  cells = rw c.new-cells.ensures.items (cells-none _);
}

pub returns-in-None-clause-err : goal.returns-in-None-clause-err
returns-in-None-clause-err g c =
    cells-missing _ c.loop-position.position c.loop-position.cells.items (elements c.args.shape.now) c.loop-position.invariant.cells (sym c.cell_at.ensures ∙ c.in-None.is) (omega (arith, c.elements-position-end.ensures))

pub loop-position-preserved : goal.loop-position-preserved
loop-position-preserved g c =
    let fits : SFits w64 c.in-Some.x = search rules in
    record {
      axes = omega (arith, c.cell_at.auto.index, c.loop-position.invariant.axes);
      cells = rw (c.in_ok-push-in-Some.ensures.items, to_z-of_z w64 c.in-Some.x fits) (cells-more _ c.loop-position.position c.loop-position.cells.items c.in-Some.x c.loop-position.invariant.cells (sym c.cell_at.ensures ∙ c.in-Some.is));
    }
