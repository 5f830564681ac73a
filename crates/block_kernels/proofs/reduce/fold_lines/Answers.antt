use Rattle.std.proofs.Common.{arith, rules, refl, length, ◌∙◌, ◌<◌, ◌≡◌, ◌+◌, ◌*◌, length-set, set, map, get_or, pos, w64, to_z, of_z, sym, ap, Some}
use Rattle.std.specs.List.{range_with_len}
use Rattle.nd_grid.specs.Operation.{folded_from}
use Rattle.std.proofs.lemmas.Int.{to_z-of_z}
use mir.Val.{SFits}
use Rattle.block_kernels.proofs.Totals.{parts-none, parts-more, view-end, line-cells, line-total, line-row}
use Rattle.block_kernels.proofs.reduce.fold_lines.Goals as goal

pub loop-part-init : goal.loop-part-init
loop-part-init g c = record { room = refl; parts = parts-none _ _ _ _ _ }

pub overflow_mul-part : goal.overflow_mul-part
overflow_mul-part g c = let b = line-cells c.loop-part.part c.args.view.outer c.args.view.rows c.args.view.inner _ c.requires.line c.loop-part-test.true c.requires.small in omega (arith, b)

pub offset_bounds-totals-part : goal.offset_bounds-totals-part
offset_bounds-totals-part g c = let b = line-total c.loop-part.part c.args.view.outer c.args.view.inner _ c.requires.line c.loop-part-test.true c.requires.few in omega (arith, b)

pub slice_copy_out-fold_line : goal.slice_copy_out-fold_line
slice_copy_out-fold_line g c = let b = line-total c.loop-part.part c.args.view.outer c.args.view.inner _ c.requires.line c.loop-part-test.true c.requires.room in omega (arith, b, c.loop-part.invariant.room)

pub fold_line-requires : goal.fold_line-requires
fold_line-requires g c = line-cells c.loop-part.part c.args.view.outer c.args.view.rows c.args.view.inner _ c.requires.line c.loop-part-test.true c.requires.cells

pub offset_bounds-totals-part-in-loop-part : goal.offset_bounds-totals-part-in-loop-part
offset_bounds-totals-part-in-loop-part g c = let b = line-total c.loop-part.part c.args.view.outer c.args.view.inner _ c.requires.line c.loop-part-test.true c.requires.few in omega (arith, b)

pub bounds-totals-part : goal.bounds-totals-part
bounds-totals-part g c = let b = line-total c.loop-part.part c.args.view.outer c.args.view.inner _ c.requires.line c.loop-part-test.true c.requires.room in omega (arith, b, c.loop-part.invariant.room)

pub loop-part-preserved : goal.loop-part-preserved
loop-part-preserved g c =
    let fits : SFits w64 c.fold_line.result = record { sfits = c.fold_line.type_inv } in
    let was : SFits w64 (get_or c.loop-part.totals c.loop-part.part (pos 0)) = search rules in
    let inside : c.loop-part.part < length c.loop-part.totals =
    (let b = line-total c.loop-part.part c.args.view.outer c.args.view.inner _ c.requires.line c.loop-part-test.true c.requires.room in omega (arith, b, c.loop-part.invariant.room)) in
    let line : folded_from (g.F.Folding.fold c.args.folding.now) (Some (get_or c.loop-part.totals c.loop-part.part (pos 0))) (map (λ q. Some (get_or c.args.cells.now (c.loop-part.part * c.args.view.rows + q) (pos 0))) (range_with_len 0 c.args.view.rows))
    ≡ Some (to_z w64 (of_z w64 c.fold_line.result)) =
    ap (λ x. folded_from (g.F.Folding.fold c.args.folding.now) (Some x) (map (λ q. Some (get_or c.args.cells.now (c.loop-part.part * c.args.view.rows + q) (pos 0))) (range_with_len 0 c.args.view.rows))) (sym (to_z-of_z w64 (get_or c.loop-part.totals c.loop-part.part (pos 0)) was))
    ∙ c.fold_line.ensures
    ∙ ap Some (sym (to_z-of_z w64 c.fold_line.result fits)) in
    record {
      room = length-set c.loop-part.totals c.loop-part.part (to_z w64 (of_z w64 c.fold_line.result)) ∙ c.loop-part.invariant.room;
      parts = parts-more (g.F.Folding.fold c.args.folding.now) c.args.cells.now c.loop-part.part c.args.view.rows c.args.view.inner c.args.totals.now c.loop-part.totals
          (set c.loop-part.totals c.loop-part.part (to_z w64 (of_z w64 c.fold_line.result))) c.loop-part.invariant.parts.taken c.loop-part.invariant.parts.later
          (line-row (g.F.Folding.fold c.args.folding.now) c.loop-part.part c.args.view.rows c.args.cells.now c.loop-part.totals c.args.view.inner (to_z w64 (of_z w64 c.fold_line.result)) c.requires.line inside line);
    }

pub returns : goal.returns
returns g c = view-end _ c.args.cells.now c.loop-part.part c.args.view.outer c.args.view.rows c.args.view.inner c.args.totals.now c.loop-part.totals c.loop-part-test.false c.loop-part.invariant.parts
