use Rattle.std.proofs.Common.{rules, ap, ◌∙◌, ◌+◌, get_or, pos, w64, to_z, of_z}
use Rattle.std.proofs.lemmas.Int.{to_z-of_z}
use mir.Val.{SFits}
use Rattle.nd_grid.specs.Operation.{fold_two}
use Rattle.block_kernels.proofs.Totals.{line-more}
use Rattle.block_kernels.proofs.reduce.fold_line.Goals as goal

pub loop-q-preserved : goal.loop-q-preserved
loop-q-preserved g c =
    let fits : SFits w64 c.two-all.result = record { sfits = c.two-all.type_inv } in
    let cell : SFits w64 (get_or c.args.cells.now (c.args.from + c.loop-q.q) (pos 0)) = search rules in
    line-more (g.F.Folding.fold c.args.folding.now) (to_z w64 (of_z w64 c.args.total)) c.args.cells.now c.args.from c.loop-q.q (to_z w64 c.loop-q.all-bits) (to_z w64 (of_z w64 c.two-all.result)) c.loop-q.invariant
    (to_z-of_z w64 c.two-all.result fits ∙ c.two-all.ensures
    ∙ ap (fold_two (g.F.Folding.fold c.args.folding.now) (to_z w64 c.loop-q.all-bits)) (to_z-of_z w64 (get_or c.args.cells.now (c.args.from + c.loop-q.q) (pos 0)) cell))
