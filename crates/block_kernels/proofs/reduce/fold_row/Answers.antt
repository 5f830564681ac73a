use Rattle.std.proofs.Common.{arith, rules, refl, ap, subst, ◌≡◌, ◌∙◌, ◌+◌, length-set, get_or, pos, w64, to_z, of_z}
use Rattle.std.proofs.lemmas.Int.{to_z-of_z}
use mir.Val.{SFits}
use Rattle.nd_grid.specs.Operation.{fold_two}
use Rattle.block_kernels.specs.Reducing.{TakesRow}
use Rattle.block_kernels.proofs.Totals.{row-none, row-more}
use Rattle.block_kernels.proofs.reduce.fold_row.Goals as goal

pub loop-i-init : goal.loop-i-init
loop-i-init g c = record { room = refl; taken = row-none _ _ _ _ _ }

pub loop-i-preserved : goal.loop-i-preserved
loop-i-preserved g c =
    let fits : SFits w64 c.two.result = record { sfits = c.two.type_inv } in
    let first : SFits w64 (get_or c.loop-i.totals (c.args.place + c.loop-i.i) (pos 0)) = search rules in
    let second : SFits w64 (get_or c.args.cells.now (c.args.from + c.loop-i.i) (pos 0)) = search rules in
    let value : to_z w64 (of_z w64 c.two.result) ≡ fold_two (g.F.Folding.fold c.args.folding.now) (get_or c.loop-i.totals (c.args.place + c.loop-i.i) (pos 0)) (get_or c.args.cells.now (c.args.from + c.loop-i.i) (pos 0)) =
    to_z-of_z w64 c.two.result fits ∙ c.two.ensures
    ∙ ap (λ x. fold_two (g.F.Folding.fold c.args.folding.now) x (to_z w64 (of_z w64 (get_or c.args.cells.now (c.args.from + c.loop-i.i) (pos 0))))) (to_z-of_z w64 (get_or c.loop-i.totals (c.args.place + c.loop-i.i) (pos 0)) first)
    ∙ ap (fold_two (g.F.Folding.fold c.args.folding.now) (get_or c.loop-i.totals (c.args.place + c.loop-i.i) (pos 0))) (to_z-of_z w64 (get_or c.args.cells.now (c.args.from + c.loop-i.i) (pos 0)) second) in
    record {
      room = length-set c.loop-i.totals (c.args.place + c.loop-i.i) (to_z w64 (of_z w64 c.two.result)) ∙ c.loop-i.invariant.room;
      taken = row-more (g.F.Folding.fold c.args.folding.now) c.args.place c.args.cells.now c.args.from c.loop-i.i c.args.totals.now c.loop-i.totals (to_z w64 (of_z w64 c.two.result)) (omega (arith, c.loop-i.invariant.room)) c.loop-i.invariant.taken value;
    }

pub returns : goal.returns
returns g c =
    let all : c.loop-i.i ≡ c.args.count = omega arith in
    subst (λ n. TakesRow (g.F.Folding.fold c.args.folding.now) c.args.place c.args.cells.now c.args.from n c.args.totals.now c.loop-i.totals) all c.loop-i.invariant.taken
