use Rattle.std.proofs.Common.{arith, rules, refl, ap, subst, ◌≡◌, ◌∙◌, ◌+◌, ◌*ℤ◌, length-set, get_or, pos, w64, to_z, of_z}
use Rattle.std.proofs.lemmas.Int.{to_z-of_z}
use mir.Val.{SFits}
use Rattle.nd_grid.specs.Int64.{wrap}
use Rattle.nd_grid.specs.declared.operation.Fold.TheVariants.{Sum}
use Rattle.nd_grid.specs.Operation.{fold_two}
use Rattle.block_kernels.specs.Contracting.{AddsRow}
use Rattle.block_kernels.proofs.Contracting.{add-none, add-more}
use Rattle.block_kernels.proofs.contract.add_row.Goals as goal

pub loop-j-init : goal.loop-j-init
loop-j-init c = record { room = refl; added = add-none _ _ _ _ _ }

pub loop-j-preserved : goal.loop-j-preserved
loop-j-preserved c =
    let fits : SFits w64 c.plus.result = record { sfits = c.plus.type_inv } in
    let product : SFits w64 c.times.result = record { sfits = c.times.type_inv } in
    let first : SFits w64 (get_or c.loop-j.sums (c.args.place + c.loop-j.j) (pos 0)) = search rules in
    let second : SFits w64 (get_or c.args.cells.now (c.args.from + c.loop-j.j) (pos 0)) = search rules in
    let value : to_z w64 (of_z w64 c.plus.result) ≡ fold_two Sum (get_or c.loop-j.sums (c.args.place + c.loop-j.j) (pos 0)) (wrap (to_z w64 (of_z w64 c.args.factor) *ℤ get_or c.args.cells.now (c.args.from + c.loop-j.j) (pos 0))) =
    to_z-of_z w64 c.plus.result fits ∙ c.plus.ensures
    ∙ ap (λ x. fold_two Sum x (to_z w64 (of_z w64 c.times.result))) (to_z-of_z w64 (get_or c.loop-j.sums (c.args.place + c.loop-j.j) (pos 0)) first)
    ∙ ap (fold_two Sum (get_or c.loop-j.sums (c.args.place + c.loop-j.j) (pos 0)))
    (to_z-of_z w64 c.times.result product ∙ c.times.ensures ∙ ap (λ x. wrap (to_z w64 (of_z w64 c.args.factor) *ℤ x)) (to_z-of_z w64 (get_or c.args.cells.now (c.args.from + c.loop-j.j) (pos 0)) second)) in
    record {
      room = length-set c.loop-j.sums (c.args.place + c.loop-j.j) (to_z w64 (of_z w64 c.plus.result)) ∙ c.loop-j.invariant.room;
      added = add-more c.args.place (to_z w64 (of_z w64 c.args.factor)) c.args.cells.now c.args.from c.loop-j.j c.args.sums.now c.loop-j.sums (to_z w64 (of_z w64 c.plus.result)) (omega (arith, c.loop-j.invariant.room)) c.loop-j.invariant.added value;
    }

pub returns : goal.returns
returns c =
    let all : c.loop-j.j ≡ c.args.count = omega arith in
    subst (λ x. AddsRow c.args.place x c.args.cells.now c.args.from c.args.count c.args.sums.now c.loop-j.sums) (to_z-of_z w64 c.args.factor c.ranges.factor)
    (subst (λ n. AddsRow c.args.place (to_z w64 (of_z w64 c.args.factor)) c.args.cells.now c.args.from n c.args.sums.now c.loop-j.sums) all c.loop-j.invariant.added)
