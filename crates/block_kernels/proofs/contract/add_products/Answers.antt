use Rattle.std.proofs.Common.{arith, rules, refl, subst, ◌≡◌, ◌+◌, ◌*◌, get_or, pos, w64}
use Rattle.std.proofs.lemmas.Int.{to_z-of_z}
use mir.Val.{SFits}
use Rattle.block_kernels.specs.Contracting.{AddsRow, AddsProducts}
use Rattle.block_kernels.proofs.Contracting.{products-none, products-more}
use Rattle.block_kernels.proofs.Totals.{part-room}
use Rattle.block_kernels.proofs.contract.add_products.Goals as goal

pub loop-p-init : goal.loop-p-init
loop-p-init c = record { room = refl; added = products-none _ _ _ _ _ _ }

pub overflow_mul-p : goal.overflow_mul-p
overflow_mul-p c = let b = part-room c.loop-p.p c.args.depth c.args.count _ c.loop-p-test.true c.requires.small in omega (arith, b)

pub add_row-requires-clause-cells : goal.add_row-requires-clause-cells
add_row-requires-clause-cells c = part-room c.loop-p.p c.args.depth c.args.count _ c.loop-p-test.true c.requires.right

pub loop-p-preserved : goal.loop-p-preserved
loop-p-preserved c =
    let factor : SFits w64 (get_or c.args.left.now (c.args.first + c.loop-p.p) (pos 0)) = search rules in
    record {
      room = omega (arith, c.add_row.auto.sums, c.loop-p.invariant.room);
      added = products-more c.args.place c.args.left.now c.args.first c.args.right.now c.loop-p.p c.args.count c.args.sums.now c.loop-p.sums c.add_row.new.sums c.loop-p.invariant.added
          (subst (λ x. AddsRow c.args.place x c.args.right.now (c.loop-p.p * c.args.count) c.args.count c.loop-p.sums c.add_row.new.sums) (to_z-of_z w64 (get_or c.args.left.now (c.args.first + c.loop-p.p) (pos 0)) factor) c.add_row.ensures);
    }

pub returns : goal.returns
returns c =
    let all : c.loop-p.p ≡ c.args.depth = omega arith in
    subst (λ n. AddsProducts c.args.place c.args.left.now c.args.first c.args.right.now n c.args.count c.args.sums.now c.loop-p.sums) all c.loop-p.invariant.added
