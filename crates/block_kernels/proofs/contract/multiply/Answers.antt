use Rattle.std.proofs.Common.{arith, refl, subst, ◌≡◌, ◌*◌}
use Rattle.block_kernels.specs.Contracting.{IsProduct}
use Rattle.block_kernels.proofs.Contracting.{all-zeros, multiplied-none, multiplied-more}
use Rattle.block_kernels.proofs.Totals.{part-room}
use Rattle.block_kernels.proofs.contract.multiply.Goals as goal

pub loop-i-init : goal.loop-i-init
loop-i-init c = record { room = refl; rows = multiplied-none c.args.left.now c.args.right.now c.args.depth c.args.count c.args.cells.now (all-zeros c.args.cells.now (c.args.height * c.args.count) c.requires.room c.requires.zeros) }

pub overflow_mul-i : goal.overflow_mul-i
overflow_mul-i c = let b = part-room c.loop-i.i c.args.height c.args.count _ c.loop-i-test.true c.requires.small in omega (arith, b)

pub overflow_mul-i-in-loop-i : goal.overflow_mul-i-in-loop-i
overflow_mul-i-in-loop-i c = let b = part-room c.loop-i.i c.args.height c.args.depth _ c.loop-i-test.true c.requires.left_small in omega (arith, b)

pub add_products-requires-clause-room : goal.add_products-requires-clause-room
add_products-requires-clause-room c = let b = part-room c.loop-i.i c.args.height c.args.count (c.args.height * c.args.count) c.loop-i-test.true (omega arith) in omega (arith, b, c.requires.room, c.loop-i.invariant.room)

pub add_products-requires-clause-left : goal.add_products-requires-clause-left
add_products-requires-clause-left c = part-room c.loop-i.i c.args.height c.args.depth _ c.loop-i-test.true c.requires.left

pub loop-i-preserved : goal.loop-i-preserved
loop-i-preserved c = record {
  room = omega (arith, c.add_products.auto.sums, c.loop-i.invariant.room);
  rows = multiplied-more c.args.left.now c.args.right.now c.loop-i.i c.args.depth c.args.count c.loop-i.cells c.add_products.new.sums c.loop-i.invariant.rows c.add_products.ensures;
}

pub returns : goal.returns
returns c =
    let all : c.loop-i.i ≡ c.args.height = omega arith in
    subst (λ n. IsProduct c.args.left.now c.args.right.now n c.args.depth c.args.count c.loop-i.cells) all c.loop-i.invariant.rows.done
