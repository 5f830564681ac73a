use Rattle.std.proofs.Common.{arith, ◌≡◌, ◌<◌, ◌+◌, ◌-◌, ℕ, get_or, length, drop, ap, subst, ◌∙◌}
use Rattle.task_graph.specs.Orders.{ascending, with_key}
use Rattle.block_lowering.proofs.ListsKeys.{ascending-more}
use Rattle.block_lowering.proofs.lists.in_order.Goals as goal

pub loop-place-preserved : goal.loop-place-preserved
loop-place-preserved c =
    let k = c.loop-place.place - 1 in
    let s : c.loop-place.place ≡ k + 1 = omega arith in
    let h : k < length c.args.keys.now = omega (arith, c.loop-place.invariant.there) in
    let e : c.loop-place.list.items ≡ ascending (drop (k + 1) c.args.keys.now) = subst (λ (j : ℕ). c.loop-place.list.items ≡ ascending (drop j c.args.keys.now)) s c.loop-place.invariant.list in
    record {
      there = omega (arith, c.loop-place.invariant.there);
      list = c.in_ok-put_key.ensures ∙ ap (with_key (get_or c.args.keys.now k 0)) e ∙ ascending-more c.args.keys.now k h;
    }
