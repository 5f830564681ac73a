use Rattle.std.proofs.Common.{◌≡◌, ◌+◌, [], ℕ, length, get_or, ap, subst, ◌∙◌}
use Rattle.std.proofs.lemmas.List.{get_or_read, length_push}
use Rattle.nd_shape.specs.declared.slice.Steps.{Steps}
use Rattle.nd_shape.specs.Chunk.{total}
use Rattle.chunk_layout.specs.Slicing.{TakesOf}
use Rattle.chunk_layout.proofs.Taking.{takes-push}
use Rattle.block_table.proofs.layouts.parts.Goals as goal

pub loop-cuts-preserved : goal.loop-cuts-preserved
loop-cuts-preserved c =
    let s : Steps = c.in_ok-part.field-0 in
    let x : c.cuts-item.result ≡ get_or c.args.axes.now c.loop-cuts.cuts-index [] = get_or_read c.args.axes.now c.loop-cuts.cuts-index c.cuts-item.result c.loop-cuts-test.true c.cuts-item.is [] in
    let t : TakesOf (total (get_or c.args.axes.now c.loop-cuts.cuts-index [])) s = subst (λ (n : ℕ). TakesOf n s) (ap total x) c.in_ok-part.ensures in
    record {
      count = ap length c.in_ok-push.ensures.items ∙ length_push c.loop-cuts.list.items s ∙ ap (λ (n : ℕ). n + 1) c.loop-cuts.invariant.count;
      each = rw c.in_ok-push.ensures.items (takes-push c.args.axes.now c.loop-cuts.list.items c.loop-cuts.cuts-index s c.loop-cuts.invariant.count t c.loop-cuts.invariant.each);
    }
