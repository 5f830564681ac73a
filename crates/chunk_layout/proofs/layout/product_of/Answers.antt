use Rattle.std.proofs.Common.{◌≡◌, ◌-◌, ◌^◌, [], get_or, length}
use Rattle.std.proofs.lemmas.List.{get_or_read}
use Rattle.chunk_layout.proofs.Numbering.{product-more}
use Rattle.chunk_layout.proofs.layout.product_of.Goals as goal

pub loop-cuts-preserved : goal.loop-cuts-preserved
loop-cuts-preserved c =
    let e : c.cuts-item.result ≡ get_or c.args.axes.now c.loop-cuts.cuts-index [] = get_or_read c.args.axes.now c.loop-cuts.cuts-index c.cuts-item.result c.loop-cuts-test.true c.cuts-item.is [] in
    let n : c.count.result ≡ length (get_or c.args.axes.now c.loop-cuts.cuts-index []) = rw (← e) c.count.ensures.count in
    product-more (2 ^ 64 - 1) c.args.axes.now c.loop-cuts.cuts-index c.loop-cuts.count c.count.result c.saturating_mul-count.result c.loop-cuts-test.true n c.loop-cuts.invariant c.saturating_mul-count.ensures
