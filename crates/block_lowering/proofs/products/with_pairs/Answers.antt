use Rattle.std.proofs.Common.{◌≡◌, ℕ, List, [], cond, get_or, ap, ◌∙◌}
use Rattle.std.specs.Prelude.{nat_eq}
use Rattle.std.specs.List.{position_or_len}
use Rattle.std.proofs.lemmas.List.{get_or_read}
use Rattle.nd_grid.specs.Grid.{is_among}
use Rattle.block_lowering.proofs.Arranged.{row-more}
use Rattle.block_lowering.proofs.products.with_pairs.Goals as goal

pub loop-axis-preserved : goal.loop-axis-preserved
loop-axis-preserved c =
    let listed = c.args.listed.now in
    let pairs = c.args.pairs.now in
    let axis = c.loop-axis.axis in
    let own : c.index-axes-axis.result ≡ get_or c.args.axes.now axis [] = get_or_read c.args.axes.now axis c.index-axes-axis.result c.loop-axis-test.true c.index-axes-axis.is [] in
    let f : ℕ → List ℕ = λ k. cond (is_among k listed) (get_or pairs (position_or_len (nat_eq k) listed) []) (get_or c.args.axes.now k []) in
    row-more f c.loop-axis.list.items c.push.new.self.items axis c.in_ok-cuts_of_axis.field-0 c.loop-axis.invariant c.in_ok-push.ensures.items
    (c.in_ok-cuts_of_axis.ensures ∙ ap (cond (is_among axis listed) (get_or pairs (position_or_len (nat_eq axis) listed) [])) own)
