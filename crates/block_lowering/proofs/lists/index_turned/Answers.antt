use Rattle.std.proofs.Common.{ℕ, get_or, ap, ◌∙◌}
use Rattle.std.specs.Prelude.{nat_eq}
use Rattle.std.specs.List.{position_or_len}
use Rattle.block_lowering.proofs.ListsKeys.{row-more}
use Rattle.block_lowering.proofs.lists.index_turned.Goals as goal

pub loop-axis-preserved : goal.loop-axis-preserved
loop-axis-preserved c =
    row-more (λ a. get_or c.args.index.now (position_or_len (nat_eq a) c.args.axes.now) 0) c.loop-axis.own.items c.push.new.self.items c.loop-axis.axis c.number_at.result c.in_ok-push.ensures.items c.loop-axis.invariant
    (c.number_at.ensures ∙ ap (λ (p : ℕ). get_or c.args.index.now p 0) c.place_in_list.ensures)
