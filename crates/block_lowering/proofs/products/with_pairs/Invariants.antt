use Rattle.std.proofs.Common.{◌≡◌, [], cond, get_or, map}
use Rattle.std.specs.Prelude.{nat_eq}
use Rattle.std.specs.List.{range_with_len, position_or_len}
use Rattle.nd_grid.specs.Grid.{is_among}
use Rattle.block_lowering.proofs.products.with_pairs.Given as goal

abbrev pub invariant-loop-axis : goal.invariant-loop-axis
invariant-loop-axis l =
    l.list.items ≡ map (λ k. cond (is_among k l.listed) (get_or l.pairs (position_or_len (nat_eq k) l.listed) []) (get_or l.axes k [])) (range_with_len 0 l.axis)
