use Rattle.std.proofs.Common.{◌≡◌, map, get_or}
use Rattle.std.specs.Prelude.{nat_eq}
use Rattle.std.specs.List.{position_or_len, range_with_len}
use Rattle.block_lowering.proofs.lists.index_turned.Given as goal

abbrev pub invariant-loop-axis : goal.invariant-loop-axis
invariant-loop-axis l = l.own.items ≡ map (λ a. get_or l.index (position_or_len (nat_eq a) l.axes) 0) (range_with_len 0 l.axis)
