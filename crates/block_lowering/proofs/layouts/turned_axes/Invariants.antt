use Rattle.std.proofs.Common.{◌≡◌, [], map, take, get_or}
use Rattle.block_lowering.proofs.layouts.turned_axes.Given as goal

abbrev pub invariant-loop-axis : goal.invariant-loop-axis
invariant-loop-axis l = l.turned.items ≡ map (λ a. get_or l.axes a []) (take l.axis-index l.order)
