use Rattle.std.proofs.Common.{◌≡◌, [], ◌∷◌, map, get_or, cond}
use Rattle.std.specs.Prelude.{nat_eq}
use Rattle.std.specs.List.{range_with_len}
use Rattle.lowering_laws.specs.Stages.{sizes_on, joined_all}
use Rattle.block_lowering.specs.Args.{layouts_of}
use Rattle.block_lowering.proofs.points.layout_of_point.Given as goal

abbrev pub invariant-loop-axis : goal.invariant-loop-axis
invariant-loop-axis l = l.axes.items ≡ map (λ k. cond (nat_eq (get_or l.dims k 0) 1) (1 ∷ []) (joined_all (map (sizes_on l.dims k) (layouts_of l.args)))) (range_with_len 0 l.axis)
