use Rattle.std.proofs.Common.{◌≡◌, map, take}
use Rattle.lowering_laws.specs.Stages.{Along}
use Rattle.block_lowering.proofs.joins.cut_along.Given as goal

abbrev pub invariant-loop-chunk : goal.invariant-loop-chunk
invariant-loop-chunk l = l.sizes.items ≡ map (λ (a : Along). a.size) (take l.chunk-index l.along)
