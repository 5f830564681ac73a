use Rattle.std.proofs.Common.{◌≡◌, map, take}
use Rattle.std.specs.Prelude.{slice_index_or, None}
use Rattle.block_lowering.proofs.finish.kept_names.Given as goal

abbrev pub invariant-loop-key : goal.invariant-loop-key
invariant-loop-key l = l.kept.items ≡ map (λ k. slice_index_or l.names k None) (take l.key-index l.order)
