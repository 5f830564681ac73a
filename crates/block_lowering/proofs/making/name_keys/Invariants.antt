use Rattle.std.proofs.Common.{◌≡◌, ◌++◌, ◌-◌, map}
use Rattle.std.specs.List.{range_with_len}
use Rattle.lowering_laws.specs.Lowered.{name_at}
use Rattle.block_lowering.proofs.making.name_keys.Given as goal

abbrev pub invariant-loop-key : goal.invariant-loop-key
invariant-loop-key l = l.names.items ≡ l.initial.names.items ++ map (name_at l.source l.node) (range_with_len l.first (l.key - l.first))
