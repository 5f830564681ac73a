use Rattle.std.proofs.Common.{◌≡◌, map, take}
use Rattle.chunk_layout.specs.Layouts.{counts}
use Rattle.lowering_laws.specs.Sources.{Source}
use Rattle.block_lowering.proofs.finish.all_counts.Given as goal

abbrev pub invariant-loop-source : goal.invariant-loop-source
invariant-loop-source l = l.blocks.items ≡ map (λ (s : Source). counts s.layout) (take l.source-index l.sources)
