-- What an array of the graph keeps: all its keys are numbers of a graph.
use Rattle.std.specs.Prelude.{◌<◌, ◌≤◌}
use Rattle.chunk_layout.specs.Layouts.{blocks}
use Rattle.block_lowering.specs.declared.sources.Keyed.TheInside.{Inside}

pub record IsKeyed (s : Inside) : Type 0 where
  pub few : blocks s.layout ≤ 32768
  pub start : s.first ≤ 32768
  pub apart : 0 < s.stride
  pub near : s.stride ≤ 32768
