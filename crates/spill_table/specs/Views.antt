-- What a spoiled disk tells.
use Rattle.std.specs.Prelude.{false, None}
use Rattle.io_edge.specs.Disk.{DiskView}
use Rattle.io_edge.specs.MemoryDisks.{memory_view}
use Rattle.spill_table.specs.declared.spoiled.SpoiledDisk.{SpoiledDisk}

-- only its faults
abbrev pub spoiled_view : SpoiledDisk → DiskView
spoiled_view s = record { tells = false; held = λ q. None; faults = (memory_view s.disk).faults }
