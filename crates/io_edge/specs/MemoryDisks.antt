-- What a disk in memory tells.
use Rattle.std.specs.Prelude.{true}
use Rattle.std.specs.Option.{option_map}
use Rattle.std.specs.Ordering.{nat_cmp}
use Rattle.std.specs.BTreeMap.{get}
use Rattle.io_edge.specs.declared.memory_disk.MemoryDisk.{MemoryDisk}
use Rattle.io_edge.specs.Disk.{DiskView}

-- all that it holds
abbrev pub memory_view : MemoryDisk → DiskView
memory_view d = record { tells = true; held = λ q. option_map (λ v. v.items) (get nat_cmp d.held q); faults = d.faults }
