use Rattle.std.proofs.Common.{◌≡◌, ◌≤◌, ◌*◌, ◌-◌, length, take}
use Rattle.io_edge.specs.Content.{overwritten, size_of}
use Rattle.npy_codec.specs.Npy.{cells_bytes}
use Rattle.npy_region.proofs.write.write_cells.Given as goal

abbrev pub invariant-loop-done : goal.invariant-loop-done
invariant-loop-done g l = record {
  within : l.done ≤ length l.cells;
  named : g.F.OutFile.named l.file ≡ g.F.OutFile.named l.fn.file;
  size : size_of (g.F.OutFile.content l.file) ≡ size_of (g.F.OutFile.content l.fn.file);
  written : g.F.OutFile.content l.file ≡ overwritten (g.F.OutFile.content l.fn.file) l.at (take (8 * l.done) (cells_bytes l.cells));
  kept : g.F.OutFile.count l.file ≡ g.F.OutFile.count l.fn.file;
}

abbrev pub decreases-loop-done : goal.decreases-loop-done
decreases-loop-done g l = length l.cells - l.done
