use Rattle.std.proofs.Common.{◌≡◌}
use Rattle.io_edge.specs.Content.{size_of}
use Rattle.npy_region.proofs.WriteLemmas.{FirstWritten}
use Rattle.npy_region.proofs.write.write_runs.Given as goal

abbrev pub invariant-loop-run : goal.invariant-loop-run
invariant-loop-run g l = record {
  named : g.F.OutFile.named l.file ≡ g.F.OutFile.named l.fn.file;
  size : size_of (g.F.OutFile.content l.file) ≡ size_of (g.F.OutFile.content l.fn.file);
  written : FirstWritten l.head l.region l.block l.runs l.run-index (g.F.OutFile.content l.fn.file) (g.F.OutFile.content l.file);
  kept : g.F.OutFile.count l.file ≡ g.F.OutFile.count l.fn.file;
}
