use Rattle.std.proofs.Common.{◌≡◌}
use Rattle.io_edge.specs.Content.{size_of}
use Rattle.saved_files.proofs.RowLemmas.{RowsWritten}
use Rattle.saved_files.proofs.rows.write_rows.Given as goal

abbrev pub invariant-loop-row : goal.invariant-loop-row
invariant-loop-row g l = record {
  named : g.F.OutFile.named l.file ≡ g.F.OutFile.named l.fn.file;
  size : size_of (g.F.OutFile.content l.file) ≡ size_of (g.F.OutFile.content l.fn.file);
  written : RowsWritten l.head l.regions l.blocks l.all l.row (g.F.OutFile.content l.fn.file) (g.F.OutFile.content l.file);
  kept : g.F.OutFile.count l.file ≡ g.F.OutFile.count l.fn.file;
}
