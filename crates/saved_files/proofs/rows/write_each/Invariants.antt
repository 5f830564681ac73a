use Rattle.std.proofs.Common.{◌≡◌}
use Rattle.io_edge.specs.Content.{size_of}
use Rattle.npy_region.specs.Writing.{Turns}
use Rattle.saved_files.proofs.RowLemmas.{WritesFirstOf}
use Rattle.saved_files.proofs.rows.write_each.Given as goal

abbrev pub invariant-loop-k : goal.invariant-loop-k
invariant-loop-k g l = record {
  named : g.F.OutFile.named l.file ≡ g.F.OutFile.named l.fn.file;
  size : size_of (g.F.OutFile.content l.file) ≡ size_of (g.F.OutFile.content l.fn.file);
  written : Turns (WritesFirstOf l.head l.regions l.blocks l.k) (g.F.OutFile.content l.fn.file) (g.F.OutFile.content l.file);
  kept : g.F.OutFile.count l.file ≡ g.F.OutFile.count l.fn.file;
}
