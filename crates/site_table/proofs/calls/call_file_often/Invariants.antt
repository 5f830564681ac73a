use Rattle.std.proofs.Common.{◌≡◌}
use Rattle.io_edge.specs.Content.{size_of}
use Rattle.site_table.proofs.calls.call_file_often.Given as goal

abbrev pub invariant-loop : goal.invariant-loop
invariant-loop g l = record {
  size : size_of (g.F.OutFile.content l.file) ≡ l.len;
  named : g.F.OutFile.named l.file ≡ g.F.OutFile.named l.fn.file;
}
