use Rattle.std.proofs.Common.{◌≡◌, ◌≤◌, List, length}
use Rattle.io_edge.specs.Content.{Content}
use Rattle.plain_eval.specs.Eval.{inputs_before}
use Rattle.plain_block.specs.Files.{HaveFiles}
use Rattle.site_table.proofs.block.have_files.Given as goal

abbrev pub invariant-loop-k : goal.invariant-loop-k
invariant-loop-k l = record {
  input : l.input ≡ inputs_before l.nodes l.k;
  few : l.input ≤ l.k;
  files : (held : List Content) → length held ≡ l.files → HaveFiles l.nodes l.k held l.heads;
}
