use Rattle.std.proofs.Common.{◌≡◌}
use Rattle.std.specs.List.{flat_map}
use Rattle.saved_files.specs.Rows.{AreFull, row_bytes}
use Rattle.saved_files.proofs.rows.gather_row.Given as goal

abbrev pub invariant-loop-k : goal.invariant-loop-k
invariant-loop-k l = record {
  bytes : flat_map (λ x. x) l.buffer.items ≡ row_bytes l.all l.blocks l.row l.k;
  full : AreFull l.blocks l.k;
}
