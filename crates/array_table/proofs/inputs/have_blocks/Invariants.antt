use Rattle.std.proofs.Common.{◌≡◌, ◌≤◌}
use Rattle.plain_eval.specs.Eval.{HaveBlocks, inputs_before}
use Rattle.array_table.proofs.inputs.have_blocks.Given as goal

abbrev pub invariant-loop-k : goal.invariant-loop-k
invariant-loop-k l = record {
  input : l.input ≡ inputs_before l.nodes l.k;
  few : l.input ≤ l.k;
  blocks : HaveBlocks l.nodes l.k l.blocks;
}
