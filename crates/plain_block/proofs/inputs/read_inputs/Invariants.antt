use Rattle.std.proofs.Common.{◌≡◌}
use Rattle.plain_block.specs.Files.{AreRead}
use Rattle.plain_block.proofs.inputs.read_inputs.Given as goal

abbrev pub invariant-loop-k : goal.invariant-loop-k
invariant-loop-k g l = record {
  same : g.S.Store.files l.store ≡ g.S.Store.files l.fn.store;
  kept : g.S.Store.count l.store ≡ g.S.Store.count l.fn.store;
  read : AreRead l.nodes l.k (g.S.Store.files l.fn.store) l.heads l.regions l.blocks.items;
}
