use Rattle.std.proofs.Common.{subst}
use Rattle.spill_store.specs.Store.{Gives}
use Rattle.worker_store.proofs.Stocks.{stock_finds, stock_loses, stock_misses}
use Rattle.worker_store.proofs.blocks.SpillingBlocksBlockStoreBlock.get.Goals as goal
use Rattle.worker_store.proofs.blocks.SpillingBlocksBlockStoreBlock.get.Goals.{in-Found, in-Absent, in-Lost}

pub returns-clause-ok : goal.returns-clause-ok
returns-clause-ok g c =
    let view = g.D.SpillDisk.view in
    let key = c.args.key in
    let old = c.self.inside.store in
    let new = c.get.new.self in
    let ok = c.in_ok-block.ensures.ok in
    elim c.match-branch-2.branch [
      | in-Found w ↦ rw (w.result-is, ← c.self.view_is) (stock_finds view key w.in-Found.block.value old new (subst (λ f. Gives view key old new f) w.in-Found.is ok))
      | in-Absent w ↦ rw (w.result-is, ← c.self.view_is) (stock_misses view key old new (subst (λ f. Gives view key old new f) w.in-Absent.is ok))
      | in-Lost w ↦ rw (w.result-is, ← c.self.view_is) (stock_loses view key w.in-Lost.field-0 old new (subst (λ f. Gives view key old new f) w.in-Lost.is ok))
    ]
