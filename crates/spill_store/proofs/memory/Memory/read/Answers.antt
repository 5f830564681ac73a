use Rattle.std.proofs.Common.{◌≡◌, sym, subst}
use Rattle.std.specs.Prelude.{IfSome}
use Rattle.spill_store.specs.Table.{put_first}
use Rattle.spill_store.proofs.Memories.{bytes_used}
use Rattle.spill_store.proofs.memory.Memory.read.Goals as goal

pub invariant_of-self : goal.invariant_of-self
invariant_of-self c =
    let there = sym c.in-Some.ensures in
    let first = subst (λ o. IfSome o (λ v. c.use_key.new.self ≡ put_first c.args.key v c.self.inside.blocks)) there c.use_key.ensures.first in
    bytes_used c.args.key c.in-Some.held.now c.self.inside.blocks c.use_key.new.self c.self.inside.bytes c.self.invariant there first
