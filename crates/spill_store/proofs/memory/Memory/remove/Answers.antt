use Rattle.spill_store.proofs.Memories.{bytes_less}
use Rattle.spill_store.proofs.memory.Memory.remove.Goals as goal

pub invariant_of-self : goal.invariant_of-self
invariant_of-self c =
    bytes_less c.args.key c.self.inside.blocks c.remove.new.self c.self.inside.bytes c.size_at.result c.self.invariant c.size_at.ensures.size c.remove.ensures.entries
