use Rattle.std.proofs.Common.{◌≡◌, ap, ◌∙◌, arith}
use Rattle.spill_store.specs.Blocks.{size_of_block}
use Rattle.spill_store.proofs.Memories.{bytes_after}
use Rattle.spill_store.proofs.memory.Memory.put.Goals as goal

pub invariant_of-self : goal.invariant_of-self
invariant_of-self c =
    let more : c.size_of.result ≡ size_of_block c.args.block.value = c.size_of.ensures ∙ ap size_of_block c.deref.ensures in
    let sum = bytes_after c.args.key (record { array = c.args.block.value; taken = c.args.taken }) c.self.inside.blocks c.put.new.self c.self.inside.bytes c.size_at.result c.size_of.result
    c.self.invariant c.size_at.ensures.size more c.in-Ok.ensures.ok in
    omega (arith, sum, c.in-Some.ensures)
