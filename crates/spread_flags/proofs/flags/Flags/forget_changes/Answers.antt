use Rattle.std.proofs.Common.{arith}
use Rattle.spread_flags.proofs.flags.Flags.forget_changes.Goals as goal

pub invariant_of-self : goal.invariant_of-self
invariant_of-self c =
    let h = c.self.invariant in
    record {
      linked = h.linked;
      seed_row = h.seed_row;
      gate_row = h.gate_row;
      flag_row = h.flag_row;
      count_row = h.count_row;
      stale_room = h.stale_room;
      changed_room = omega (arith, h.changed_room, c.clear.ensures.room);
      stale = h.stale;
      changed = λ k m. c.clear.ensures.keys k;
      counted = h.counted;
      fresh = h.fresh;
    }
