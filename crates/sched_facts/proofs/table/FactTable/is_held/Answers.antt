use Rattle.std.proofs.Common.{sym, ap, ◌∙◌}
use Rattle.std.specs.Prelude.{nat_lt}
use Rattle.sched_facts.specs.Stored.{facts_of}
use Rattle.sched_facts.proofs.Rooms.{any-held}
use Rattle.sched_facts.proofs.table.FactTable.is_held.Goals as goal

pub returns : goal.returns
returns c = rw (← c.self.view_is) (c.is_positive.ensures ∙ ap (nat_lt 0) (c.sum_at.ensures ∙ c.self.invariant.sums.holders c.args.key) ∙ sym (any-held (facts_of c.self.inside.store) c.args.key))
