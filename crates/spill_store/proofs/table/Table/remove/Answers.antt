use Rattle.std.proofs.Common.{ap, ◌∙◌}
use Rattle.spill_store.proofs.Tables.{removed_at}
use Rattle.spill_store.proofs.table.Table.remove.Goals as goal

pub invariant_of-self : goal.invariant_of-self
invariant_of-self g c = (ap (λ x. x.cap) c.pop-value.ensures.entries ∙ c.self.invariant.0, c.len.ensures.valid.0)

pub returns-clause-changes : goal.returns-clause-changes
returns-clause-changes g c = rw (← c.self.view_is, ap (λ x. x.entries) c.pop-value.ensures.entries) (removed_at c.args.key c.self.inside.cache.entries c.self.invariant.1)
