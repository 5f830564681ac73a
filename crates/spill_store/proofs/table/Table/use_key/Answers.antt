use Rattle.std.proofs.Common.{ap, ◌∙◌}
use Rattle.spill_store.proofs.Tables.{used_first, used_same}
use Rattle.spill_store.proofs.table.Table.use_key.Goals as goal

pub invariant_of-self : goal.invariant_of-self
invariant_of-self g c = (ap (λ x. x.cap) c.promote.ensures.entries ∙ c.self.invariant.0, c.len.ensures.valid.0)

pub returns-clause-same : goal.returns-clause-same
returns-clause-same g c = rw (← c.self.view_is, ap (λ x. x.entries) c.promote.ensures.entries) (used_same c.args.key c.self.inside.cache.entries c.self.invariant.1)

pub returns-clause-first : goal.returns-clause-first
returns-clause-first g c = rw (← c.self.view_is, ap (λ x. x.entries) c.promote.ensures.entries) (used_first c.args.key c.self.inside.cache.entries)
