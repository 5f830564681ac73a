use Rattle.std.proofs.Common.{ap, sym, ◌∙◌}
use Rattle.cluster_msgs.specs.Shape.{deps_of}
use Rattle.placement.proofs.Placing.{place-alone, first_pool, second_pool, none_left, some_left, least_where}
use Rattle.placement.proofs.choice.place.Goals as goal

pub returns-then-is_empty-clause-is : goal.returns-then-is_empty-clause-is
returns-then-is_empty-clause-is g c = c.least_of.ensures ∙ sym (place-alone (g.F.Facts.facts c.args.facts.now) c.args.key (none_left (g.F.Facts.facts c.args.facts.now) c.args.key c.deps.result.now c.is_empty.result (c.deps.ensures ∙ ap (λ s. deps_of s c.args.key) c.requires.shape) c.is_empty.ensures c.if-is_empty.true))

pub returns-in-Some-clause-is : goal.returns-in-Some-clause-is
returns-in-Some-clause-is g c = first_pool (g.F.Facts.facts c.args.facts.now) c.args.key c.in-Some.worker (some_left (g.F.Facts.facts c.args.facts.now) c.args.key c.deps.result.now c.is_empty.result (c.deps.ensures ∙ ap (λ s. deps_of s c.args.key) c.requires.shape) c.is_empty.ensures c.if-is_empty.false) (sym c.in-Some.is ∙ c.least_of-2.ensures)

pub returns-in-None-clause-is : goal.returns-in-None-clause-is
returns-in-None-clause-is g c = c.least_of-in-None.ensures ∙ second_pool (g.F.Facts.facts c.args.facts.now) c.args.key (some_left (g.F.Facts.facts c.args.facts.now) c.args.key c.deps.result.now c.is_empty.result (c.deps.ensures ∙ ap (λ s. deps_of s c.args.key) c.requires.shape) c.is_empty.ensures c.if-is_empty.false) (sym c.in-None.is ∙ c.least_of-2.ensures)

pub returns-then-is_empty-clause-least : goal.returns-then-is_empty-clause-least
returns-then-is_empty-clause-least g c = least_where (g.F.Facts.facts c.args.facts.now) c.args.key _ (returns-then-is_empty-clause-is g c)

pub returns-in-Some-clause-least : goal.returns-in-Some-clause-least
returns-in-Some-clause-least g c = least_where (g.F.Facts.facts c.args.facts.now) c.args.key _ (returns-in-Some-clause-is g c)

pub returns-in-None-clause-least : goal.returns-in-None-clause-least
returns-in-None-clause-least g c = least_where (g.F.Facts.facts c.args.facts.now) c.args.key _ (returns-in-None-clause-is g c)
