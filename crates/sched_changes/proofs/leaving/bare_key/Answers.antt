use Rattle.std.proofs.Common.{ap, ◌∙◌}
use Rattle.cluster_rules.specs.Sched.{Facts}
use Rattle.sched_facts.specs.Kept.{left_key, taken_back}
use Rattle.sched_changes.proofs.leaving.bare_key.Goals as goal

pub returns-clause-facts : goal.returns-clause-facts
unfolding left_key
returns-clause-facts c = c.take_back.ensures.facts ∙ ap (λ (g : Facts). taken_back g c.args.worker c.args.key) c.lose.ensures.facts
