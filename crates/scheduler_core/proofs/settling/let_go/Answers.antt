use Rattle.std.proofs.Common.{◌≡◌, ap, ◌∙◌}
use Rattle.cluster_rules.specs.SchedStep.{drop_has, drop_on}
use Rattle.task_table.specs.Tasks.{facts}
use Rattle.scheduler_core.specs.Settling.{let_go}
use Rattle.scheduler_core.proofs.PlacingLemmas.{then_ok, let_go_is}
use Rattle.scheduler_core.proofs.settling.let_go.Goals as goal

pub returns-clause-facts : goal.returns-clause-facts
returns-clause-facts c =
    let f = facts c.args.table.now in
    then_ok c.drop_places.result (facts c.drop_places.new.table ≡ drop_on (facts c.drop_copies.new.table)) (facts c.drop_places.new.table ≡ let_go f) c.drop_places.ensures.facts (λ e. e ∙ ap drop_on (c.in_ok-drop_copies.ensures.facts ∙ ap drop_has c.forget_errors.ensures.facts) ∙ let_go_is f)
