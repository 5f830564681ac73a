use Rattle.std.proofs.Common.{◌+◌, ◌-◌, ◌^◌, min, ap, ◌∙◌, get_or}
use Rattle.run_report.proofs.TallyLemmas.{add_is}
use Rattle.run_report.proofs.starts.add.Goals as goal

pub returns-clause-ok : goal.returns-clause-ok
returns-clause-ok c i =
    ap (λ f. f i) (c.set.ensures.meaning 0)
    ∙ add_is (λ k. get_or c.args.starts.now k 0) (λ k. get_or c.grow.new.starts k 0) c.args.worker c.saturating_add-more.result i c.grow.ensures.same
    (c.saturating_add-more.ensures ∙ ap (λ n. min (n + 1) (2 ^ 64 - 1)) (c.get.ensures 0))
