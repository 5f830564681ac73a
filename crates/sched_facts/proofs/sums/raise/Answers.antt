use Rattle.std.proofs.Common.{ap, ◌∙◌, ◌+◌}
use Rattle.fact_rows.specs.Rows.{read}
use Rattle.cluster_rules.specs.Functions.{put}
use Rattle.sched_facts.proofs.sums.raise.Goals as goal

pub returns-clause-meaning : goal.returns-clause-meaning
returns-clause-meaning c = c.set.ensures.meaning 0 ∙ ap (λ n. put (read c.args.row.now 0) c.args.at (n + c.args.by)) (c.get-sum.ensures 0)
