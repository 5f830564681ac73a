use Rattle.std.proofs.Common.{◌≡◌, ◌-◌, Some, cond, ap, ◌∙◌, sym}
use Rattle.fact_rows.specs.Rows.{read}
use Rattle.cluster_rules.specs.Sched.{is_for}
use Rattle.sched_facts.proofs.SumLemmas.{lowered_there}
use Rattle.sched_facts.proofs.sums.lower_at.Goals as goal

pub returns-in-Some-clause-meaning : goal.returns-in-Some-clause-meaning
returns-in-Some-clause-meaning c v =
    let e : c.args.place ≡ Some (c.in-Some.worker, c.in-Some.field-0-1) = cc in
    ap (λ f. f v) c.lower.ensures.meaning ∙ lowered_there (read c.args.row.now 0) c.in-Some.worker c.args.by v ∙ ap (λ o. read c.args.row.now 0 v - cond (is_for v o) c.args.by 0) (sym e)
