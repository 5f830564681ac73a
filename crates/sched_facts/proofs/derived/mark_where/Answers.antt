use Rattle.std.proofs.Common.{◌≡◌, sym, ap, ◌∙◌, Bool, true, false, refl, ◌&&◌, ◌||◌}
use Rattle.cluster_rules.specs.Derived.{is_in}
use Rattle.fact_rows.specs.Rows.{read}
use Rattle.sched_facts.proofs.derived.mark_where.Goals as goal

with_true : (b l : Bool) → l ≡ true → b ≡ (b && l)
with_true true l e = sym e
with_true false l e = refl

pub returns-then-leads-clause-marked : goal.returns-then-leads-clause-marked
returns-then-leads-clause-marked c k = ap (λ f. f k) c.mark.ensures.marked ∙ ap (λ b. read c.args.row.now false k || b) (with_true (is_in k c.args.keys.now) c.args.leads c.if-leads.true)
