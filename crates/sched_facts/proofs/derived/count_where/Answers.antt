use Rattle.std.proofs.Common.{◌≡◌, sym, ap, ◌∙◌, Bool, true, false, refl, ◌&&◌, ◌+◌, cond}
use Rattle.cluster_rules.specs.Derived.{is_in}
use Rattle.fact_rows.specs.Rows.{read}
use Rattle.sched_facts.proofs.derived.count_where.Goals as goal

with_true : (b l : Bool) → l ≡ true → b ≡ (b && l)
with_true true l e = sym e
with_true false l e = refl

pub returns-then-waits-clause-counted : goal.returns-then-waits-clause-counted
returns-then-waits-clause-counted c k = c.count_all.ensures.counted k ∙ ap (λ b. read c.args.row.now 0 k + cond b 1 0) (with_true (is_in k c.args.keys.now) c.args.waits c.if-waits.true)
