use Rattle.std.proofs.Common.{◌≡◌, ℕ, ◌+◌, ◌-◌, ◌^◌, min, cond, get_or, Option, ap, subst}
use Rattle.std.specs.Prelude.{OnOk}
use Rattle.run_report.specs.Counts.{starts_by}
use Rattle.run_report.proofs.starts.note.Goals as goal

pub returns-in-Some-clause-ok : goal.returns-in-Some-clause-ok
returns-in-Some-clause-ok c =
    subst (λ (o : Option ℕ). OnOk c.add.result ((i : ℕ) → get_or c.add.new.starts i 0 ≡ cond (starts_by o i) (min (get_or c.args.starts.now i 0 + 1) (2 ^ 64 - 1)) (get_or c.args.starts.now i 0)))
    c.in-Some.ensures c.add.ensures.ok

pub returns-in-None-clause-ok : goal.returns-in-None-clause-ok
returns-in-None-clause-ok c i = ap (λ (o : Option ℕ). cond (starts_by o i) (min (get_or c.args.starts.now i 0 + 1) (2 ^ 64 - 1)) (get_or c.args.starts.now i 0)) c.in-None.ensures
