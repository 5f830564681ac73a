use Rattle.std.proofs.Common.{List, ap, ◌∙◌}
use Rattle.fact_rows.specs.Rows.{cell}
use Rattle.sched_facts.proofs.sheets.Sheets.new.Goals as goal

pub returns-clause-same : goal.returns-clause-same
returns-clause-same g c = c.add.ensures.same ∙ ap (λ (rows : List (List _)). cell (c.args.wide, rows) c.args.rest) c.new.ensures.items
