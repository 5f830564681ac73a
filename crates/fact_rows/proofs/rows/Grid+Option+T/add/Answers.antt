use Rattle.std.proofs.Common.{◌∙◌, ap, None, List, Option}
use Rattle.fact_rows.specs.Rows.{cell}
use Rattle.fact_rows.proofs.RowLemmas.{cell-more}
use Rattle.fact_rows.proofs.rows.Grid+Option+T.add.Goals as goal

pub returns-clause-meaning : goal.returns-clause-meaning
returns-clause-meaning g c =
    rw (← c.self.view_is) (ap (λ (rows : List (List (Option g.row.T.Denot))). cell (c.self.inside.wide, rows) None) c.in_ok-push.ensures.items ∙ cell-more c.self.inside.wide c.self.inside.rows.items c.in_ok-row.row c.in_ok-row.ensures.none)
