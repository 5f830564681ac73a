use Rattle.fact_rows.proofs.RowLemmas.{cell-fill}
use Rattle.fact_rows.proofs.rows.Grid.fill_row.Goals as goal

pub returns-clause-meaning : goal.returns-clause-meaning
returns-clause-meaning g c = rw (← c.self.view_is) (cell-fill c.self.inside.wide c.self.inside.rows.items c.fill.new.self c.args.row c.args.value (rw (← c.self.view_is) at c.requires) c.fill.ensures.meaning)
