use Rattle.fact_rows.proofs.RowLemmas.{cell-set}
use Rattle.sched_facts.proofs.sheets.Sheets.set.Goals as goal

pub returns-clause-meaning : goal.returns-clause-meaning
returns-clause-meaning g c d = rw (← c.self.view_is) (cell-set c.self.inside.wide c.self.inside.rows.items c.set.new.self c.args.row c.args.key c.args.value d c.index_mut.result.now (rw (← c.self.view_is) at c.requires.row) c.index_mut.ensures.value (c.set.ensures.meaning d))
