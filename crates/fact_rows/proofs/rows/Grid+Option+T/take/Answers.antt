use Rattle.std.proofs.Common.{None}
use Rattle.fact_rows.proofs.RowLemmas.{cell-set}
use Rattle.fact_rows.proofs.rows.Grid+Option+T.take.Goals as goal

pub returns-clause-meaning : goal.returns-clause-meaning
returns-clause-meaning g c = rw (← c.self.view_is) (cell-set c.self.inside.wide c.self.inside.rows.items c.take.new.self c.args.row c.args.key None None c.index_mut.result.now (rw (← c.self.view_is) at c.requires.row) c.index_mut.ensures.value c.take.ensures.meaning)
