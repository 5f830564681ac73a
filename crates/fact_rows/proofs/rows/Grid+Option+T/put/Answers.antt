use Rattle.std.proofs.Common.{Some, None}
use Rattle.fact_rows.proofs.RowLemmas.{cell-set}
use Rattle.fact_rows.proofs.rows.Grid+Option+T.put.Goals as goal

pub returns-clause-meaning : goal.returns-clause-meaning
returns-clause-meaning g c = rw (← c.self.view_is) (cell-set c.self.inside.wide c.self.inside.rows.items c.put.new.self c.args.row c.args.key (Some c.args.item) None c.index_mut.result.now (rw (← c.self.view_is) at c.requires.row) c.index_mut.ensures.value c.put.ensures.meaning)
