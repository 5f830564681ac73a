use Rattle.fact_rows.proofs.RowLemmas.{cell-past}
use Rattle.fact_rows.proofs.rows.Grid.sound.Goals as goal

pub returns : goal.returns
returns g c d w k h = rw (← c.self.view_is) (cell-past c.self.inside.wide c.self.inside.rows.items c.self.invariant d w k (rw (← c.self.view_is) at h))
