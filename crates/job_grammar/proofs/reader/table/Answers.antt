use Rattle.std.proofs.Common.{◌≡◌, true, sym, subst}
use Rattle.grammar.specs.Tables.{moves_end}
use Rattle.job_grammar.specs.JobRows.{job_rows}
use Rattle.job_grammar.proofs.Table.{job_moves}
use Rattle.job_grammar.proofs.reader.table.Goals as goal

pub returns-clause-rows : goal.returns-clause-rows
unfolding job_rows
returns-clause-rows c = c.new.ensures

pub returns-clause-moves : goal.returns-clause-moves
unfolding job_rows
returns-clause-moves c = subst (λ r. moves_end r ≡ true) (sym c.new.ensures) job_moves
