-- A reader at the beginning has read nothing.
use Rattle.std.proofs.Common.{[], ◌∷◌, ap, ◌∙◌}
use Rattle.grammar.specs.declared.symbol.Symbol.TheVariants.{Part}
use Rattle.grammar.specs.Tables.{Rows}
use Rattle.job_grammar.proofs.Readings.{first-reading}
use Rattle.job_grammar.proofs.reader.JobReader.new.Goals as goal

pub returns : goal.returns
returns c = first-reading c.in_ok-new.field-0 (c.in_ok-new.ensures ∙ ap (λ (t : Rows). record { table = t; left = Part 0 ∷ []; actions = [] }) c.table.ensures.rows)
