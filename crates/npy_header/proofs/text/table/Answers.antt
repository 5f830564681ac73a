-- The rows of either table are those of the headers that are wide or not.
use Rattle.std.proofs.Common.{◌∙◌, ap, sym}
use Rattle.npy_header.specs.HeaderRows.{narrow_rows, wide_rows, rows_of}
use Rattle.npy_header.proofs.text.table.Goals as goal

pub returns-then-wide-clause-rows : goal.returns-then-wide-clause-rows
unfolding wide_rows
returns-then-wide-clause-rows c = c.new.ensures ∙ ap rows_of (sym c.if-wide.true)

pub returns-else-wide-clause-rows : goal.returns-else-wide-clause-rows
unfolding narrow_rows
returns-else-wide-clause-rows c = c.new-else-wide.ensures ∙ ap rows_of (sym c.if-wide.false)
