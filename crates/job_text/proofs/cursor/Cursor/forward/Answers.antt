use Rattle.std.proofs.Common.{arith}
use Rattle.job_text.proofs.CursorSteps.{column-few}
use Rattle.job_text.proofs.cursor.Cursor.forward.Goals as goal

pub overflow_add-self-else-text-self-eq10 : goal.overflow_add-self-else-text-self-eq10
overflow_add-self-else-text-self-eq10 c =
    omega (arith, c.requires.stands.column, c.requires.short, column-few c.args.text.now c.args.self.now.at c.requires.stands.within)
