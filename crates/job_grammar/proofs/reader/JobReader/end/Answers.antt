-- What the rows say of the end, the grammar says.
use Rattle.std.proofs.Common.{None, refl, sym}
use Rattle.job_grammar.proofs.Readings.{call-ended, call-refused}
use Rattle.job_grammar.proofs.reader.JobReader.end.Goals as goal

pub returns-clause-taken : goal.returns-clause-taken
returns-clause-taken c = call-ended c.args.self.now c.self.inside.reader c.end.new.self.left c.end.result c.end.new.self.actions (sym c.self.view_is) c.self.invariant c.end.ensures.step

pub returns-clause-refused : goal.returns-clause-refused
returns-clause-refused c = call-refused c.args.self.now c.self.inside.reader c.end.new.self.left None None c.end.result c.end.new.self.actions (sym c.self.view_is) c.self.invariant refl c.end.ensures.step
