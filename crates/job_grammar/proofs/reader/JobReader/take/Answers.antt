-- What the rows say of the token, the grammar says.
use Rattle.std.proofs.Common.{Some, ap, sym}
use Rattle.job_tokens.specs.Words.{kind_number}
use Rattle.job_grammar.proofs.Readings.{call-taken, call-refused}
use Rattle.job_grammar.proofs.reader.JobReader.take.Goals as goal

pub returns-clause-taken : goal.returns-clause-taken
returns-clause-taken c =
    call-taken c.args.self.now c.self.inside.reader c.step.new.self.left c.number.result (kind_number c.args.kind) c.step.result c.step.new.self.actions (sym c.self.view_is) c.self.invariant c.number.ensures c.step.ensures.step

pub returns-clause-refused : goal.returns-clause-refused
returns-clause-refused c =
    call-refused c.args.self.now c.self.inside.reader c.step.new.self.left (Some c.number.result) (Some (kind_number c.args.kind)) c.step.result c.step.new.self.actions (sym c.self.view_is) c.self.invariant (ap Some c.number.ensures) c.step.ensures.step
