-- No job has a token of no kind.
use Rattle.std.proofs.Common.{sym}
use Rattle.job_grammar.proofs.Readings.{call-other}
use Rattle.job_grammar.proofs.reader.JobReader.finish.Goals as goal

pub returns : goal.returns
returns c = call-other c.args.self.now c.self.inside.reader c.step.new.self.left c.in_ok-_reply._reply c.step.new.self.actions (sym c.self.view_is) c.self.invariant c.in_ok-_reply.ensures.step
