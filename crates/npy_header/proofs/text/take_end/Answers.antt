-- What the end says, for the header's rows.
use Rattle.std.proofs.Common.{None, refl}
use Rattle.npy_header.proofs.Readings.{step-refused, end-taken}
use Rattle.npy_header.proofs.text.take_end.Goals as goal

pub returns-in-Refused-clause-refused : goal.returns-in-Refused-clause-refused
returns-in-Refused-clause-refused c = λ _.
    step-refused c.args.wide c.args.reader.now.table c.args.reader.now.left c.end.new.self.left None None c.in_ok-end.field-0 c.end.new.self.actions
    c.requires refl c.in-Refused.is c.in_ok-end.ensures.step

pub returns-in_ok-actions-in-Taken-clause-taken : goal.returns-in_ok-actions-in-Taken-clause-taken
returns-in_ok-actions-in-Taken-clause-taken c = λ _ w r.
    end-taken c.args.wide c.args.reader.now.table c.args.reader.now.left c.end.new.self.left c.in_ok-end.field-0 c.end.new.self.actions c.actions.result.now
    c.args.scanner.now c.actions-in-Taken.new.self
    c.requires c.in-Taken.is c.in_ok-end.ensures.step c.actions.ensures c.in_ok-actions-in-Taken.ensures w r
