-- What the step says, for the header's rows.
use Rattle.std.proofs.Common.{Some, ap}
use Rattle.npy_header.specs.Kinds.{kind_of}
use Rattle.npy_header.proofs.Readings.{step-refused, byte-taken}
use Rattle.npy_header.proofs.text.take_byte.Goals as goal

pub returns-in-Refused-clause-refused : goal.returns-in-Refused-clause-refused
returns-in-Refused-clause-refused c = λ _.
    step-refused c.args.wide c.args.reader.now.table c.args.reader.now.left c.step.new.self.left (Some c.kind.result) (Some (kind_of c.args.byte)) c.in_ok-step.field-0 c.step.new.self.actions
    c.requires (ap Some c.kind.ensures) c.in-Refused.is c.in_ok-step.ensures.step

pub returns-in_ok-byte-in-Taken-clause-taken : goal.returns-in_ok-byte-in-Taken-clause-taken
returns-in_ok-byte-in-Taken-clause-taken c = λ _ w r.
    byte-taken c.args.wide c.args.reader.now.table c.args.reader.now.left c.step.new.self.left c.kind.result c.args.byte c.in_ok-step.field-0 c.step.new.self.actions c.actions.result.now
    c.args.scanner.now c.actions-in-Taken.new.self c.byte.new.self
    c.requires c.kind.ensures c.ranges.byte.fits c.in-Taken.is c.in_ok-step.ensures.step c.actions.ensures c.in_ok-actions-in-Taken.ensures c.in_ok-byte-in-Taken.ensures w r
