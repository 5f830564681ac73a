-- The loop's invariant begins, and each way out is what is promised of the bytes.
use Rattle.std.proofs.Common.{true, false, Ok, get_or, refl, ap, subst}
use Rattle.std.proofs.lemmas.List.{take_all}
use Rattle.npy_header.specs.Reading.{IsReading}
use Rattle.npy_header.proofs.Readings.{refused-byte, refused-end}
use Rattle.npy_header.proofs.text.read_bytes.Goals as goal

pub loop-at-init : goal.loop-at-init
loop-at-init c = record {
  table = c.requires.table;
  reading = c.requires.reading;
}

pub returns-then-not-branch-clause-refused : goal.returns-then-not-branch-clause-refused
returns-then-not-branch-clause-refused c =
    refused-byte c.args.wide c.args.bytes.now c.loop-at.at (get_or c.args.bytes.now c.loop-at.at 0) c.loop-at.reader.left c.loop-at.scanner c.loop-at.invariant.reading c.loop-at-test.true refl
    (c.in_ok-take_byte.ensures.refused (ap Ok c.if-not-branch.true))

pub returns-then-not-branch-2-clause-refused : goal.returns-then-not-branch-2-clause-refused
returns-then-not-branch-2-clause-refused c =
    refused-end c.args.wide c.args.bytes.now c.loop-at.reader.left c.loop-at.scanner
    (subst (λ w. IsReading c.args.wide w c.loop-at.reader.left c.loop-at.scanner) (take_all c.loop-at.at c.args.bytes.now c.loop-at-test.false) c.loop-at.invariant.reading)
    (c.in_ok-take_end.ensures.refused (ap Ok c.if-not-branch-2.true))

pub returns-clause-ok : goal.returns-clause-ok
returns-clause-ok c =
    c.in_ok-take_end.ensures.taken (ap Ok c.if-not-branch-2.false) c.args.bytes.now
    (subst (λ w. IsReading c.args.wide w c.loop-at.reader.left c.loop-at.scanner) (take_all c.loop-at.at c.args.bytes.now c.loop-at-test.false) c.loop-at.invariant.reading)
