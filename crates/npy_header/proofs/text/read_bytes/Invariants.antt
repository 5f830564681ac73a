-- The bytes so far were taken.
use Rattle.std.proofs.Common.{◌≡◌, take}
use Rattle.npy_header.specs.HeaderRows.{rows_of}
use Rattle.npy_header.specs.Reading.{IsReading}
use Rattle.npy_header.proofs.text.read_bytes.Given as goal

abbrev pub invariant-loop-at : goal.invariant-loop-at
invariant-loop-at l = record {
  table : l.reader.table ≡ (rows_of l.wide);
  reading : IsReading l.wide (take l.at l.bytes) l.reader.left l.scanner;
}
