use Rattle.std.proofs.Common.{map, take, string_bytes}
use Rattle.io_edge.specs.Book.{SameRecords, KnowsAll}
use Rattle.io_edge.proofs.book.touch_all.Given as goal

abbrev pub invariant-loop-name : goal.invariant-loop-name
invariant-loop-name l = record {
  same : SameRecords l.initial.book l.book;
  known : KnowsAll (take l.name-index (map string_bytes l.names)) l.book;
}
