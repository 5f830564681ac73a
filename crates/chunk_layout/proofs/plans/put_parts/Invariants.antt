use Rattle.std.proofs.Common.{◌++◌, ◌-◌, length, map}
use Rattle.chunk_layout.specs.Plans.{overlaps_from}
use Rattle.chunk_layout.specs.Crossings.{extended}
use Rattle.chunk_layout.proofs.Crossing.{IsWalked}
use Rattle.chunk_layout.proofs.plans.put_parts.Given as goal

abbrev pub invariant-loop-chunk : goal.invariant-loop-chunk
invariant-loop-chunk l = IsWalked l.from (length l.from) l.piece l.low l.high l.chunk l.out.items (l.initial.out.items ++ map (extended (length l.from) l.piece) (overlaps_from 0 0 l.low l.high l.from))

abbrev pub decreases-loop-chunk : goal.decreases-loop-chunk
decreases-loop-chunk l = length l.from - l.chunk
