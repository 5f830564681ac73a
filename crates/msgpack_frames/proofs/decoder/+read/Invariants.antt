use Rattle.std.proofs.Common.{◌≡◌, ◌+◌, ◌*◌, ◌-◌}
use Rattle.msgpack_frames.specs.Reading.{value_at, items_at, pairs_at}
use Rattle.msgpack_frames.proofs.Loops.{items_after, pairs_after}
use Rattle.msgpack_frames.proofs.decoder.+read.Given as goal

abbrev pub decreases-value_of : goal.decreases-value_of
decreases-value_of l = 8 * l.depth + 5

abbrev pub decreases-formed_of : goal.decreases-formed_of
decreases-formed_of l = 8 * l.depth + 4

abbrev pub decreases-sized_of : goal.decreases-sized_of
decreases-sized_of l = 8 * l.depth + 3

abbrev pub decreases-body_of : goal.decreases-body_of
decreases-body_of l = 8 * l.depth + 2

abbrev pub decreases-array_of : goal.decreases-array_of
decreases-array_of l = 8 * l.depth + 1

abbrev pub decreases-map_of : goal.decreases-map_of
decreases-map_of l = 8 * l.depth + 1

abbrev pub decreases-items_of : goal.decreases-items_of
decreases-items_of l = 8 * l.depth + 6

abbrev pub decreases-pairs_of : goal.decreases-pairs_of
decreases-pairs_of l = 8 * l.depth + 6

abbrev pub invariant-items_of-items : goal.invariant-items_of-items
invariant-items_of-items l = items_after l.items.items (items_at (value_at l.total l.depth) (l.len - l.counter) l.rest) ≡ items_at (value_at l.total l.depth) l.len l.bytes

abbrev pub invariant-pairs_of-pairs : goal.invariant-pairs_of-pairs
invariant-pairs_of-pairs l = pairs_after l.pairs.items (pairs_at (value_at l.total l.depth) (l.len - l.counter) l.rest) ≡ pairs_at (value_at l.total l.depth) l.len l.bytes
