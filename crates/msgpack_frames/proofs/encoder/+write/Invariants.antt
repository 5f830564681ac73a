use Rattle.std.proofs.Common.{◌≡◌, ◌++◌, drop}
use Rattle.msgpack_frames.specs.Spelling.{items_spelling, pairs_spelling, AreValid, PairsAreValid, items_fault, pairs_fault}
use Rattle.msgpack_frames.specs.View.{items_view, pairs_view}
use Rattle.msgpack_frames.proofs.encoder.+write.Given as goal

abbrev pub invariant-put_items-loop-item : goal.invariant-put_items-loop-item
invariant-put_items-loop-item l = record {
  spelled : l.out.items ++ items_spelling (items_view (drop l.item-index l.item-items)) ≡ l.initial.out.items ++ items_spelling (items_view l.item-items);
  valid : AreValid (items_view (drop l.item-index l.item-items)) → AreValid (items_view l.item-items);
  fault : items_fault l.depth (items_view (drop l.item-index l.item-items)) ≡ items_fault l.depth (items_view l.item-items);
}

abbrev pub invariant-put_pairs-loop-pair : goal.invariant-put_pairs-loop-pair
invariant-put_pairs-loop-pair l = record {
  spelled : l.out.items ++ pairs_spelling (pairs_view (drop l.pair-index l.pair-items)) ≡ l.initial.out.items ++ pairs_spelling (pairs_view l.pair-items);
  valid : PairsAreValid (pairs_view (drop l.pair-index l.pair-items)) → PairsAreValid (pairs_view l.pair-items);
  fault : pairs_fault l.depth (pairs_view (drop l.pair-index l.pair-items)) ≡ pairs_fault l.depth (pairs_view l.pair-items);
}
