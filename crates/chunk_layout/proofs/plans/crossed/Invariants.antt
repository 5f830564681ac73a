use Rattle.std.proofs.Common.{◌≡◌, ◌++◌, length, map, drop}
use Rattle.std.specs.List.{flat_map}
use Rattle.chunk_layout.specs.Plans.{overlaps_from}
use Rattle.chunk_layout.specs.Crossings.{extended, AllOpen}
use Rattle.chunk_layout.proofs.plans.crossed.Given as goal

abbrev pub invariant-loop-piece : goal.invariant-loop-piece
invariant-loop-piece l = record {
  open_rest : AllOpen 1 (length l.from) (drop l.piece-index l.pieces);
  value : l.out.items ++ flat_map (λ p. map (extended (length l.from) p) (overlaps_from 0 0 l.low l.high l.from)) (drop l.piece-index l.pieces)
      ≡ flat_map (λ p. map (extended (length l.from) p) (overlaps_from 0 0 l.low l.high l.from)) l.pieces;
}
