use Rattle.std.proofs.Common.{arith, ◌≡◌, ◌≤◌, ◌+◌, ◌++◌, ◌∷◌, [], ℕ, List, length, get_or, map, ap, sym, subst, ◌∙◌}
use Rattle.std.proofs.lemmas.List.{get_or_read}
use Rattle.std.specs.List.{flat_map}
use Rattle.nd_shape.specs.declared.region.Piece.{Piece}
use Rattle.nd_shape.specs.Chunk.{total}
use Rattle.chunk_layout.specs.Cuts.{AreStarts}
use Rattle.chunk_layout.specs.Plans.{overlaps_from}
use Rattle.chunk_layout.specs.Crossings.{AllOpen, extended}
use Rattle.chunk_layout.proofs.Merging.{same-total}
use Rattle.chunk_layout.proofs.Crossing.{IsCrossed, crossed-begin, number-there, crossed-room, crossed-more, range-here, done-end, no_axis}
use Rattle.chunk_layout.proofs.plans.crossings.Goals as goal

pub loop-axis-init : goal.loop-axis-init
loop-axis-init c =
    let e : c.push.new.self.items ≡ no_axis ∷ [] = c.in_ok-push.ensures.items ∙ ap (λ (xs : List Piece). xs ++ c.first_piece.result ∷ []) c.new-pieces.ensures.items ∙ ap (λ (x : Piece). x ∷ []) c.first_piece.ensures in
    subst (IsCrossed c.args.from.now c.args.to.now c.args.numbers.now 0) (sym e) (crossed-begin c.args.from.now c.args.to.now c.args.numbers.now c.requires.sound c.requires.same c.requires.numbers c.requires.some)

pub bounds-numbers-axis : goal.bounds-numbers-axis
bounds-numbers-axis c =
    let s = same-total c.args.from.now c.args.to.now c.loop-axis.axis c.requires.same c.loop-axis-test.true in
    (number-there c.args.to.now c.args.numbers.now c.loop-axis.axis c.requires.numbers s.0).0

pub crossed-requires-clause-open : goal.crossed-requires-clause-open
crossed-requires-clause-open c =
    let x : c.index-from-axis.result ≡ get_or c.args.from.now c.loop-axis.axis [] = get_or_read c.args.from.now c.loop-axis.axis c.index-from-axis.result c.loop-axis-test.true c.index-from-axis.is [] in
    rw c.as_slice.ensures.value (subst (λ (ss : List ℕ). AllOpen 1 (length ss) c.loop-axis.pieces.items) (sym x)
    (crossed-room c.args.from.now c.args.to.now c.args.numbers.now c.loop-axis.axis c.loop-axis.pieces.items c.requires.sound.cuts c.loop-axis-test.true c.loop-axis.invariant))

pub crossed-requires-clause-some : goal.crossed-requires-clause-some
crossed-requires-clause-some c =
    let s = same-total c.args.from.now c.args.to.now c.loop-axis.axis c.requires.same c.loop-axis-test.true in
    let x : c.index-from-axis.result ≡ get_or c.args.from.now c.loop-axis.axis [] = get_or_read c.args.from.now c.loop-axis.axis c.index-from-axis.result c.loop-axis-test.true c.index-from-axis.is [] in
    let y : c.index-to-axis.result ≡ get_or c.args.to.now c.loop-axis.axis [] = get_or_read c.args.to.now c.loop-axis.axis c.index-to-axis.result s.0 c.index-to-axis.is [] in
    let j = get_or c.args.numbers.now c.loop-axis.axis 0 in
    let n = number-there c.args.to.now c.args.numbers.now c.loop-axis.axis c.requires.numbers s.0 in
    let r = range-here (get_or c.args.from.now c.loop-axis.axis []) (get_or c.args.to.now c.loop-axis.axis []) c.starts-starts.result.now j
    (subst (λ (ys : List ℕ). AreStarts ys c.starts-starts.result.now) y c.starts-starts.ensures.starts) s.1 n.1 (c.requires.some c.loop-axis.axis s.0) in
    r.some

pub crossed-requires-clause-top : goal.crossed-requires-clause-top
crossed-requires-clause-top c =
    let s = same-total c.args.from.now c.args.to.now c.loop-axis.axis c.requires.same c.loop-axis-test.true in
    let x : c.index-from-axis.result ≡ get_or c.args.from.now c.loop-axis.axis [] = get_or_read c.args.from.now c.loop-axis.axis c.index-from-axis.result c.loop-axis-test.true c.index-from-axis.is [] in
    let y : c.index-to-axis.result ≡ get_or c.args.to.now c.loop-axis.axis [] = get_or_read c.args.to.now c.loop-axis.axis c.index-to-axis.result s.0 c.index-to-axis.is [] in
    let j = get_or c.args.numbers.now c.loop-axis.axis 0 in
    let n = number-there c.args.to.now c.args.numbers.now c.loop-axis.axis c.requires.numbers s.0 in
    let r = range-here (get_or c.args.from.now c.loop-axis.axis []) (get_or c.args.to.now c.loop-axis.axis []) c.starts-starts.result.now j
    (subst (λ (ys : List ℕ). AreStarts ys c.starts-starts.result.now) y c.starts-starts.ensures.starts) s.1 n.1 (c.requires.some c.loop-axis.axis s.0) in
    let t : get_or c.starts-starts.result.now (j + 1) 0 ≤ total (get_or c.args.from.now c.loop-axis.axis []) = r.top in
    let e : total c.index-from-axis.result ≡ total (get_or c.args.from.now c.loop-axis.axis []) = ap total x in
    omega arith

pub loop-axis-preserved : goal.loop-axis-preserved
loop-axis-preserved c =
    let s = same-total c.args.from.now c.args.to.now c.loop-axis.axis c.requires.same c.loop-axis-test.true in
    let x : c.index-from-axis.result ≡ get_or c.args.from.now c.loop-axis.axis [] = get_or_read c.args.from.now c.loop-axis.axis c.index-from-axis.result c.loop-axis-test.true c.index-from-axis.is [] in
    let y : c.index-to-axis.result ≡ get_or c.args.to.now c.loop-axis.axis [] = get_or_read c.args.to.now c.loop-axis.axis c.index-to-axis.result s.0 c.index-to-axis.is [] in
    let j = get_or c.args.numbers.now c.loop-axis.axis 0 in
    let n = number-there c.args.to.now c.args.numbers.now c.loop-axis.axis c.requires.numbers s.0 in
    let r = range-here (get_or c.args.from.now c.loop-axis.axis []) (get_or c.args.to.now c.loop-axis.axis []) c.starts-starts.result.now j
    (subst (λ (ys : List ℕ). AreStarts ys c.starts-starts.result.now) y c.starts-starts.ensures.starts) s.1 n.1 (c.requires.some c.loop-axis.axis s.0) in
    let low = get_or c.starts-starts.result.now j 0 in
    let high = get_or c.starts-starts.result.now (j + 1) 0 in
    crossed-more c.args.from.now c.args.to.now c.args.numbers.now c.loop-axis.axis low high c.loop-axis.pieces.items _
    c.loop-axis-test.true s.0 n.0 r.low_is r.high_is
    (c.in_ok-pieces.ensures ∙ ap (λ (ps : List Piece). flat_map (λ (p : Piece). map (extended (length c.index-from-axis.result) p) (overlaps_from 0 0 low high c.index-from-axis.result)) ps) c.as_slice.ensures.value ∙ ap (λ (ss : List ℕ). flat_map (λ (p : Piece). map (extended (length ss) p) (overlaps_from 0 0 low high ss)) c.loop-axis.pieces.items) x)
    c.loop-axis.invariant

pub returns : goal.returns
returns c = done-end c.args.from.now c.args.to.now c.args.numbers.now c.loop-axis.axis c.loop-axis.pieces.items (omega arith) c.loop-axis.invariant.value
