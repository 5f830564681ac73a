use Rattle.std.proofs.Common.{arith, ◌≡◌, ℕ, List, [], length, get_or, ap, sym, subst, ◌∙◌}
use Rattle.std.proofs.lemmas.List.{get_or_read, take_all, length-map}
use Rattle.nd_shape.specs.Shape.{IsShape}
use Rattle.nd_shape.specs.Chunk.{total}
use Rattle.chunk_layout.specs.Layouts.{lengths}
use Rattle.chunk_layout.specs.Unions.{union}
use Rattle.chunk_layout.specs.Cuts.{IsCut}
use Rattle.chunk_layout.proofs.Merging.{same-total, unions-more}
use Rattle.chunk_layout.proofs.merge.unions.Goals as goal

pub bounds-b-axis : goal.bounds-b-axis
bounds-b-axis c = (same-total c.args.a.now c.args.b.now c.loop-axis.axis c.requires.same c.loop-axis-test.true).0

pub union_of-requires : goal.union_of-requires
union_of-requires c =
    let s = same-total c.args.a.now c.args.b.now c.loop-axis.axis c.requires.same c.loop-axis-test.true in
    let x : c.index-a-axis.result ≡ get_or c.args.a.now c.loop-axis.axis [] = get_or_read c.args.a.now c.loop-axis.axis c.index-a-axis.result c.loop-axis-test.true c.index-a-axis.is [] in
    let y : c.index-b-axis.result ≡ get_or c.args.b.now c.loop-axis.axis [] = get_or_read c.args.b.now c.loop-axis.axis c.index-b-axis.result s.0 c.index-b-axis.is [] in
    ap total x ∙ s.1 ∙ sym (ap total y)

pub loop-axis-preserved : goal.loop-axis-preserved
loop-axis-preserved c =
    let s = same-total c.args.a.now c.args.b.now c.loop-axis.axis c.requires.same c.loop-axis-test.true in
    let x : c.index-a-axis.result ≡ get_or c.args.a.now c.loop-axis.axis [] = get_or_read c.args.a.now c.loop-axis.axis c.index-a-axis.result c.loop-axis-test.true c.index-a-axis.is [] in
    let y : c.index-b-axis.result ≡ get_or c.args.b.now c.loop-axis.axis [] = get_or_read c.args.b.now c.loop-axis.axis c.index-b-axis.result s.0 c.index-b-axis.is [] in
    let e : c.in_ok-union_of.field-0 ≡ union (get_or c.args.a.now c.loop-axis.axis []) (get_or c.args.b.now c.loop-axis.axis []) =
    c.in_ok-union_of.ensures.value ∙ ap (λ (z : List ℕ). union z c.index-b-axis.result) x ∙ ap (union (get_or c.args.a.now c.loop-axis.axis [])) y in
    let cut : IsCut c.in_ok-union_of.field-0 = subst IsCut (sym c.in_ok-union_of.ensures.value) c.in_ok-union_of.ensures.cut in
    let m = unions-more c.loop-axis.axes.items c.args.a.now c.args.b.now c.loop-axis.axis c.in_ok-union_of.field-0 c.requires.same c.loop-axis-test.true e cut
    c.loop-axis.invariant.cuts c.loop-axis.invariant.lengths_is c.loop-axis.invariant.value in
    record {
      cuts = rw c.in_ok-push.ensures.items m.cuts;
      lengths_is = rw c.in_ok-push.ensures.items m.lengths_is;
      value = rw c.in_ok-push.ensures.items m.value;
    }

pub returns-clause-sound : goal.returns-clause-sound
returns-clause-sound c =
    let n : length (lengths c.args.a.now) ≡ length c.args.a.now = length-map c.args.a.now (λ (ss : List ℕ). total ss) in
    let e : lengths c.loop-axis.axes.items ≡ lengths c.args.a.now = c.loop-axis.invariant.lengths_is ∙ take_all c.loop-axis.axis (lengths c.args.a.now) (omega arith) in
    record { cuts = c.loop-axis.invariant.cuts; shape = subst IsShape (sym e) c.requires.sound.shape }
