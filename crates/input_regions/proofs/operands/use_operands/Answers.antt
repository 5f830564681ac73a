use Rattle.std.proofs.Common.{◌⊎◌, ◌++◌, ℕ, List, length, take, drop, map, get_or, sym, subst}
use Rattle.small_facts.proofs.Options.{slice_get_at}
use Rattle.nd_shape.specs.Index.{IsIn}
use Rattle.nd_grid.specs.Grid.{IsTranspose, SlicesFit, sliced_from, sliced_shape, turned, kept_shape}
use Rattle.array_expr.specs.declared.op.Op.TheVariants.{Input, Full, Ramp, Negate, Elementwise, Where, Slice, Transpose, Rechunk, Concatenate, Reduce, Tensordot}
use Rattle.array_expr.specs.Node.{dropped, folded_axes, shape_at}
use Rattle.input_regions.specs.Uses.{IsAt, IsAlong, IsInBranches, kept_number}
use Rattle.input_regions.specs.Widening.{AsksOperands, CanAskAll, IsJoinedRange, IsUsed, Widens}
use Rattle.input_regions.proofs.Widened.{fit-full, widens-none}
use Rattle.input_regions.proofs.Fitted.{names, can, can-all, same-in, rechunked-in, left-in, right-in, condition-in, first-in, second-in, slices-fit, slice-in, turns, turn-in, joined-range, kept-in, paired-in, asks, on-ok}
use Rattle.input_regions.proofs.operands.use_operands.Goals as goal

pub returns-in-Input-clause-uses : goal.returns-in-Input-clause-uses
returns-in-Input-clause-uses c = asks c.args.nodes.now c.args.k c.index-nodes-k.result c.requires.sound (slice_get_at c.args.nodes.now c.args.k c.index-nodes-k.result c.requires.there c.index-nodes-k.is) (Input c.in-Input.dims c.in-Input.chunks) c.args.first.now c.args.last.now c.args.needs.now c.args.needs.now c.in-Input.is (widens-none (IsUsed c.args.first.now c.args.last.now (λ i k j. ⊥)) c.args.needs.now (fit-full c.args.nodes.now c.args.needs.now c.requires.sound c.requires.fit) (λ k j u. u.is))

pub returns-in-Full-clause-uses : goal.returns-in-Full-clause-uses
returns-in-Full-clause-uses c = asks c.args.nodes.now c.args.k c.index-nodes-k.result c.requires.sound (slice_get_at c.args.nodes.now c.args.k c.index-nodes-k.result c.requires.there c.index-nodes-k.is) (Full c.in-Full.dims c.in-Full.value c.in-Full.chunks) c.args.first.now c.args.last.now c.args.needs.now c.args.needs.now c.in-Full.is (widens-none (IsUsed c.args.first.now c.args.last.now (λ i k j. ⊥)) c.args.needs.now (fit-full c.args.nodes.now c.args.needs.now c.requires.sound c.requires.fit) (λ k j u. u.is))

pub returns-in-Ramp-clause-uses : goal.returns-in-Ramp-clause-uses
returns-in-Ramp-clause-uses c = asks c.args.nodes.now c.args.k c.index-nodes-k.result c.requires.sound (slice_get_at c.args.nodes.now c.args.k c.index-nodes-k.result c.requires.there c.index-nodes-k.is) (Ramp c.in-Ramp.dims c.in-Ramp.start c.in-Ramp.step c.in-Ramp.chunks) c.args.first.now c.args.last.now c.args.needs.now c.args.needs.now c.in-Ramp.is (widens-none (IsUsed c.args.first.now c.args.last.now (λ i k j. ⊥)) c.args.needs.now (fit-full c.args.nodes.now c.args.needs.now c.requires.sound c.requires.fit) (λ k j u. u.is))

pub use_same-requires-clause-can : goal.use_same-requires-clause-can
use_same-requires-clause-can c = can c.args.nodes.now c.args.k c.index-nodes-k.result c.requires.sound (slice_get_at c.args.nodes.now c.args.k c.index-nodes-k.result c.requires.there c.index-nodes-k.is) c.args.needs.now c.in-Negate.of (names c.args.nodes.now c.args.k c.index-nodes-k.result c.requires.sound (slice_get_at c.args.nodes.now c.args.k c.index-nodes-k.result c.requires.there c.index-nodes-k.is) (Negate c.in-Negate.of) c.in-Negate.is) c.requires.room c.requires.fit

pub use_same-requires-clause-inside : goal.use_same-requires-clause-inside
use_same-requires-clause-inside c = λ i f. same-in c.args.nodes.now c.args.k c.index-nodes-k.result c.requires.sound (slice_get_at c.args.nodes.now c.args.k c.index-nodes-k.result c.requires.there c.index-nodes-k.is) c.in-Negate.of i c.in-Negate.is (c.requires.inside i f)

pub returns-in-Negate-clause-uses : goal.returns-in-Negate-clause-uses
returns-in-Negate-clause-uses c = asks c.args.nodes.now c.args.k c.index-nodes-k.result c.requires.sound (slice_get_at c.args.nodes.now c.args.k c.index-nodes-k.result c.requires.there c.index-nodes-k.is) (Negate c.in-Negate.of) c.args.first.now c.args.last.now c.args.needs.now c.use_same.new.needs c.in-Negate.is c.use_same.ensures.uses

pub use_pair-requires-clause-left : goal.use_pair-requires-clause-left
use_pair-requires-clause-left c = can c.args.nodes.now c.args.k c.index-nodes-k.result c.requires.sound (slice_get_at c.args.nodes.now c.args.k c.index-nodes-k.result c.requires.there c.index-nodes-k.is) c.args.needs.now c.in-Elementwise.left (names c.args.nodes.now c.args.k c.index-nodes-k.result c.requires.sound (slice_get_at c.args.nodes.now c.args.k c.index-nodes-k.result c.requires.there c.index-nodes-k.is) (Elementwise c.in-Elementwise.op c.in-Elementwise.left c.in-Elementwise.right) c.in-Elementwise.is).0 c.requires.room c.requires.fit

pub use_pair-requires-clause-right : goal.use_pair-requires-clause-right
use_pair-requires-clause-right c = can c.args.nodes.now c.args.k c.index-nodes-k.result c.requires.sound (slice_get_at c.args.nodes.now c.args.k c.index-nodes-k.result c.requires.there c.index-nodes-k.is) c.args.needs.now c.in-Elementwise.right (names c.args.nodes.now c.args.k c.index-nodes-k.result c.requires.sound (slice_get_at c.args.nodes.now c.args.k c.index-nodes-k.result c.requires.there c.index-nodes-k.is) (Elementwise c.in-Elementwise.op c.in-Elementwise.left c.in-Elementwise.right) c.in-Elementwise.is).1 c.requires.room c.requires.fit

pub use_pair-requires-clause-left_inside : goal.use_pair-requires-clause-left_inside
use_pair-requires-clause-left_inside c = λ i f. left-in c.args.nodes.now c.args.k c.index-nodes-k.result c.requires.sound (slice_get_at c.args.nodes.now c.args.k c.index-nodes-k.result c.requires.there c.index-nodes-k.is) c.in-Elementwise.op c.in-Elementwise.left c.in-Elementwise.right i c.in-Elementwise.is (c.requires.inside i f)

pub use_pair-requires-clause-right_inside : goal.use_pair-requires-clause-right_inside
use_pair-requires-clause-right_inside c = λ i f. right-in c.args.nodes.now c.args.k c.index-nodes-k.result c.requires.sound (slice_get_at c.args.nodes.now c.args.k c.index-nodes-k.result c.requires.there c.index-nodes-k.is) c.in-Elementwise.op c.in-Elementwise.left c.in-Elementwise.right i c.in-Elementwise.is (c.requires.inside i f)

pub returns-in-Elementwise-clause-uses : goal.returns-in-Elementwise-clause-uses
returns-in-Elementwise-clause-uses c = asks c.args.nodes.now c.args.k c.index-nodes-k.result c.requires.sound (slice_get_at c.args.nodes.now c.args.k c.index-nodes-k.result c.requires.there c.index-nodes-k.is) (Elementwise c.in-Elementwise.op c.in-Elementwise.left c.in-Elementwise.right) c.args.first.now c.args.last.now c.args.needs.now c.use_pair.new.needs c.in-Elementwise.is c.use_pair.ensures.uses

pub use_three-requires-clause-one : goal.use_three-requires-clause-one
use_three-requires-clause-one c = can c.args.nodes.now c.args.k c.index-nodes-k.result c.requires.sound (slice_get_at c.args.nodes.now c.args.k c.index-nodes-k.result c.requires.there c.index-nodes-k.is) c.args.needs.now c.in-Where.cond (names c.args.nodes.now c.args.k c.index-nodes-k.result c.requires.sound (slice_get_at c.args.nodes.now c.args.k c.index-nodes-k.result c.requires.there c.index-nodes-k.is) (Where c.in-Where.cond c.in-Where.yes c.in-Where.no) c.in-Where.is).0 c.requires.room c.requires.fit

pub use_three-requires-clause-two : goal.use_three-requires-clause-two
use_three-requires-clause-two c = can c.args.nodes.now c.args.k c.index-nodes-k.result c.requires.sound (slice_get_at c.args.nodes.now c.args.k c.index-nodes-k.result c.requires.there c.index-nodes-k.is) c.args.needs.now c.in-Where.yes (names c.args.nodes.now c.args.k c.index-nodes-k.result c.requires.sound (slice_get_at c.args.nodes.now c.args.k c.index-nodes-k.result c.requires.there c.index-nodes-k.is) (Where c.in-Where.cond c.in-Where.yes c.in-Where.no) c.in-Where.is).1 c.requires.room c.requires.fit

pub use_three-requires-clause-three : goal.use_three-requires-clause-three
use_three-requires-clause-three c = can c.args.nodes.now c.args.k c.index-nodes-k.result c.requires.sound (slice_get_at c.args.nodes.now c.args.k c.index-nodes-k.result c.requires.there c.index-nodes-k.is) c.args.needs.now c.in-Where.no (names c.args.nodes.now c.args.k c.index-nodes-k.result c.requires.sound (slice_get_at c.args.nodes.now c.args.k c.index-nodes-k.result c.requires.there c.index-nodes-k.is) (Where c.in-Where.cond c.in-Where.yes c.in-Where.no) c.in-Where.is).2 c.requires.room c.requires.fit

pub use_three-requires-clause-one_inside : goal.use_three-requires-clause-one_inside
use_three-requires-clause-one_inside c = λ i f. condition-in c.args.nodes.now c.args.k c.index-nodes-k.result c.requires.sound (slice_get_at c.args.nodes.now c.args.k c.index-nodes-k.result c.requires.there c.index-nodes-k.is) c.in-Where.cond c.in-Where.yes c.in-Where.no i c.in-Where.is (c.requires.inside i f)

pub use_three-requires-clause-two_inside : goal.use_three-requires-clause-two_inside
use_three-requires-clause-two_inside c = λ i f. first-in c.args.nodes.now c.args.k c.index-nodes-k.result c.requires.sound (slice_get_at c.args.nodes.now c.args.k c.index-nodes-k.result c.requires.there c.index-nodes-k.is) c.in-Where.cond c.in-Where.yes c.in-Where.no i c.in-Where.is (c.requires.inside i f)

pub use_three-requires-clause-three_inside : goal.use_three-requires-clause-three_inside
use_three-requires-clause-three_inside c = λ i f. second-in c.args.nodes.now c.args.k c.index-nodes-k.result c.requires.sound (slice_get_at c.args.nodes.now c.args.k c.index-nodes-k.result c.requires.there c.index-nodes-k.is) c.in-Where.cond c.in-Where.yes c.in-Where.no i c.in-Where.is (c.requires.inside i f)

pub returns-in-Where-clause-uses : goal.returns-in-Where-clause-uses
returns-in-Where-clause-uses c = asks c.args.nodes.now c.args.k c.index-nodes-k.result c.requires.sound (slice_get_at c.args.nodes.now c.args.k c.index-nodes-k.result c.requires.there c.index-nodes-k.is) (Where c.in-Where.cond c.in-Where.yes c.in-Where.no) c.args.first.now c.args.last.now c.args.needs.now c.use_three.new.needs c.in-Where.is c.use_three.ensures.uses

pub use_sliced-requires-clause-can : goal.use_sliced-requires-clause-can
use_sliced-requires-clause-can c = can c.args.nodes.now c.args.k c.index-nodes-k.result c.requires.sound (slice_get_at c.args.nodes.now c.args.k c.index-nodes-k.result c.requires.there c.index-nodes-k.is) c.args.needs.now c.in-Slice.of (names c.args.nodes.now c.args.k c.index-nodes-k.result c.requires.sound (slice_get_at c.args.nodes.now c.args.k c.index-nodes-k.result c.requires.there c.index-nodes-k.is) (Slice c.in-Slice.of c.in-Slice.parts) c.in-Slice.is) c.requires.room c.requires.fit

pub use_sliced-requires-clause-fits : goal.use_sliced-requires-clause-fits
use_sliced-requires-clause-fits c = subst (λ ss. SlicesFit 0 ss (shape_at c.args.nodes.now c.in-Slice.of) (dropped c.in-Slice.parts)) (sym c.as_slice.ensures) (slices-fit c.args.nodes.now c.args.k c.index-nodes-k.result c.requires.sound (slice_get_at c.args.nodes.now c.args.k c.index-nodes-k.result c.requires.there c.index-nodes-k.is) c.in-Slice.of c.in-Slice.parts c.in-Slice.is)

pub use_sliced-requires-clause-inside : goal.use_sliced-requires-clause-inside
use_sliced-requires-clause-inside c = λ i f. subst (λ ss. IsIn (sliced_shape 0 ss (dropped c.in-Slice.parts)) i) (sym c.as_slice.ensures) (slice-in c.args.nodes.now c.args.k c.index-nodes-k.result c.requires.sound (slice_get_at c.args.nodes.now c.args.k c.index-nodes-k.result c.requires.there c.index-nodes-k.is) c.in-Slice.of c.in-Slice.parts i c.in-Slice.is (c.requires.inside i f))

pub returns-in-Slice-clause-uses : goal.returns-in-Slice-clause-uses
returns-in-Slice-clause-uses c = on-ok c.use_sliced.result (Widens (IsUsed c.args.first.now c.args.last.now (λ i k j. IsAt c.in-Slice.of (sliced_from 0 c.as_slice.result.now (dropped c.in-Slice.parts) i) k j)) c.args.needs.now c.use_sliced.new.needs) (AsksOperands c.args.nodes.now c.args.k c.args.first.now c.args.last.now c.args.needs.now c.use_sliced.new.needs)
    (λ w. asks c.args.nodes.now c.args.k c.index-nodes-k.result c.requires.sound (slice_get_at c.args.nodes.now c.args.k c.index-nodes-k.result c.requires.there c.index-nodes-k.is) (Slice c.in-Slice.of c.in-Slice.parts) c.args.first.now c.args.last.now c.args.needs.now c.use_sliced.new.needs c.in-Slice.is (subst (λ ss. Widens (IsUsed c.args.first.now c.args.last.now (λ i k j. IsAt c.in-Slice.of (sliced_from 0 ss (dropped c.in-Slice.parts) i) k j)) c.args.needs.now c.use_sliced.new.needs) c.as_slice.ensures w)) c.use_sliced.ensures.uses

pub use_turned-requires-clause-can : goal.use_turned-requires-clause-can
use_turned-requires-clause-can c = can c.args.nodes.now c.args.k c.index-nodes-k.result c.requires.sound (slice_get_at c.args.nodes.now c.args.k c.index-nodes-k.result c.requires.there c.index-nodes-k.is) c.args.needs.now c.in-Transpose.of (names c.args.nodes.now c.args.k c.index-nodes-k.result c.requires.sound (slice_get_at c.args.nodes.now c.args.k c.index-nodes-k.result c.requires.there c.index-nodes-k.is) (Transpose c.in-Transpose.of c.in-Transpose.axes) c.in-Transpose.is) c.requires.room c.requires.fit

pub use_turned-requires-clause-turn : goal.use_turned-requires-clause-turn
use_turned-requires-clause-turn c = subst (λ xs. IsTranspose xs (length (shape_at c.args.nodes.now c.in-Transpose.of))) (sym c.as_slice-in-Transpose.ensures) (turns c.args.nodes.now c.args.k c.index-nodes-k.result c.requires.sound (slice_get_at c.args.nodes.now c.args.k c.index-nodes-k.result c.requires.there c.index-nodes-k.is) c.in-Transpose.of c.in-Transpose.axes c.in-Transpose.is)

pub use_turned-requires-clause-inside : goal.use_turned-requires-clause-inside
use_turned-requires-clause-inside c = λ i f. subst (λ xs. IsIn (map (λ b. get_or (shape_at c.args.nodes.now c.in-Transpose.of) b 0) xs) i) (sym c.as_slice-in-Transpose.ensures) (turn-in c.args.nodes.now c.args.k c.index-nodes-k.result c.requires.sound (slice_get_at c.args.nodes.now c.args.k c.index-nodes-k.result c.requires.there c.index-nodes-k.is) c.in-Transpose.of c.in-Transpose.axes i c.in-Transpose.is (c.requires.inside i f))

pub returns-in-Transpose-clause-uses : goal.returns-in-Transpose-clause-uses
returns-in-Transpose-clause-uses c = asks c.args.nodes.now c.args.k c.index-nodes-k.result c.requires.sound (slice_get_at c.args.nodes.now c.args.k c.index-nodes-k.result c.requires.there c.index-nodes-k.is) (Transpose c.in-Transpose.of c.in-Transpose.axes) c.args.first.now c.args.last.now c.args.needs.now c.use_turned.new.needs c.in-Transpose.is (subst (λ xs. Widens (IsUsed c.args.first.now c.args.last.now (λ i k j. IsAt c.in-Transpose.of (turned xs i) k j)) c.args.needs.now c.use_turned.new.needs) c.as_slice-in-Transpose.ensures c.use_turned.ensures.uses)

pub use_same-requires-in-Rechunk-clause-can : goal.use_same-requires-in-Rechunk-clause-can
use_same-requires-in-Rechunk-clause-can c = can c.args.nodes.now c.args.k c.index-nodes-k.result c.requires.sound (slice_get_at c.args.nodes.now c.args.k c.index-nodes-k.result c.requires.there c.index-nodes-k.is) c.args.needs.now c.in-Rechunk.of (names c.args.nodes.now c.args.k c.index-nodes-k.result c.requires.sound (slice_get_at c.args.nodes.now c.args.k c.index-nodes-k.result c.requires.there c.index-nodes-k.is) (Rechunk c.in-Rechunk.of c.in-Rechunk.chunks) c.in-Rechunk.is) c.requires.room c.requires.fit

pub use_same-requires-in-Rechunk-clause-inside : goal.use_same-requires-in-Rechunk-clause-inside
use_same-requires-in-Rechunk-clause-inside c = λ i f. rechunked-in c.args.nodes.now c.args.k c.index-nodes-k.result c.requires.sound (slice_get_at c.args.nodes.now c.args.k c.index-nodes-k.result c.requires.there c.index-nodes-k.is) c.in-Rechunk.of c.in-Rechunk.chunks i c.in-Rechunk.is (c.requires.inside i f)

pub returns-in-Rechunk-clause-uses : goal.returns-in-Rechunk-clause-uses
returns-in-Rechunk-clause-uses c = asks c.args.nodes.now c.args.k c.index-nodes-k.result c.requires.sound (slice_get_at c.args.nodes.now c.args.k c.index-nodes-k.result c.requires.there c.index-nodes-k.is) (Rechunk c.in-Rechunk.of c.in-Rechunk.chunks) c.args.first.now c.args.last.now c.args.needs.now c.use_same-in-Rechunk.new.needs c.in-Rechunk.is c.use_same-in-Rechunk.ensures.uses

pub use_branches-requires-clause-can : goal.use_branches-requires-clause-can
use_branches-requires-clause-can c = subst (CanAskAll c.args.nodes.now c.args.needs.now) (sym c.as_slice-in-Concatenate.ensures) (can-all c.args.nodes.now c.args.k c.index-nodes-k.result c.requires.sound (slice_get_at c.args.nodes.now c.args.k c.index-nodes-k.result c.requires.there c.index-nodes-k.is) c.args.needs.now c.in-Concatenate.of (names c.args.nodes.now c.args.k c.index-nodes-k.result c.requires.sound (slice_get_at c.args.nodes.now c.args.k c.index-nodes-k.result c.requires.there c.index-nodes-k.is) (Concatenate c.in-Concatenate.of c.in-Concatenate.axis) c.in-Concatenate.is) c.requires.room c.requires.fit)

pub use_branches-requires-clause-inside : goal.use_branches-requires-clause-inside
use_branches-requires-clause-inside c = subst (λ of. IsJoinedRange c.args.nodes.now of c.in-Concatenate.axis c.args.first.now c.args.last.now) (sym c.as_slice-in-Concatenate.ensures) (joined-range c.args.nodes.now c.args.k c.index-nodes-k.result c.requires.sound (slice_get_at c.args.nodes.now c.args.k c.index-nodes-k.result c.requires.there c.index-nodes-k.is) c.in-Concatenate.of c.in-Concatenate.axis c.args.first.now c.args.last.now c.in-Concatenate.is c.requires.inside)

pub returns-in-Concatenate-clause-uses : goal.returns-in-Concatenate-clause-uses
returns-in-Concatenate-clause-uses c = asks c.args.nodes.now c.args.k c.index-nodes-k.result c.requires.sound (slice_get_at c.args.nodes.now c.args.k c.index-nodes-k.result c.requires.there c.index-nodes-k.is) (Concatenate c.in-Concatenate.of c.in-Concatenate.axis) c.args.first.now c.args.last.now c.args.needs.now c.use_branches.new.needs c.in-Concatenate.is (subst (λ of. Widens (IsUsed c.args.first.now c.args.last.now (IsInBranches (shape_at c.args.nodes.now) c.in-Concatenate.axis of (length of))) c.args.needs.now c.use_branches.new.needs) c.as_slice-in-Concatenate.ensures c.use_branches.ensures.uses)

pub use_folded-requires-clause-can : goal.use_folded-requires-clause-can
use_folded-requires-clause-can c = can c.args.nodes.now c.args.k c.index-nodes-k.result c.requires.sound (slice_get_at c.args.nodes.now c.args.k c.index-nodes-k.result c.requires.there c.index-nodes-k.is) c.args.needs.now c.in-Reduce.of (names c.args.nodes.now c.args.k c.index-nodes-k.result c.requires.sound (slice_get_at c.args.nodes.now c.args.k c.index-nodes-k.result c.requires.there c.index-nodes-k.is) (Reduce c.in-Reduce.fold c.in-Reduce.of c.in-Reduce.axes c.in-Reduce.split) c.in-Reduce.is) c.requires.room c.requires.fit

pub use_folded-requires-clause-inside : goal.use_folded-requires-clause-inside
use_folded-requires-clause-inside c = λ i f. kept-in c.args.nodes.now c.args.k c.index-nodes-k.result c.requires.sound (slice_get_at c.args.nodes.now c.args.k c.index-nodes-k.result c.requires.there c.index-nodes-k.is) c.in-Reduce.fold c.in-Reduce.of c.in-Reduce.axes c.in-Reduce.split i c.in-Reduce.is (c.requires.inside i f)

pub returns-in-Reduce-clause-uses : goal.returns-in-Reduce-clause-uses
returns-in-Reduce-clause-uses c = on-ok c.use_folded.result (Widens (IsUsed c.args.first.now c.args.last.now (IsAlong c.in-Reduce.of (shape_at c.args.nodes.now c.in-Reduce.of) (folded_axes c.in-Reduce.axes (length (shape_at c.args.nodes.now c.in-Reduce.of))))) c.args.needs.now c.use_folded.new.needs) (AsksOperands c.args.nodes.now c.args.k c.args.first.now c.args.last.now c.args.needs.now c.use_folded.new.needs)
    (λ w. asks c.args.nodes.now c.args.k c.index-nodes-k.result c.requires.sound (slice_get_at c.args.nodes.now c.args.k c.index-nodes-k.result c.requires.there c.index-nodes-k.is) (Reduce c.in-Reduce.fold c.in-Reduce.of c.in-Reduce.axes c.in-Reduce.split) c.args.first.now c.args.last.now c.args.needs.now c.use_folded.new.needs c.in-Reduce.is w) c.use_folded.ensures.uses

pub use_paired-requires-clause-left : goal.use_paired-requires-clause-left
use_paired-requires-clause-left c = can c.args.nodes.now c.args.k c.index-nodes-k.result c.requires.sound (slice_get_at c.args.nodes.now c.args.k c.index-nodes-k.result c.requires.there c.index-nodes-k.is) c.args.needs.now c.in-Tensordot.left (names c.args.nodes.now c.args.k c.index-nodes-k.result c.requires.sound (slice_get_at c.args.nodes.now c.args.k c.index-nodes-k.result c.requires.there c.index-nodes-k.is) (Tensordot c.in-Tensordot.left c.in-Tensordot.right c.in-Tensordot.left_axes c.in-Tensordot.right_axes) c.in-Tensordot.is).0 c.requires.room c.requires.fit

pub use_paired-requires-clause-right : goal.use_paired-requires-clause-right
use_paired-requires-clause-right c = can c.args.nodes.now c.args.k c.index-nodes-k.result c.requires.sound (slice_get_at c.args.nodes.now c.args.k c.index-nodes-k.result c.requires.there c.index-nodes-k.is) c.args.needs.now c.in-Tensordot.right (names c.args.nodes.now c.args.k c.index-nodes-k.result c.requires.sound (slice_get_at c.args.nodes.now c.args.k c.index-nodes-k.result c.requires.there c.index-nodes-k.is) (Tensordot c.in-Tensordot.left c.in-Tensordot.right c.in-Tensordot.left_axes c.in-Tensordot.right_axes) c.in-Tensordot.is).1 c.requires.room c.requires.fit

pub use_paired-requires-clause-inside : goal.use_paired-requires-clause-inside
use_paired-requires-clause-inside c = λ i f.
    subst (λ xs. IsIn (kept_shape 0 (shape_at c.args.nodes.now c.in-Tensordot.left) xs ++ kept_shape 0 (shape_at c.args.nodes.now c.in-Tensordot.right) c.as_slice-in-Tensordot-2.result.now) i) (sym c.as_slice-in-Tensordot.ensures)
    (subst (λ xs. IsIn (kept_shape 0 (shape_at c.args.nodes.now c.in-Tensordot.left) c.in-Tensordot.left_axes ++ kept_shape 0 (shape_at c.args.nodes.now c.in-Tensordot.right) xs) i) (sym c.as_slice-in-Tensordot-2.ensures) (paired-in c.args.nodes.now c.args.k c.index-nodes-k.result c.requires.sound (slice_get_at c.args.nodes.now c.args.k c.index-nodes-k.result c.requires.there c.index-nodes-k.is) c.in-Tensordot.left c.in-Tensordot.right c.in-Tensordot.left_axes c.in-Tensordot.right_axes i c.in-Tensordot.is (c.requires.inside i f)))

pub returns-in-Tensordot-clause-uses : goal.returns-in-Tensordot-clause-uses
returns-in-Tensordot-clause-uses c = let uses : List ℕ → List ℕ → List ℕ → ℕ → List ℕ → Type 0 = λ xs ys i k j. IsAlong c.in-Tensordot.left (shape_at c.args.nodes.now c.in-Tensordot.left) xs (take (kept_number (shape_at c.args.nodes.now c.in-Tensordot.left) xs) i) k j ⊎ IsAlong c.in-Tensordot.right (shape_at c.args.nodes.now c.in-Tensordot.right) ys (drop (kept_number (shape_at c.args.nodes.now c.in-Tensordot.left) xs) i) k j in
    on-ok c.use_paired.result (Widens (IsUsed c.args.first.now c.args.last.now (uses c.as_slice-in-Tensordot.result.now c.as_slice-in-Tensordot-2.result.now)) c.args.needs.now c.use_paired.new.needs) (AsksOperands c.args.nodes.now c.args.k c.args.first.now c.args.last.now c.args.needs.now c.use_paired.new.needs)
    (λ w. asks c.args.nodes.now c.args.k c.index-nodes-k.result c.requires.sound (slice_get_at c.args.nodes.now c.args.k c.index-nodes-k.result c.requires.there c.index-nodes-k.is) (Tensordot c.in-Tensordot.left c.in-Tensordot.right c.in-Tensordot.left_axes c.in-Tensordot.right_axes) c.args.first.now c.args.last.now c.args.needs.now c.use_paired.new.needs c.in-Tensordot.is
    (subst (λ xs. Widens (IsUsed c.args.first.now c.args.last.now (uses xs c.in-Tensordot.right_axes)) c.args.needs.now c.use_paired.new.needs) c.as_slice-in-Tensordot.ensures (subst (λ ys. Widens (IsUsed c.args.first.now c.args.last.now (uses c.as_slice-in-Tensordot.result.now ys)) c.args.needs.now c.use_paired.new.needs) c.as_slice-in-Tensordot-2.ensures w))) c.use_paired.ensures.uses
