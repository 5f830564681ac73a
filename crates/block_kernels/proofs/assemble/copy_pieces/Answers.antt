use Rattle.std.proofs.Common.{arith, ◌≡◌, ◌-◌, sym, subst, drop}
use Rattle.std.specs.Arc.{arc_value}
use Rattle.std.proofs.lemmas.List.{length-map}
use Rattle.nd_shape.specs.Block.{Array}
use Rattle.nd_shape.specs.Region.{IsPart}
use Rattle.block_kernels.specs.Inputs.{blocks_of, grids_of, shapes_of}
use Rattle.block_kernels.specs.WellFormed.{FitsPiece}
use Rattle.block_kernels.specs.Assembling.{Painted}
use Rattle.block_kernels.proofs.Assembling.{painted-start, painted-step}
use Rattle.block_kernels.proofs.assemble.copy_pieces.Goals as goal

pub loop-left-init : goal.loop-left-init
loop-left-init c = record { inside = omega arith; room = c.requires.room; painted = painted-start c.args.pieces.now (grids_of (blocks_of c.args.inputs.now)) c.args.shape.now c.args.cells.now }

pub input_at-requires : goal.input_at-requires
input_at-requires c =
    let f : FitsPiece c.index-pieces-left.result (shapes_of (blocks_of c.args.inputs.now)) c.args.shape.now =
    subst (λ x. FitsPiece x (shapes_of (blocks_of c.args.inputs.now)) c.args.shape.now) (sym c.index-pieces-left.is) (c.requires.pieces (c.loop-left.left - 1) c.index-pieces-left.result (omega (arith, c.loop-left.invariant.inside))) in
    omega (arith, f.source_in, length-map (blocks_of c.args.inputs.now) (λ (b : Array). b.shape), length-map c.args.inputs.now arc_value)

pub copy_piece-requires-clause-from : goal.copy_piece-requires-clause-from
copy_piece-requires-clause-from c =
    let f : FitsPiece c.index-pieces-left.result (shapes_of (blocks_of c.args.inputs.now)) c.args.shape.now =
    subst (λ x. FitsPiece x (shapes_of (blocks_of c.args.inputs.now)) c.args.shape.now) (sym c.index-pieces-left.is) (c.requires.pieces (c.loop-left.left - 1) c.index-pieces-left.result (omega (arith, c.loop-left.invariant.inside))) in
    subst (IsPart c.index-pieces-left.result.from) (sym c.input_at.ensures.shape) f.source

pub copy_piece-requires-clause-to : goal.copy_piece-requires-clause-to
copy_piece-requires-clause-to c =
    let f : FitsPiece c.index-pieces-left.result (shapes_of (blocks_of c.args.inputs.now)) c.args.shape.now =
    subst (λ x. FitsPiece x (shapes_of (blocks_of c.args.inputs.now)) c.args.shape.now) (sym c.index-pieces-left.is) (c.requires.pieces (c.loop-left.left - 1) c.index-pieces-left.result (omega (arith, c.loop-left.invariant.inside))) in
    f.result

pub copy_piece-requires-clause-same : goal.copy_piece-requires-clause-same
copy_piece-requires-clause-same c =
    let f : FitsPiece c.index-pieces-left.result (shapes_of (blocks_of c.args.inputs.now)) c.args.shape.now =
    subst (λ x. FitsPiece x (shapes_of (blocks_of c.args.inputs.now)) c.args.shape.now) (sym c.index-pieces-left.is) (c.requires.pieces (c.loop-left.left - 1) c.index-pieces-left.result (omega (arith, c.loop-left.invariant.inside))) in
    f.same

pub loop-left-preserved : goal.loop-left-preserved
loop-left-preserved c =
    let f : FitsPiece c.index-pieces-left.result (shapes_of (blocks_of c.args.inputs.now)) c.args.shape.now =
    subst (λ x. FitsPiece x (shapes_of (blocks_of c.args.inputs.now)) c.args.shape.now) (sym c.index-pieces-left.is) (c.requires.pieces (c.loop-left.left - 1) c.index-pieces-left.result (omega (arith, c.loop-left.invariant.inside))) in
    record {
      inside = omega (arith, c.loop-left.invariant.inside);
      room = omega (arith, c.copy_piece.auto.cells, c.loop-left.invariant.room);
      painted = painted-step c.args.pieces.now (c.loop-left.left - 1) c.loop-left.left c.index-pieces-left.result (grids_of (blocks_of c.args.inputs.now)) c.args.shape.now c.input_at.result.now c.loop-left.cells c.copy_piece.new.cells
          (omega arith) c.loop-left.invariant.inside c.index-pieces-left.is (sym c.input_at.ensures.grid) f.result c.loop-left.invariant.painted c.in_ok-copy_piece.ensures;
    }

pub returns : goal.returns
returns c =
    let none : c.loop-left.left ≡ 0 = omega arith in
    subst (λ k. Painted (drop k c.args.pieces.now) (grids_of (blocks_of c.args.inputs.now)) c.args.shape.now c.loop-left.cells) none c.loop-left.invariant.painted
