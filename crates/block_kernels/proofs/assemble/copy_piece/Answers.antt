use Rattle.std.proofs.Common.{arith, ◌∙◌, sym, ap, subst}
use Rattle.nd_shape.specs.Shape.{elements}
use Rattle.nd_shape.specs.Region.{IsPart}
use Rattle.nd_shape.proofs.Axes.{part-shape}
use Rattle.block_kernels.specs.Assembling.{Runs}
use Rattle.block_kernels.proofs.Assembling.{paints-start}
use Rattle.block_kernels.proofs.assemble.copy_piece.Goals as goal

pub returns-then-elements-eq0 : goal.returns-then-elements-eq0
returns-then-elements-eq0 c =
    paints-start c.args.piece.now.from.start c.args.piece.now.to c.args.shape.now c.args.source.now (elements c.args.piece.now.to.lengths) c.args.cells.now (omega (arith, c.elements.ensures, ap elements c.in_ok-lengths.ensures))

pub run_length-run-requires-clause-to : goal.run_length-run-requires-clause-to
run_length-run-requires-clause-to c = subst (IsPart c.args.piece.now.to) (sym c.dims.ensures.dims) c.requires.to

pub run_length-run-requires-clause-from : goal.run_length-run-requires-clause-from
run_length-run-requires-clause-from c = subst (IsPart c.args.piece.now.from) (sym (c.dims-2.ensures.dims ∙ c.shape-2.ensures.value)) c.requires.from

pub run_length-run-requires-clause-small : goal.run_length-run-requires-clause-small
run_length-run-requires-clause-small c = (part-shape c.args.piece.now.to c.args.shape.now c.requires.to c.dims.ensures.limits).product

pub run_length-run-requires-clause-some : goal.run_length-run-requires-clause-some
run_length-run-requires-clause-some c = omega (arith, c.elements.ensures, ap elements c.in_ok-lengths.ensures)

pub copy_runs-requires-clause-to_runs : goal.copy_runs-requires-clause-to_runs
copy_runs-requires-clause-to_runs c = subst (λ ns. Runs ns c.args.piece.now.to.start c.args.piece.now.to.lengths c.run_length-run.result) c.dims.ensures.dims c.run_length-run.ensures.to

pub copy_runs-requires-clause-from_runs : goal.copy_runs-requires-clause-from_runs
copy_runs-requires-clause-from_runs c =
    subst (λ ns. Runs ns c.args.piece.now.from.start c.args.piece.now.to.lengths c.run_length-run.result) (c.dims-2.ensures.dims ∙ c.shape-2.ensures.value) c.run_length-run.ensures.from

pub copy_runs-requires-clause-some : goal.copy_runs-requires-clause-some
copy_runs-requires-clause-some c = omega (arith, c.elements.ensures, ap elements c.in_ok-lengths.ensures)
