use Rattle.std.proofs.Common.{◌∙◌, sym, ap, List, ℕ, Ok}
use Rattle.std.proofs.lemmas.List.{length-map}
use Rattle.nd_shape.specs.Block.{Array}
use Rattle.block_kernels.specs.Inputs.{blocks_of, shapes_of}
use Rattle.block_kernels.proofs.Assembling.{assembled-filled}
use Rattle.block_kernels.proofs.assemble.assemble.Goals as goal

pub returns : goal.returns
returns c =
    assembled-filled c.args.pieces.now (blocks_of c.args.inputs.now) (shapes_of (blocks_of c.args.inputs.now)) c.args.shape.now c.in_ok-cells.cells.items c.requires.each (length-map (blocks_of c.args.inputs.now) (λ (b : Array). b.shape)) c.requires.once
    c.in_ok-cells.ensures.size c.in_ok-cells.ensures.painted
    ∙ ap (λ (ns : List ℕ). Ok (record { shape = ns; cells = c.in_ok-cells.cells.items })) (sym c.in_ok-copy.ensures)
    ∙ ap Ok (sym c.new.ensures)
