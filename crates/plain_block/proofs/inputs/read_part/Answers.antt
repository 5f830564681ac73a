use Rattle.std.proofs.Common.{Option, sym, subst}
use Rattle.std.specs.Prelude.{IfOk}
use Rattle.io_edge.specs.Content.{file_at}
use Rattle.nd_shape.specs.Region.{Box}
use Rattle.plain_block.specs.Files.{IsRead}
use Rattle.plain_block.proofs.Parts.{read-nothing}
use Rattle.plain_block.proofs.Reading.{refused-of}
use Rattle.plain_block.proofs.inputs.read_part.Goals as goal

pub returns-in_ok-empty-in-None-clause-block : goal.returns-in_ok-empty-in-None-clause-block
returns-in_ok-empty-in-None-clause-block g c = read-nothing (file_at (g.S.Store.files c.args.store.now) c.args.file) c.args.head.now c.args.region.now c.in_ok-empty-in-None.empty c.in-None.is c.in_ok-empty-in-None.ensures

pub returns-in-Some-clause-block : goal.returns-in-Some-clause-block
returns-in-Some-clause-block g c =
    subst (λ (r : Option Box). IfOk c.read_box.result (λ block. IsRead (file_at (g.S.Store.files c.args.store.now) c.args.file) c.args.head.now r block)) (sym c.in-Some.is) c.read_box.ensures.block

pub returns-in-Some-clause-refused : goal.returns-in-Some-clause-refused
returns-in-Some-clause-refused g c =
    refused-of c.read_box.result (file_at (g.S.Store.files c.args.store.now) c.args.file) c.args.head.now c.args.region.now c.in-Some.needed c.in-Some.is c.read_box.ensures.refused
