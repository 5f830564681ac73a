use Rattle.std.proofs.Common.{◌∙◌, refl}
use Rattle.std.proofs.lemmas.Result.{on_err_weaker, on_ok_weaker}
use Rattle.saved_files.specs.Kept.{saving_of}
use Rattle.saved_files.proofs.Written.{fills_more, fills_part, size_kept}
use Rattle.saved_files.proofs.open.write_block.Goals as goal

pub returns-clause-filled : goal.returns-clause-filled
returns-clause-filled g c =
    let k = c.requires.kept in
    let f = saving_of g.F.OutFile.named g.F.OutFile.content g.F.OutFile.count in
    let head = c.args.out.now.head in
    on_ok_weaker c.write_region.result (λ t. fills_more head c.args.region.now c.args.block.now (f c.args.out.now) (f (record { file = c.write_region.new.file; head = head }))
    (record { rows = k.rows; eight = k.width; begins = k.begins; room = k.room; dims = refl }) t) c.write_region.ensures.written

pub returns-clause-part : goal.returns-clause-part
returns-clause-part g c =
    let k = c.requires.kept in
    let f = saving_of g.F.OutFile.named g.F.OutFile.content g.F.OutFile.count in
    let head = c.args.out.now.head in
    on_err_weaker c.write_region.result (λ t. fills_part head c.args.region.now c.args.block.now (f c.args.out.now) (f (record { file = c.write_region.new.file; head = head }))
    (record { rows = k.rows; eight = k.width; begins = k.begins; room = k.room; dims = refl }) t) c.write_region.ensures.part

pub returns-clause-still : goal.returns-clause-still
returns-clause-still g c =
    let k = c.requires.kept in
    let e = size_kept c.write_region.result c.args.out.now.head c.args.region.now c.args.block.now (g.F.OutFile.content c.args.out.now.file) (g.F.OutFile.content c.write_region.new.file) c.write_region.ensures.written c.write_region.ensures.part in
    record { rows = k.rows; width = k.width; little = k.little; begins = k.begins; near = k.near; room = e ∙ k.room }
