use Rattle.std.proofs.Common.{◌≡◌, ◌∙◌, ap, sym}
use Rattle.std.specs.Prelude.{OnErr, OnOk}
use Rattle.io_edge.specs.Cause.{HasOpenCause}
use Rattle.saved_files.specs.Kept.{saving_of}
use Rattle.saved_files.specs.Saving.{FillsAll, FillsSome}
use Rattle.saved_files.proofs.Places.{at_place, replaces}
use Rattle.saved_files.proofs.files.SavedFiles.write_all.Goals as goal

pub returns-clause-changes : goal.returns-clause-changes
returns-clause-changes g c =
    let f = saving_of g.F.OutFile.named g.F.OutFile.content g.F.OutFile.count in
    let r = replaces f c.self.inside.files.items c.args.place c.index_mut-opened.result.now c.write_blocks.new.out c.args.self.now c.self.view_is c.requires.there c.index_mut-opened.ensures.value in
    record {
      count = r.count;
      others = r.others;
      name_is = ap (λ s. s.name) r.after ∙ (c.write_blocks.ensures.named ∙ ap (λ s. s.name) (sym r.before));
      dims_are = ap (λ s. s.dims) r.after ∙ (ap (λ h. h.shape) c.write_blocks.ensures.head ∙ ap (λ s. s.dims) (sym r.before));
    }

pub returns-clause-filled : goal.returns-clause-filled
returns-clause-filled g c =
    let f = saving_of g.F.OutFile.named g.F.OutFile.content g.F.OutFile.count in
    let r = replaces f c.self.inside.files.items c.args.place c.index_mut-opened.result.now c.write_blocks.new.out c.args.self.now c.self.view_is c.requires.there c.index_mut-opened.ensures.value in
    at_place (λ s t. OnOk c.write_blocks.result (FillsAll c.args.regions.now c.args.blocks.now s t)) c.args.place c.args.self.now _ (f c.index_mut-opened.result.now) (f c.write_blocks.new.out) r c.write_blocks.ensures.filled

pub returns-clause-part : goal.returns-clause-part
returns-clause-part g c =
    let f = saving_of g.F.OutFile.named g.F.OutFile.content g.F.OutFile.count in
    let r = replaces f c.self.inside.files.items c.args.place c.index_mut-opened.result.now c.write_blocks.new.out c.args.self.now c.self.view_is c.requires.there c.index_mut-opened.ensures.value in
    at_place (λ s t. OnErr c.write_blocks.result (FillsSome c.args.regions.now c.args.blocks.now s t)) c.args.place c.args.self.now _ (f c.index_mut-opened.result.now) (f c.write_blocks.new.out) r c.write_blocks.ensures.part

pub returns-clause-kept : goal.returns-clause-kept
returns-clause-kept g c =
    let f = saving_of g.F.OutFile.named g.F.OutFile.content g.F.OutFile.count in
    let r = replaces f c.self.inside.files.items c.args.place c.index_mut-opened.result.now c.write_blocks.new.out c.args.self.now c.self.view_is c.requires.there c.index_mut-opened.ensures.value in
    at_place (λ s t. OnOk c.write_blocks.result (t.faults ≡ s.faults)) c.args.place c.args.self.now _ (f c.index_mut-opened.result.now) (f c.write_blocks.new.out) r c.write_blocks.ensures.faults

pub returns-clause-cause : goal.returns-clause-cause
returns-clause-cause g c =
    let f = saving_of g.F.OutFile.named g.F.OutFile.content g.F.OutFile.count in
    let r = replaces f c.self.inside.files.items c.args.place c.index_mut-opened.result.now c.write_blocks.new.out c.args.self.now c.self.view_is c.requires.there c.index_mut-opened.ensures.value in
    at_place (λ s t. HasOpenCause s.faults t.faults c.write_blocks.result) c.args.place c.args.self.now _ (f c.index_mut-opened.result.now) (f c.write_blocks.new.out) r c.write_blocks.ensures.cause
