use Rattle.std.proofs.Common.{◌≡◌, ◌∙◌, false, length, refl, sym}
use Rattle.npy_codec.specs.Npy.{header}
use Rattle.saved_files.specs.Kept.{saving_of}
use Rattle.saved_files.proofs.Created.{fresh_of, kept_of}
use Rattle.saved_files.proofs.open.open_file.Goals as goal

pub returns-clause-fresh : goal.returns-clause-fresh
returns-clause-fresh g c =
    let is : c.deref.result.now ≡ header c.args.shape.now = c.deref.ensures.value ∙ c.in_ok-front.ensures.bytes in
    fresh_of (g.S.Site.view c.args.site.now).files.tells c.args.name.now c.args.shape.now c.deref.result.now
    (saving_of g.S.Out.OutFile.named g.S.Out.OutFile.content g.S.Out.OutFile.count (record { file = c.in_ok-file.file; head = record { shape = c.in_ok-copy.field-0; fortran = false; data_at = c.len.result; width = 8; big = false } }))
    c.in_ok-file.ensures.named c.in_ok-copy.ensures c.in_ok-file.ensures.faults is c.in_ok-file.ensures.content

pub returns-clause-kept : goal.returns-clause-kept
returns-clause-kept g c =
    let is : c.deref.result.now ≡ header c.args.shape.now = c.deref.ensures.value ∙ c.in_ok-front.ensures.bytes in
    let at : c.len.result ≡ length c.deref.result.now = c.len.ensures ∙ sym c.deref.ensures.len in
    kept_of g.S.Out.OutFile.content (g.S.Site.view c.args.site.now).files.tells c.args.shape.now c.deref.result.now
    (record { file = c.in_ok-file.file; head = record { shape = c.in_ok-copy.field-0; fortran = false; data_at = c.len.result; width = 8; big = false } })
    refl refl refl c.in_ok-copy.ensures at c.in_ok-front.ensures.short is c.in_ok-file.ensures.content
