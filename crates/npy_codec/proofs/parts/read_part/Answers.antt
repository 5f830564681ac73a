use Rattle.std.proofs.Common.{◌∙◌, refl}
use Rattle.io_edge.proofs.GivenLaws.{more_same}
use Rattle.io_edge.specs.Content.{file_at}
use Rattle.npy_codec.proofs.GivenFronts.{part_given}
use Rattle.npy_codec.proofs.HeadLemmas.{part_of_buffer}
use Rattle.npy_codec.proofs.parts.read_part.Goals as goal

pub returns-clause-part : goal.returns-clause-part
returns-clause-part g c =
    let size = c.deref_mut.ensures.len ∙ c.in_ok-part.ensures.len in
    part_of_buffer _ _ c.read_full.new.buf _ c.args.offset _ c.args.size c.in_ok-part.part.len c.in_ok-read_full.ensures.read size (c.read_full.auto.buf ∙ size) c.in_ok-part.ensures.len c.requires.room

pub returns-in_err-part-clause-gave : goal.returns-in_err-part-clause-gave
returns-in_err-part-clause-gave g c = more_same _ _ refl

pub returns-clause-given : goal.returns-clause-given
returns-clause-given g c =
    let size = c.deref_mut.ensures.len ∙ c.in_ok-part.ensures.len in
    part_given (g.S.Store.names c.args.store.now) c.args.file (g.S.Store.gave c.args.store.now) (g.S.Store.gave c.read_full.new.store) _ c.read_full.new.buf _ (file_at (g.S.Store.files c.args.store.now) c.args.file) c.args.offset _ c.args.size c.in_ok-part.part.len
    c.in_ok-read_full.ensures.read size (c.read_full.auto.buf ∙ size) c.in_ok-part.ensures.len c.requires.room c.in_ok-read_full.ensures.gives
