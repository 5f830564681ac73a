use Rattle.std.proofs.Common.{◌∙◌, ap, rules, take, take_at, drop, length, slice_index_or, []}
use Rattle.io_edge.proofs.GivenLaws.{front_read}
use Rattle.dask_top.proofs.files.read_front.Goals as goal

pub returns-clause-given : goal.returns-clause-given
returns-clause-given g c = λ holds agree.
    let front = front_read (holds (slice_index_or (g.I.Store.names c.args.store.now) 0 [])) c.deref_mut.result.now c.read_full.new.buf c.in_ok-count.count c.args.most (c.in_ok-count.ensures.given holds agree) (search rules) in
    let whole = take_at c.read_full.new.buf (drop (length c.read_full.new.buf) c.in_ok-text.text.items) c.in_ok-text.text.len (search rules) in
    c.truncate.ensures.items ∙ (ap (take c.in_ok-count.count) whole ∙ front)
