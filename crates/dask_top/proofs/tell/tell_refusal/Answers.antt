use Rattle.std.proofs.Common.{◌∙◌}
use Rattle.dask_top.proofs.Telling.{printed_notes}
use Rattle.dask_top.proofs.tell.tell_refusal.Goals as goal

pub returns-in-Ok-clause-notes : goal.returns-in-Ok-clause-notes
returns-in-Ok-clause-notes g c reading same = printed_notes c.as_bytes.result.now reading (g.S.Site.view c.args.site.now) (g.S.Site.view c.note.new.site) c.args.end c.requires c.note.ensures.line (c.as_bytes.ensures.value ∙ (rw c.in-Ok.is at same))
