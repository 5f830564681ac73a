use Rattle.std.proofs.Common.{map, string_bytes, ap, ◌∙◌, Err}
use Rattle.std.proofs.lemmas.List.{length-map}
use Rattle.dask_top.proofs.Unread.{fault_performs, memory_performs, text_performs}
use Rattle.dask_top.proofs.command.open_job.Goals as goal

pub returns-in-Err-Failed-clause-ends : goal.returns-in-Err-Failed-clause-ends
returns-in-Err-Failed-clause-ends g c = fault_performs (map string_bytes c.args.names.now) (g.S.Site.view c.args.site.now) (g.S.Site.view c.read_text.new.site) (g.S.Site.view c.tell_text.new.site) c.tell_text.result
    c.read_text.ensures.opens c.read_text.ensures.only (c.in-Err-Failed.ensures.cause.failed (ap Err c.in-Err-Failed.field-0-is)) c.tell_text.ensures.told c.tell_text.ensures.only c.tell_text.ensures.notes

pub returns-in-Err-OutOfMemory-clause-ends : goal.returns-in-Err-OutOfMemory-clause-ends
returns-in-Err-OutOfMemory-clause-ends g c = memory_performs (map string_bytes c.args.names.now) (g.S.Site.view c.args.site.now) (g.S.Site.view c.read_text.new.site) (g.S.Site.view c.tell_text-in-Err-OutOfMemory.new.site) c.tell_text-in-Err-OutOfMemory.result
    c.read_text.ensures.opens c.read_text.ensures.only c.tell_text-in-Err-OutOfMemory.ensures.told c.tell_text-in-Err-OutOfMemory.ensures.only c.tell_text-in-Err-OutOfMemory.ensures.notes

pub returns-clause-ends : goal.returns-clause-ends
returns-clause-ends g c = text_performs (map string_bytes c.args.names.now) (g.S.Site.view c.args.site.now) (g.S.Site.view c.read_text.new.site) (g.S.Site.view c.tell_text-in-Err.new.site) c.deref.result.now c.in-Err.end c.tell_text-in-Err.result
    (record { one = length-map _ _ ∙ c.requires.one; opens = c.read_text.ensures.opens; opened = c.in-Ok.ensures.opened; only = c.read_text.ensures.only; later = c.read_text.ensures.cause.later; there = c.in-Ok.ensures.there; same = rw c.deref.ensures.value c.in-Ok.ensures.text; given = rw c.deref.ensures.value c.in-Ok.ensures.given })
    c.in-Err.ensures.ends c.tell_text-in-Err.ensures.told c.tell_text-in-Err.ensures.only c.tell_text-in-Err.ensures.notes
