use Rattle.std.proofs.Common.{sym, subst}
use Rattle.dask_top.specs.declared.answer.End.{End}
use Rattle.dask_top.specs.Ends.{Notes, line_of}
use Rattle.dask_top.proofs.tell.tell_text.Goals as goal

pub returns-in-Events-clause-notes : goal.returns-in-Events-clause-notes
unfolding line_of
returns-in-Events-clause-notes g c reading = let P : End → Type 0 = λ e. Notes reading (g.S.Site.view c.args.site.now) (g.S.Site.view c.note-in-Events.new.site) e in subst P (sym c.in-Events.is) c.note-in-Events.ensures.line

pub returns-in-ReadFault-clause-notes : goal.returns-in-ReadFault-clause-notes
unfolding line_of
returns-in-ReadFault-clause-notes g c reading = let P : End → Type 0 = λ e. Notes reading (g.S.Site.view c.args.site.now) (g.S.Site.view c.note-in-ReadFault.new.site) e in subst P (sym c.in-ReadFault.is) c.note-in-ReadFault.ensures.line

pub returns-in-WriteFault-clause-notes : goal.returns-in-WriteFault-clause-notes
unfolding line_of
returns-in-WriteFault-clause-notes g c reading = let P : End → Type 0 = λ e. Notes reading (g.S.Site.view c.args.site.now) (g.S.Site.view c.note-in-WriteFault.new.site) e in subst P (sym c.in-WriteFault.is) c.note-in-WriteFault.ensures.line

pub returns-in-OutOfMemory-clause-notes : goal.returns-in-OutOfMemory-clause-notes
unfolding line_of
returns-in-OutOfMemory-clause-notes g c reading = let P : End → Type 0 = λ e. Notes reading (g.S.Site.view c.args.site.now) (g.S.Site.view c.note-in-OutOfMemory.new.site) e in subst P (sym c.in-OutOfMemory.is) c.note-in-OutOfMemory.ensures.line
