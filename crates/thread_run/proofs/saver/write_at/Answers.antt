use Rattle.std.proofs.Common.{sym, ◌∙◌}
use Rattle.thread_run.proofs.Writes.{at-box, is-none}
use Rattle.thread_run.proofs.saver.write_at.Goals as goal

pub returns-then-stands : goal.returns-then-stands
returns-then-stands g c =
    at-box g.L.Label.facts c.args.layout.now c.args.keys.now c.args.key c.args.place c.args.number c.args.block.now c.args.before c.write_box.result c.args.files.now c.write_box.new.files (is-none c.args.before (sym c.is_some.ensures ∙ c.if-is_some.false))
    c.requires.dims (c.stands_at-stands.ensures.there c.if-stands.true) (c.stands_at-stands.ensures.is c.if-stands.true) c.requires.stands c.requires.fits c.write_box.ensures.changes c.write_box.ensures.filled c.write_box.ensures.part c.write_box.ensures.failed
