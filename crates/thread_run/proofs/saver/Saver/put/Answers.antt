use Rattle.std.proofs.Common.{subst}
use Rattle.thread_run.specs.Saver.{Saves, SavesOn}
use Rattle.thread_run.proofs.Writes.{put-on, put-saved}
use Rattle.thread_run.proofs.saver.Saver.put.Goals as goal

pub invariant_of-self : goal.invariant_of-self
invariant_of-self g c =
    let s = c.self.inside in
    put-saved g.L.Label.facts s.wanted.now c.args.key s.files c.write_key-fault.new.files s.had.items c.mark.new.had.items s.fault c.write_key-fault.result c.args.block.now c.self.invariant c.write_key-fault.ensures c.mark.ensures c.requires.fits

pub returns-clause-on : goal.returns-clause-on
returns-clause-on g c =
    let s = c.self.inside in
    let after : Saves = record { files = c.write_key-fault.new.files; had = c.mark.new.had.items; fault = c.write_key-fault.result; wanted = s.wanted.now } in
    subst (λ (before : Saves). SavesOn before after) c.self.view_is
    (put-on g.L.Label.facts s.wanted.now c.args.key s.files c.write_key-fault.new.files s.had.items c.mark.new.had.items s.fault c.write_key-fault.result c.write_key-fault.ensures c.mark.ensures)
