use Rattle.std.proofs.Common.{string_bytes, sym, subst}
use Rattle.io_edge.specs.Memory.{memory_view}
use Rattle.job_run.specs.Jobs.{plan_of}
use Rattle.gen_run.specs.declared.ends.GenEnded.{GenEnded}
use Rattle.gen_run.specs.Ends.{Cause}
use Rattle.gen_run.proofs.Alone.{are-settings, cause-alone, holds-first, lines-alone}
use Rattle.gen_run.proofs.simulated.simulate_alone.Goals as goal

pub save_simulated-requires-clause-words : goal.save_simulated-requires-clause-words
save_simulated-requires-clause-words c κs = are-settings c.args.words c.unscripted.result c.requires.words c.unscripted.ensures

pub digest-requires-clause-held : goal.digest-requires-clause-held
digest-requires-clause-held c =
    holds-first (plan_of c.args.job.now) c.args.words c.unscripted.result c.unscripted.ensures c.requires.runs (memory_view c.in_ok-site.site) (memory_view c.save_simulated.new.site)
    c.in-Ok.served.report c.in-Ok.served.turns c.in_ok-site.ensures.view c.in-Ok.ensures.saved

pub returns-in-Ok-clause-lines : goal.returns-in-Ok-clause-lines
returns-in-Ok-clause-lines c =
    lines-alone (plan_of c.args.job.now) c.args.words c.unscripted.result c.unscripted.ensures c.requires.runs (memory_view c.in_ok-site.site) (memory_view c.save_simulated.new.site)
    c.in-Ok.served.report c.in-Ok.served.turns c.in_ok-site.ensures.view c.in-Ok.ensures.saved (string_bytes c.in_ok-digest-in-Ok.field-0) c.in_ok-digest-in-Ok.ensures

pub returns-clause-cause : goal.returns-clause-cause
returns-clause-cause c =
    let C : GenEnded → Type 0 = λ e. Cause (plan_of c.args.job.now) c.args.words e in
    subst C (sym c.ended.ensures) (cause-alone (plan_of c.args.job.now) c.args.words c.unscripted.result c.unscripted.ensures (memory_view c.in_ok-site.site) (memory_view c.save_simulated.new.site) c.in-Err.end c.in_ok-site.ensures.view c.in-Err.ensures.ended)
