use Rattle.std.proofs.Common.{Err, sym, ap, ◌∙◌}
use Rattle.std.proofs.lemmas.Bool.{false≢true}
use Rattle.cluster_world.proofs.Stepwise.{going_starved}
use Rattle.journal_audit.proofs.AuditLemmas.{refused_message, refused_event, replayed_more}
use Rattle.journal_audit.proofs.audits.takes.Goals as goal

pub returns-then-not-same_taken-clause-refused : goal.returns-then-not-same_taken-clause-refused
returns-then-not-same_taken-clause-refused g c = λ q es h l.
    let e = refused_message g.J.JobSpec.operation es c.args.entry.now c.args.world.now h l in
    let first = c.message.ensures.message (λ s. going_starved (sym c.requires.going ∙ s)) in
    false≢true (sym c.if-not-same_taken.true ∙ c.same_taken.ensures.1 (first ∙ sym e ∙ sym c.as_ref.ensures.value))

pub returns-in-Ok-clause-took : goal.returns-in-Ok-clause-took
returns-in-Ok-clause-took g c = λ q t es h.
    let first = c.message.ensures.message (λ s. going_starved (sym c.requires.going ∙ s)) in
    let kept = sym c.as_ref.ensures.value ∙ sym (c.same_taken.ensures.0 c.if-not-same_taken.false) ∙ first in
    replayed_more g.J.JobSpec.operation es c.args.entry.now c.args.world.now c.step.new.self c.in-Ok.ensures.job c.in-Ok.ensures.setting kept (c.in-Ok.ensures.made t _ h.made) h

pub returns-in-Err-NotEnabled-clause-refused : goal.returns-in-Err-NotEnabled-clause-refused
returns-in-Err-NotEnabled-clause-refused g c = λ q es h l.
    let off = (c.step.ensures.not_enabled.0 (c.in-Err-NotEnabled.is ∙ ap (λ e. Err e) c.in-Err-NotEnabled.field-0-is)).1 in
    false≢true (sym off ∙ refused_event g.J.JobSpec.operation es c.args.entry.now c.args.world.now h l)
