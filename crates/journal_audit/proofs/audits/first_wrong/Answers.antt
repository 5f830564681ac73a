use Rattle.std.proofs.Common.{◌∙◌}
use Rattle.journal_audit.proofs.AuditLemmas.{goes_both, differs_here, replayed_next}
use Rattle.journal_audit.proofs.audits.first_wrong.Goals as goal

pub returns-then-not-branch-clause-wrong : goal.returns-then-not-branch-clause-wrong
returns-then-not-branch-clause-wrong g c = λ t h.
    let w = c.loop-entry.invariant.replayed t h in
    differs_here g.J.JobSpec.feed_tells g.J.JobSpec.operation c.args.entries.now c.loop-entry.entry-index c.entry-item.result c.args.world.now c.loop-entry.world c.loop-entry.invariant.on c.loop-entry-test.true c.entry-item.is w
    (c.in_ok-takes.ensures.refused c.if-not-branch.true _ w)

pub loop-entry-preserved : goal.loop-entry-preserved
loop-entry-preserved g c =
    let on = c.loop-entry.invariant.on in
    record {
      on = goes_both g.J.JobSpec.feed_tells c.args.world.now c.loop-entry.world c.takes.new.world on (c.in_ok-takes.ensures.on c.if-not-branch.false);
      replayed = λ t h.
          let w = c.loop-entry.invariant.replayed t h in
          replayed_next g.J.JobSpec.feed_tells g.J.JobSpec.operation c.args.entries.now c.loop-entry.entry-index c.entry-item.result c.args.world.now c.loop-entry.world on c.loop-entry-test.true c.entry-item.is w c.takes.new.world
          (c.in_ok-takes.ensures.took c.if-not-branch.false (on.tells_is.1 t) _ w);
      counts = c.in_ok-takes.ensures.counts ∙ c.loop-entry.invariant.counts;
    }
