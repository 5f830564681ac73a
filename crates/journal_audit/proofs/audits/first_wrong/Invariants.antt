use Rattle.std.proofs.Common.{◌≡◌, [], take}
use Rattle.journal_audit.specs.Replays.{GoesOn, HasReplayed}
use Rattle.journal_audit.proofs.audits.first_wrong.Given as goal

abbrev pub invariant-loop-entry : goal.invariant-loop-entry
invariant-loop-entry g l = record {
  on : GoesOn g.J.JobSpec.feed_tells l.fn.world l.world;
  replayed : g.J.JobSpec.feed_tells l.fn.world.job l.fn.world.feed → HasReplayed g.J.JobSpec.operation [] l.fn.world →
      HasReplayed g.J.JobSpec.operation (take l.entry-index l.entries) l.world;
  counts : g.J.JobSpec.fault_count l.world.feed ≡ g.J.JobSpec.fault_count l.fn.world.feed;
}
