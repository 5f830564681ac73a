-- Every progress event lowers the measure: after every legal list of events the world is calm.
use Rattle.std.proofs.Common.{List}
use Rattle.cluster_msgs.specs.declared.events.Event.{Event}
use Rattle.cluster_rules.specs.World.{Job, IsJob}
use Rattle.cluster_rules.specs.Runs.{legal, reached}
use Rattle.safety_laws.proofs.Joint.{joint_after}
use Rattle.quiet_laws.proofs.Over.{old_after, fenced_after}
use Rattle.quiet_laws.proofs.After.{whole_after, vain_after}
use Rattle.quiet_laws.proofs.AskSteps.{asks_after}
use Rattle.quiet_laws.proofs.ListWorlds.{within_after}
use Rattle.quiet_laws.proofs.Truths.{others_after}
use Rattle.quiet_laws.specs.Quiet.{QuietlyEnds, ProgressFalls, StaysCalm}
use Rattle.quiet_laws.proofs.Falls.{calm_falls}
use Rattle.quiet_laws.proofs.Ends.{quietly_ends}

module _ (j : Job) (job : IsJob j) where
  pub stays_calm : StaysCalm j
  stays_calm es l = record {
    old = old_after j es;
    fenced = fenced_after j es;
    whole = whole_after j job es l;
    asks = asks_after j job es l;
    vain = vain_after j job es l;
    others = others_after j job es l;
  }

  pub progress_falls : ProgressFalls j
  progress_falls es l e m = calm_falls j (reached j es) (joint_after j job es l) (stays_calm es l) e m

  pub comes_to_rest : (es : List Event) → legal j es → QuietlyEnds j (reached j es)
  comes_to_rest es l = quietly_ends j job progress_falls (within_after j job) es l
