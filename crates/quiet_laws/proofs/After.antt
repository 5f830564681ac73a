-- What each enabled event keeps holds after every legal list of events.
use Rattle.std.proofs.Common.{◌≡◌, true, List, [], ◌∷◌}
use Rattle.cluster_msgs.specs.declared.events.Event.{Event}
use Rattle.cluster_rules.specs.World.{Job, IsJob, World, opening}
use Rattle.cluster_rules.specs.WorldStep.{world_step}
use Rattle.cluster_rules.specs.Enabled.{enabled}
use Rattle.cluster_rules.specs.Runs.{LegalFrom, legal, run_from, reached}
use Rattle.safety_laws.proofs.Joint.{IsJoint, joint_step, joint_opening}
use Rattle.quiet_laws.specs.Calm.{AreWhole, AreVainInTime}
use Rattle.quiet_laws.proofs.WholeTasks.{whole_step}
use Rattle.quiet_laws.proofs.Vain.{vain_step}

module _ (j : Job) (job : IsJob j) where
  -- what each enabled event keeps holds after every legal list
  kept_from : (P : World → Type 0) → ((w : World) → IsJoint j w → (e : Event) → enabled w e ≡ true → P w → P (world_step j w e)) → (w : World) (es : List Event) → LegalFrom j w es → IsJoint j w → P w → P (run_from j w es)
  kept_from P s w [] l h p = p
  kept_from P s w (e ∷ es) l h p = kept_from P s (world_step j w e) es l.1 (joint_step j job w e l.0 h) (s w h e l.0 p)

  pub kept_after : (P : World → Type 0) → ((w : World) → IsJoint j w → (e : Event) → enabled w e ≡ true → P w → P (world_step j w e)) → P (opening j) → (es : List Event) → legal j es → P (reached j es)
  kept_after P s p es l = kept_from P s (opening j) es l (joint_opening j job) p

  pub whole_after : (es : List Event) → legal j es → AreWhole (reached j es)
  whole_after es l = kept_after AreWhole (whole_step j) (λ i a c. tt) es l

  pub vain_after : (es : List Event) → legal j es → AreVainInTime (reached j es)
  vain_after es l = kept_after AreVainInTime (vain_step j) (λ i k q a c d. tt) es l
