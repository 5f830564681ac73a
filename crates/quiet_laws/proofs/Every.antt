-- Each event of the scheduler that makes progress lowers the measure.
use Rattle.std.proofs.Common.{◌≡◌, ℕ, Bool, true, false, List, [], ◌∷◌, refl}
use Rattle.std.proofs.lemmas.Bool.{false≢true}
use Rattle.cluster_msgs.specs.declared.messages.Up.{Up}
use Rattle.cluster_msgs.specs.declared.messages.Up.TheVariants.{TaskFinished, TaskErred, AddKeys, ReleaseWorkerData, MissingData, RequestRefreshWhoHas, StealResponse}
use Rattle.cluster_msgs.specs.declared.messages.FromClient.{FromClient as ClientMessage}
use Rattle.cluster_msgs.specs.declared.messages.FromClient.TheVariants.{Want, Release, Missing}
use Rattle.cluster_msgs.specs.declared.events.Event.{Event}
use Rattle.cluster_msgs.specs.declared.events.Event.TheVariants.{DeliverUp, DeliverFromClient}
use Rattle.cluster_rules.specs.Worker.{has_any}
use Rattle.cluster_rules.specs.World.{Job, IsJob, World, is_connected, is_client}
use Rattle.cluster_rules.specs.WorldStep.{world_step}
use Rattle.safety_laws.proofs.Joint.{IsJoint, joint_after}
use Rattle.safety_laws.proofs.Homes.{letter_from}
use Rattle.quiet_measure.specs.Measure.{Falls}
use Rattle.quiet_laws.specs.Old.{AreOld, AreFenced}
use Rattle.quiet_laws.proofs.TaskRows.{task_finished_falls}
use Rattle.quiet_laws.proofs.ErrRows.{task_erred_falls}
use Rattle.quiet_laws.proofs.StealRows.{steal_response_falls}
use Rattle.quiet_laws.proofs.StillRows.{request_falls, missed_falls, loss_spent_falls}
use Rattle.quiet_laws.proofs.AddRows.{add_keys_falls}
use Rattle.quiet_laws.proofs.LostRows.{loss_falls, missing_falls}
use Rattle.quiet_laws.proofs.LetterRows.{want_falls, release_falls, client_missing_falls}
use Rattle.quiet_laws.proofs.SeenLoss.{see_loss_falls}
use Rattle.quiet_measure.specs.Weights.{is_current}
use Rattle.std.specs.Prelude.{nat_le}
use Rattle.cluster_rules.specs.Runs.{legal, reached}
use Rattle.quiet_laws.specs.Events.{UpFalls, LetterFalls, LossFalls}

module _ (j : Job) (w : World) (joint : IsJoint j w) (old : AreOld w) (fenced : AreFenced w.sched) where
  pub up_falls : (i : ℕ) → is_connected w i ≡ true → has_any (w.up i) ≡ true → Falls w (world_step j w (DeliverUp i))
  up_falls i there t = by (w.up i) refl t
    where
      by : (l : List Up) → w.up i ≡ l → has_any l ≡ true → Falls w (world_step j w (DeliverUp i))
      by [] e h = absurd (false≢true h)
      by (TaskFinished seen k a ∷ ms) e h = task_finished_falls j w joint old fenced i seen k a ms e there
      by (TaskErred seen k a ∷ ms) e h = task_erred_falls j w joint old fenced i seen k a ms e there
      by (AddKeys seen ks ∷ ms) e h = add_keys_falls j w joint old fenced i seen ks ms e there
      by (ReleaseWorkerData seen k ∷ ms) e h = pick (nat_le (w.sched.fence i k) seen) refl
        where
          pick : (b : Bool) → nat_le (w.sched.fence i k) seen ≡ b → Falls w (world_step j w (DeliverUp i))
          pick true q = loss_falls j w joint old fenced i seen k ms e there q
          pick false q = loss_spent_falls j w joint old fenced i seen k ms e there q
      by (MissingData seen k x c ∷ ms) e h = pick (is_current w.sched x k c) refl
        where
          pick : (b : Bool) → is_current w.sched x k c ≡ b → Falls w (world_step j w (DeliverUp i))
          pick true q = missing_falls j w joint old fenced i seen k x c ms e there q
          pick false q = missed_falls j w joint old fenced i seen k x c ms e there q
      by (RequestRefreshWhoHas seen k ∷ ms) e h = request_falls j w joint old fenced i seen k ms e there
      by (StealResponse seen k a agreed ∷ ms) e h = steal_response_falls j w joint old fenced i seen k a agreed ms e there

  pub letter_falls : (c : ℕ) → has_any (w.from_client c) ≡ true → Falls w (world_step j w (DeliverFromClient c))
  letter_falls c t = by (w.from_client c) refl t
    where
      there : is_client w c ≡ true
      there = letter_from j w joint.set joint.inside joint.sound joint.home c t

      by : (l : List ClientMessage) → w.from_client c ≡ l → has_any l ≡ true → Falls w (world_step j w (DeliverFromClient c))
      by [] e h = absurd (false≢true h)
      by (Want ks ∷ ms) e h = want_falls j w joint old fenced c ks ms e there
      by (Release ks ∷ ms) e h = release_falls j w joint old fenced c ks ms e there
      by (Missing k x d ∷ ms) e h = client_missing_falls j w joint old fenced c k x d ms e there

module _ (j : Job) (job : IsJob j) (es : List Event) (l : legal j es) where
  pub each_up_falls : UpFalls j (reached j es)
  each_up_falls old fenced = up_falls j (reached j es) (joint_after j job es l) old fenced

  pub each_letter_falls : LetterFalls j (reached j es)
  each_letter_falls old fenced = letter_falls j (reached j es) (joint_after j job es l) old fenced

  pub each_loss_falls : LossFalls j (reached j es)
  each_loss_falls old fenced i a c = see_loss_falls j (reached j es) (joint_after j job es l) old fenced i a c
