-- That the scheduler's events lower the measure, where copies that are named were drawn.
use Rattle.std.specs.Prelude.{◌≡◌, ℕ, true, false}
use Rattle.cluster_msgs.specs.declared.events.Event.TheVariants.{SeeLoss, DeliverUp, DeliverFromClient}
use Rattle.cluster_rules.specs.Worker.{has_any}
use Rattle.cluster_rules.specs.World.{Job, World, is_connected}
use Rattle.cluster_rules.specs.WorldStep.{world_step}
use Rattle.quiet_measure.specs.Measure.{Falls}
use Rattle.quiet_laws.specs.Old.{AreOld, AreFenced}

-- a message of a worker
abbrev pub UpFalls : Job → World → Type 0
UpFalls j w = AreOld w → AreFenced w.sched → (i : ℕ) → is_connected w i ≡ true → has_any (w.up i) ≡ true → Falls w (world_step j w (DeliverUp i))

-- a message of a client
abbrev pub LetterFalls : Job → World → Type 0
LetterFalls j w = AreOld w → AreFenced w.sched → (c : ℕ) → has_any (w.from_client c) ≡ true → Falls w (world_step j w (DeliverFromClient c))

-- a worker that died is noticed
abbrev pub LossFalls : Job → World → Type 0
LossFalls j w = AreOld w → AreFenced w.sched → (i : ℕ) → w.alive i ≡ false → is_connected w i ≡ true → Falls w (world_step j w (SeeLoss i))
