use Rattle.cluster_rules.proofs.SoundStep.{sound_opening, sound_step}
use Rattle.cluster_laws.proofs.scheduler.facts_stay_in_range.Goals as goal

pub returns : goal.returns
returns c = record { opening = sound_opening; event = sound_step }
