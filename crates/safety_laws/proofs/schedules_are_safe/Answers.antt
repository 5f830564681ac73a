use Rattle.safety_laws.proofs.Safety.{safe, safe_of_sound}
use Rattle.safety_laws.proofs.schedules_are_safe.Goals as goal

pub returns-clause-job : goal.returns-clause-job
returns-clause-job c = safe

pub returns-clause-sound : goal.returns-clause-sound
returns-clause-sound c = safe_of_sound
