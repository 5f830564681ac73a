use Rattle.job_script.proofs.Sound.{sound-if}
use Rattle.job_script.proofs.reader.read_script.Goals as goal

pub returns-clause-sound : goal.returns-clause-sound
returns-clause-sound c = sound-if c.args.text.now c.scripted.result c.scripted.ensures
