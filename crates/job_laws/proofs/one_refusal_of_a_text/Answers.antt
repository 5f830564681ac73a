use Rattle.job_laws.proofs.OneRefusal.{one-refusal}
use Rattle.job_laws.proofs.one_refusal_of_a_text.Goals as goal

pub returns : goal.returns
returns c = one-refusal c.fitting_excludes_refusal.ensures c.one_refusal.ensures
