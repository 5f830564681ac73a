use Rattle.saved_files.proofs.Filled.{whole}
use Rattle.saved_files.proofs.laws.filled_is_whole.Goals as goal

pub returns : goal.returns
returns c = λ a boxes bytes count filling cover. whole a boxes bytes count filling cover
