use Rattle.cluster_sim.proofs.WordLemmas.{at_start}
use Rattle.cluster_sim.proofs.words.Words.new.Goals as goal

pub returns : goal.returns
returns c = at_start c.args.number c.new-rng.result _ c.new-rng.ensures c.next_word-word.ensures
