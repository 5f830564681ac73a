use Rattle.cluster_sim.proofs.WordLemmas.{at_next}
use Rattle.cluster_sim.proofs.words.Words.advance.Goals as goal

pub returns : goal.returns
returns c number turn h = at_next number turn c.args.self.now _ c.next_word-self.ensures h
