use Rattle.key_sets.proofs.WordLemmas.{few_words}
use Rattle.key_sets.proofs.set.KeySet.first_word.Goals as goal

pub returns-clause-few : goal.returns-clause-few
returns-clause-few c w e = few_words c.self.inside.words.items c.self.inside.full c.args.from w c.first_from.result c.self.invariant.few c.self.invariant.marks c.first_from.ensures e
