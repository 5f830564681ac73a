use Rattle.std.proofs.Common.{refl, arith}
use Rattle.key_sets.specs.Marked.{is_full}
use Rattle.key_sets.proofs.WordLemmas.{none_full, has_nowhere}
use Rattle.key_sets.proofs.set.KeySet.clear.Goals as goal

pub overflow_add-from : goal.overflow_add-from
overflow_add-from c = let low = c.in-Some.ensures.few c.in-Some.word refl in omega (arith, low)

pub returns-clause-keys : goal.returns-clause-keys
returns-clause-keys c k = has_nowhere c.loop-word.self (none_full (is_full c.loop-word.self) c.loop-word.from c.in_default.ensures.first c.loop-word.invariant.empty) k
