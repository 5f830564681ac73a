use Rattle.std.proofs.Common.{ℕ, Some, length, get_or, ap, ◌∙◌, subst, arith}
use Rattle.std.proofs.lemmas.List.{get_or_read}
use Rattle.key_sets.specs.Sets.{bit, IsFirst}
use Rattle.key_sets.proofs.WordLemmas.{first_by_word, none_by_word, full_there}
use Rattle.key_sets.proofs.set.KeySet.first_in.Goals as goal

pub returns-in-Some : goal.returns-in-Some
returns-in-Some c =
    let ws = c.self.inside.words.items in
    let w = c.in-Some.word in
    let low = full_there c.args.self.now w c.in-Some.ensures.first.1 in
    let n = get_or_read ws w c.index.result.now (omega (arith, low, ap length c.self.view_is)) c.index.ensures 0 ∙ ap (λ xs. get_or xs w 0) c.self.view_is in
    first_by_word c.args.self.now c.args.start w c.lowest.result c.in-Some.ensures.first c.lowest.ensures.within
    (subst (λ (m : ℕ). IsFirst (bit m) 0 (Some c.lowest.result)) n c.lowest.ensures.first)

pub returns-in-None : goal.returns-in-None
returns-in-None c = none_by_word c.args.self.now c.args.start c.in-None.ensures.first
