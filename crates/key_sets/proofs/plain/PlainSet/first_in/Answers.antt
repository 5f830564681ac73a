use Rattle.std.proofs.Common.{ℕ, Some, None, length, get_or, refl, ap, ◌∙◌, subst, arith}
use Rattle.std.proofs.lemmas.List.{get_or_read}
use Rattle.key_sets.specs.Sets.{bit, IsFirst}
use Rattle.key_sets.proofs.SetLemmas.{first_found, first_missed, first_nowhere}
use Rattle.key_sets.proofs.plain.PlainSet.first_in.Goals as goal

pub returns-in-Some : goal.returns-in-Some
returns-in-Some c =
    let ws = c.self.inside.words.items in
    let w = c.loop-word.word in
    let n = get_or_read ws w c.index.result.now (omega (arith, c.self.inside.words.ok.0)) c.index.ensures 0 ∙ ap (λ xs. get_or xs w 0) c.self.view_is in
    first_found c.args.self.now c.args.start w c.in-Some.place (omega arith) c.loop-word.invariant (c.in-Some.ensures.within c.in-Some.place refl)
    (subst (λ (m : ℕ). IsFirst (bit m) 0 (Some c.in-Some.place)) n c.in-Some.ensures.first)

pub loop-word-preserved : goal.loop-word-preserved
loop-word-preserved c =
    let ws = c.self.inside.words.items in
    let w = c.loop-word.word in
    let n = get_or_read ws w c.index.result.now (omega (arith, c.self.inside.words.ok.0)) c.index.ensures 0 ∙ ap (λ xs. get_or xs w 0) c.self.view_is in
    first_missed c.args.self.now c.args.start w c.loop-word.invariant (subst (λ (m : ℕ). IsFirst (bit m) 0 None) n c.in-None.ensures.first)

pub returns : goal.returns
returns c = first_nowhere c.args.self.now c.args.start c.loop-word.word c.loop-word.invariant (omega (arith, c.self.inside.words.ok.0, ap length c.self.view_is))
