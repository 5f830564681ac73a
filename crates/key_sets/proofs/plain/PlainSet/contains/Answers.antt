use Rattle.std.proofs.Common.{◌/◌, ◌%◌, get_or, ap, ◌∙◌, sym, arith}
use Rattle.std.proofs.lemmas.List.{get_or_read}
use Rattle.key_sets.specs.Sets.{bit, has}
use Rattle.key_sets.proofs.SetLemmas.{has-past, key_past}
use Rattle.key_sets.proofs.plain.PlainSet.contains.Goals as goal

pub returns-then-word-len : goal.returns-then-word-len
unfolding has
returns-then-word-len c =
    let ws = c.self.inside.words.items in
    let key = c.args.key in
    c.test.ensures ∙ ap (λ n. bit n (key % 64)) (get_or_read ws (key / 64) c.index.result.now (omega (arith, c.self.inside.words.ok.0)) c.index.ensures 0)
    ∙ ap (λ xs. bit (get_or xs (key / 64) 0) (key % 64)) c.self.view_is

pub returns-else-word-len : goal.returns-else-word-len
returns-else-word-len c =
    let ws = c.self.inside.words.items in
    sym (ap (λ xs. has xs c.args.key) (sym c.self.view_is) ∙ has-past ws c.args.key (key_past ws c.args.key (omega (arith, c.self.inside.words.ok.0))))
