use Rattle.std.proofs.Common.{◌+◌, ◌*◌, ◌/◌, ◌%◌, ℕ, Some, None, length, get_or, refl, ap, ◌∙◌, subst, arith}
use Rattle.std.proofs.lemmas.List.{get_or_read}
use Rattle.key_sets.specs.Sets.{bit, has, IsFirst}
use Rattle.key_sets.proofs.SetLemmas.{has-past, key_past, first_there, first_later, its_place, its_bit}
use Rattle.key_sets.proofs.plain.PlainSet.first_from.Goals as goal

pub returns-then-word-len : goal.returns-then-word-len
returns-then-word-len c k a =
    let m = key_past c.args.self.now c.args.key (omega (arith, c.self.inside.words.ok.0, ap length c.self.view_is)) in
    has-past c.args.self.now k (omega arith)

pub returns-in-Some : goal.returns-in-Some
returns-in-Some c =
    let ws = c.self.inside.words.items in
    let key = c.args.key in
    let n = get_or_read ws (key / 64) c.index.result.now (omega (arith, c.self.inside.words.ok.0)) c.index.ensures 0 ∙ ap (λ xs. get_or xs (key / 64) 0) c.self.view_is in
    subst (λ (a : ℕ). IsFirst (has c.args.self.now) a (Some (key / 64 * 64 + c.in-Some.place))) (its_place key)
    (first_there c.args.self.now (key / 64) (key % 64) c.in-Some.place (c.in-Some.ensures.within c.in-Some.place refl) (subst (λ (m : ℕ). IsFirst (bit m) (key % 64) (Some c.in-Some.place)) n c.in-Some.ensures.first))

pub returns-in-None : goal.returns-in-None
returns-in-None c =
    let ws = c.self.inside.words.items in
    let key = c.args.key in
    let n = get_or_read ws (key / 64) c.index.result.now (omega (arith, c.self.inside.words.ok.0)) c.index.ensures 0 ∙ ap (λ xs. get_or xs (key / 64) 0) c.self.view_is in
    subst (λ (a : ℕ). IsFirst (has c.args.self.now) a c.first_in.result) (its_place key)
    (first_later c.args.self.now (key / 64) (key % 64) c.first_in.result (its_bit key) (subst (λ (m : ℕ). IsFirst (bit m) (key % 64) None) n c.in-None.ensures.first) c.first_in.ensures)
