use Rattle.std.proofs.Common.{◌+◌, ◌*◌, ◌/◌, ◌%◌, ℕ, Some, None, length, get_or, ap, ◌∙◌, subst, arith}
use Rattle.std.proofs.lemmas.List.{get_or_read}
use Rattle.key_sets.specs.Sets.{bit, has, IsLast}
use Rattle.key_sets.proofs.SetLemmas.{last_there, last_sooner, last_beyond, its_place, its_bit}
use Rattle.key_sets.proofs.set.KeySet.last_below.Goals as goal

pub returns-then-word-len : goal.returns-then-word-len
returns-then-word-len c =
    last_beyond c.args.self.now c.args.key c.last_in.result (omega (arith, c.self.inside.words.ok.0, ap length c.self.view_is)) c.last_in.ensures

pub returns-in-Some : goal.returns-in-Some
returns-in-Some c =
    let ws = c.self.inside.words.items in
    let key = c.args.key in
    let n = get_or_read ws (key / 64) c.index.result.now (omega (arith, c.self.inside.words.ok.0)) c.index.ensures 0 ∙ ap (λ xs. get_or xs (key / 64) 0) c.self.view_is in
    let low = its_bit key in
    subst (λ (a : ℕ). IsLast (has c.args.self.now) a (Some (key / 64 * 64 + c.in-Some.place))) (its_place key)
    (last_there c.args.self.now (key / 64) (key % 64) c.in-Some.place (omega arith) (subst (λ (m : ℕ). IsLast (bit m) (key % 64) (Some c.in-Some.place)) n c.in-Some.ensures))

pub returns-in-None : goal.returns-in-None
returns-in-None c =
    let ws = c.self.inside.words.items in
    let key = c.args.key in
    let n = get_or_read ws (key / 64) c.index.result.now (omega (arith, c.self.inside.words.ok.0)) c.index.ensures 0 ∙ ap (λ xs. get_or xs (key / 64) 0) c.self.view_is in
    let low = its_bit key in
    subst (λ (a : ℕ). IsLast (has c.args.self.now) a c.last_in-in-None.result) (its_place key)
    (last_sooner c.args.self.now (key / 64) (key % 64) c.last_in-in-None.result (omega arith) (subst (λ (m : ℕ). IsLast (bit m) (key % 64) None) n c.in-None.ensures) c.last_in-in-None.ensures)
