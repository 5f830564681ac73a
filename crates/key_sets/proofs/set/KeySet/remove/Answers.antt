use Rattle.std.proofs.Common.{◌/◌, ◌%◌, ◌<◌, ◌*◌, false, cond, eqb, length, get_or, ap, ◌∙◌, arith}
use Rattle.std.proofs.lemmas.List.{get_or_read}
use Rattle.std.proofs.lemmas.Nat.{div_below}
use Rattle.key_sets.specs.Sets.{bit, has}
use Rattle.key_sets.proofs.SetLemmas.{has-set}
use Rattle.key_sets.proofs.set.KeySet.remove.Goals as goal

pub returns-clause-keys : goal.returns-clause-keys
returns-clause-keys c k =
    let xs = c.self.inside.words.items in
    let ws = c.args.self.now in
    let key = c.args.key in
    let low : key < length xs * 64 = omega (arith, ap length c.self.view_is) in
    let at = get_or_read xs (key / 64) c.index.result.now (div_below key 64 (length xs) (omega arith) low) c.index.ensures 0 ∙ ap (λ ys. get_or ys (key / 64) 0) c.self.view_is in
    ap (λ ys. has ys k) c.set_word.ensures ∙ has-set ws key c.without_bit-bits.result k false c.requires (λ i l. c.without_bit-bits.ensures i l ∙ ap (λ n. cond (eqb i (key % 64)) false (bit n i)) at)
