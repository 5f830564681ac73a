use Rattle.std.proofs.Common.{◌/◌, ◌%◌, ◌<◌, ◌*◌, true, cond, eqb, length, ap, ◌∙◌, arith}
use Rattle.std.proofs.lemmas.List.{get_or_read}
use Rattle.std.proofs.lemmas.Nat.{div_below}
use Rattle.key_sets.specs.Sets.{bit, has}
use Rattle.key_sets.proofs.SetLemmas.{has-set}
use Rattle.key_sets.proofs.plain.PlainSet.insert.Goals as goal

pub returns-clause-keys : goal.returns-clause-keys
returns-clause-keys c k =
    let ws = c.self.inside.words.items in
    let key = c.args.key in
    let low : key < length ws * 64 = omega (arith, ap length c.self.view_is) in
    let at = get_or_read ws (key / 64) c.index.result.now (div_below key 64 (length ws) (omega arith) low) c.index.ensures 0 in
    has-set ws key c.with_bit.result k true low (λ i l. c.with_bit.ensures i l ∙ ap (λ n. cond (eqb i (key % 64)) true (bit n i)) at)
    ∙ ap (λ xs. cond (eqb k key) true (has xs k)) c.self.view_is
