use Rattle.std.proofs.Common.{arith, ◌≡◌, ◌<◌, get_or, length, ap, sym, ◌∙◌}
use Rattle.std.proofs.lemmas.List.{get_or_read}
use Rattle.block_lowering.proofs.ListsKeys.{with-put, with-there}
use Rattle.block_lowering.proofs.lists.put_key.Goals as goal
use Rattle.block_lowering.proofs.lists.put_key.Goals.{else-place-len-via-then-place-len+else-index-key, else-place-len-via-else-place-len}

pub returns-then-index-key : goal.returns-then-index-key
returns-then-index-key c =
    let e = c.as_slice.ensures.value in
    let there : c.smaller_keys-place.result < length c.args.keys.now.items = omega (arith, ap length e) in
    let read : c.index.result.now ≡ get_or c.args.keys.now.items c.smaller_keys-place.result 0 = get_or_read c.args.keys.now.items c.smaller_keys-place.result c.index.result.now there c.index.ensures 0 in
    sym (with-there c.args.key c.args.keys.now.items c.smaller_keys-place.result there (λ i l. rw (← e) (c.smaller_keys-place.ensures.before i l)) (sym read ∙ c.if-index-key.true))

pub returns : goal.returns
returns c =
    let e = c.as_slice.ensures.value in
    let items = c.args.keys.now.items in
    let p = c.smaller_keys-place.result in
    let small : p < length items → c.args.key < get_or items p 0 =
    λ l.
    let low = rw e at (c.smaller_keys-place.ensures.behind (omega (arith, ap length e))) in
    elim c.else-place-len.branch [
      | else-place-len-via-then-place-len+else-index-key w ↦ let read : w.index.result.now ≡ get_or items p 0 = get_or_read items p w.index.result.now l w.index.ensures 0 in omega (arith, low)
      | else-place-len-via-else-place-len w ↦ absurd (omega (arith, ap length e))
    ] in
    c.in_ok-insert.ensures.items ∙ sym (with-put c.args.key items p (omega (arith, ap length e)) (λ i l. rw (← e) (c.smaller_keys-place.ensures.before i l)) small)
