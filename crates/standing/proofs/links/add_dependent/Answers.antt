use Rattle.std.proofs.Common.{◌<◌, ◌++◌, ◌∷◌, [], length, get_or, set, refl, ap, ◌∙◌, arith, length-set}
use Rattle.std.proofs.lemmas.List.{get_or_read}
use Rattle.standing.proofs.LinkLemmas.{added_more}
use Rattle.standing.proofs.links.add_dependent.Goals as goal

pub loop-other-preserved : goal.loop-other-preserved
loop-other-preserved c =
    let old = c.loop-other.links.items in
    let i = c.loop-other.other-index in
    let x = get_or c.args.keys.now i 0 in
    let low : x < length old = omega (arith, c.requires.keys i 0 (omega arith), c.loop-other.invariant.long, c.args.links.now.ok.0) in
    record {
      long = length-set old x c.push.new.self ∙ c.loop-other.invariant.long;
      added = added_more c.args.links.now.items old (set old x c.push.new.self) c.args.keys.now i x c.args.key c.push.new.self c.requires.rising (omega arith) refl low c.loop-other.invariant.added
          (c.in_ok-push.ensures.ok ∙ ap (λ xs. xs ++ c.args.key ∷ []) (get_or_read old x c.index_mut.result.now low c.index_mut.ensures.value [])) refl;
    }
