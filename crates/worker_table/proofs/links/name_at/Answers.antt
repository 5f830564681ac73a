use Rattle.std.proofs.Common.{◌<◌, ◌++◌, ◌∷◌, [], length, get_or, ap, ◌∙◌, arith}
use Rattle.std.proofs.lemmas.List.{get_or_read}
use Rattle.worker_table.proofs.LinkLemmas.{added_none, added_more}
use Rattle.worker_table.proofs.links.name_at.Goals as goal

pub loop-dep-init : goal.loop-dep-init
loop-dep-init c = added_none c.args.key c.args.lists.now.items

pub loop-dep-preserved : goal.loop-dep-preserved
loop-dep-preserved c =
    let old = c.loop-dep.lists.items in
    let i = c.loop-dep.dep-index in
    let x = get_or c.args.deps.now i 0 in
    let low : x < length old = omega (arith, c.requires i 0 (omega arith), c.loop-dep.invariant.long) in
    added_more c.args.key c.args.lists.now.items old c.push.new.self c.args.deps.now i (omega arith) low
    (c.in_ok-push.ensures.ok ∙ ap (λ xs. xs ++ c.args.key ∷ []) (get_or_read old x c.index_mut.result.now low c.index_mut.ensures.value [])) c.loop-dep.invariant
