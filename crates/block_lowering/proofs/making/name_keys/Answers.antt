use Rattle.std.proofs.Common.{◌≡◌, ◌≤◌, ◌+◌, ◌-◌, [], ◌∷◌, ◌++◌, map, ap, sym, ◌∙◌, arith, append_assoc}
use Rattle.std.specs.List.{range_with_len}
use Rattle.std.proofs.lemmas.List.FromFn.{map-range_with_len_more}
use Rattle.lowering_laws.specs.Lowered.{name_at}
use Rattle.block_lowering.proofs.making.name_keys.Goals as goal

pub loop-key-preserved : goal.loop-key-preserved
loop-key-preserved c =
    let f = name_at c.args.source.now c.args.node in
    let old = c.args.names.now.items in
    let key = c.loop-key.key in
    let first = c.args.first in
    let low : first ≤ key = c.loop-key.auto.key in
    let far : first + (key - first) ≡ key = omega arith in
    let more : key - first + 1 ≡ key + 1 - first = omega arith in
    c.in_ok-push.ensures.items ∙ ap (λ ns. ns ++ c.name.result ∷ []) c.loop-key.invariant
    ∙ ap (λ n. old ++ map f (range_with_len first (key - first)) ++ n ∷ []) c.name.ensures
    ∙ append_assoc old (map f (range_with_len first (key - first))) (f key ∷ [])
    ∙ ap (λ ns. old ++ ns) (sym (map-range_with_len_more f first (key - first) key far) ∙ ap (λ n. map f (range_with_len first n)) more)
