use Rattle.std.proofs.Common.{◌<◌, ◌++◌, ◌∷◌, [], arith, append_assoc, sym, ap, ◌∙◌, filter}
use Rattle.cluster_rules.specs.Derived.{below}
use Rattle.key_sets.specs.Sets.{has}
use Rattle.spread_flags.specs.Spread.{size}
use Rattle.standing.proofs.ListLemmas.{filter_next, filter_last, only_there}
use Rattle.standing.proofs.lists.list_changes.Goals as goal

pub loop-key-preserved : goal.loop-key-preserved
loop-key-preserved c =
    let s = c.args.flags.now in
    let key = c.in-Some.key in
    let low : key < size s = only_there (has s.changed) (size s) key c.sound.ensures.changed c.in-Some.ensures.1 in
    record {
      listed = c.in_ok-push.ensures.ok ∙ ap (λ xs. xs ++ key ∷ []) c.loop-key.invariant.listed ∙ append_assoc c.args.out.now (filter (has s.changed) (below c.loop-key.from)) (key ∷ []) ∙ ap (λ xs. c.args.out.now ++ xs) (sym (filter_next (has s.changed) c.loop-key.from key c.in-Some.ensures));
      within = omega arith;
    }

pub returns : goal.returns
returns c =
    let s = c.args.flags.now in
    c.loop-key.invariant.listed ∙ ap (λ xs. c.args.out.now ++ xs) (sym (filter_last (has s.changed) c.loop-key.from (size s) c.changed_from.result c.loop-key.invariant.within c.changed_from.ensures c.in_default.not-Some))
