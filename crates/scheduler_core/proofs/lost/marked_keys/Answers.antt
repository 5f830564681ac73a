use Rattle.std.proofs.Common.{◌<◌, ◌++◌, ◌∷◌, [], cond, sym, ap, ◌∙◌, arith}
use Rattle.std.specs.List.{filter}
use Rattle.cluster_rules.specs.Derived.{below}
use Rattle.cluster_rules.proofs.SchedLemmas.{filter-below}
use Rattle.key_sets.specs.Sets.{has}
use Rattle.scheduler_core.proofs.WalkLemmas.{filter_gap}
use Rattle.scheduler_core.proofs.lost.marked_keys.Goals as goal

pub loop-key-preserved : goal.loop-key-preserved
loop-key-preserved c =
    let p = has c.args.marks.now in
    let key = c.in-Some.key in
    let n = c.loop-key.from in
    let l : key < c.args.count = c.requires.keys key c.in-Some.ensures.1 in
    let skip = filter_gap p n key c.in-Some.ensures.0 c.in-Some.ensures.2 in
    record {
      taken = c.in_ok-push.ensures.ok ∙ ap (λ xs. xs ++ key ∷ []) (c.loop-key.invariant.taken ∙ skip) ∙ ap (λ b. filter p (below key) ++ cond b (key ∷ []) []) (sym c.in-Some.ensures.1) ∙ sym (filter-below p key);
      within = omega (arith, l);
    }

pub returns : goal.returns
returns c = c.loop-key.invariant.taken ∙ filter_gap (has c.args.marks.now) c.loop-key.from c.args.count c.loop-key.invariant.within (λ k a b. c.in_default.ensures k a)
