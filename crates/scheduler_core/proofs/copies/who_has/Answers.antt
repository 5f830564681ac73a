use Rattle.std.proofs.Common.{◌∷◌, [], sym, ap, ◌∙◌, take, map, get_or}
use Rattle.std.proofs.lemmas.List.{take_more, map-append}
use Rattle.cluster_rules.specs.Sched.{who_has, holders}
use Rattle.sched_facts.specs.Stored.{facts_of}
use Rattle.scheduler_core.proofs.copies.who_has.Goals as goal

pub loop-key-init : goal.loop-key-init
unfolding who_has
loop-key-init c = c.new-all.ensures

pub loop-key-preserved : goal.loop-key-preserved
unfolding who_has
loop-key-preserved c =
    let f = facts_of c.args.table.now in
    let xs = c.args.asked.now in
    let i = c.loop-key.key-index in
    rw (c.in_ok-push.ensures.ok, c.in_ok-of_key.ensures, c.loop-key.invariant) (sym (ap (map (λ d. (d, holders f d))) (take_more xs i 0 c.loop-key-test.true) ∙ map-append (λ d. (d, holders f d)) (take i xs) (get_or xs i 0 ∷ [])))
