use Rattle.std.proofs.Common.{◌≡◌, ◌++◌, ◌∷◌, [], None, take, rules, refl, sym, ap, ◌∙◌, subst, All}
use Rattle.std.proofs.lemmas.List.{take_more, take_all}
use Rattle.std.proofs.lemmas.List.Elements.{All-push}
use Rattle.cluster_msgs.specs.declared.events.History.{History}
use Rattle.thread_run.proofs.told.all_whole.Goals as goal

abbrev IsWhole : History → Type 0
IsWhole x = x.cut ≡ None

pub loop-history-preserved : goal.loop-history-preserved
loop-history-preserved c =
    let xs = c.args.histories.now in
    let i = c.loop-history.history-index in
    let here : IsWhole c.history-item.result = search rules in
    subst (All IsWhole) (sym (take_more xs i c.history-item.result c.loop-history-test.true ∙ ap (λ x. take i xs ++ x ∷ []) (sym c.history-item.is)))
    (All-push IsWhole (take i xs) c.history-item.result c.loop-history.invariant here)

pub returns : goal.returns
returns c =
    let xs = c.args.histories.now in
    (λ t. subst (All IsWhole) (take_all c.loop-history.history-index xs c.loop-history-test.false) c.loop-history.invariant, λ a. refl)
