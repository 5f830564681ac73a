use Rattle.std.proofs.Common.{◌++◌, [], sym, ap, ◌∙◌, rules, map-id}
use Rattle.std.specs.List.{flat_map}
use Rattle.std.proofs.lemmas.List.{flat_map_more}
use Rattle.std.proofs.lemmas.Iterator.Consumers.{YieldsList-end}
use Rattle.std.proofs.lemmas.Iterator.Adapters.{YieldsList-from_vec}
use Rattle.cluster_msgs.specs.declared.events.History.{History}
use Rattle.journal_audit.proofs.merges.joined.Goals as goal

pub loop-history-preserved : goal.loop-history-preserved
loop-history-preserved c =
    c.in_ok-add.ensures ∙ ap (λ es. es ++ c.in-Some.history.entries) c.loop-history.invariant ∙ flat_map_more (λ (h : History). h.entries) [] c.loop-history.yielded c.in-Some.history

pub returns : goal.returns
returns c =
    let end = YieldsList-end (YieldsList-from_vec {s = c.into_iter-history-iterator.result} c.args.histories.items (search rules) (search rules))
    c.loop-history.yielded c.loop-history.history-iterator c.loop-history.yielded_by c.next.result c.next.new.self c.in-None.is c.next.ensures.steps in
    c.loop-history.invariant ∙ ap (flat_map (λ (h : History). h.entries)) (sym (map-id c.loop-history.yielded) ∙ end.0)
