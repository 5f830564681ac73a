use Rattle.std.proofs.Common.{◌≡◌, ◌∙◌, sym, ap, rules, not, None, Some, filter, get_or}
use Rattle.std.specs.List.{position, remove}
use Rattle.std.proofs.lemmas.Fn.{filter_same}
use Rattle.small_facts.proofs.Lists.{place_at_end}
use Rattle.small_facts.proofs.Options.{cond_some_none}
use Rattle.message_queues.specs.declared.transit.InTransit.{InTransit}
use Rattle.message_queues.specs.Transit.{is_transit}
use Rattle.message_queues.proofs.QueueLemmas.{place_some, none_found, first_found, without_first}
use Rattle.message_queues.proofs.transit.Transits.take.Goals as goal

pub returns-in-None-clause-item : goal.returns-in-None-clause-item
returns-in-None-clause-item g c =
    let p = is_transit {B = g.row.B.Denot} c.args.asker c.args.peer c.args.ask in
    let xs = c.self.inside.items.items in
    rw (← c.self.view_is) (sym (none_found p xs (place_at_end p xs (cond_some_none _ _ (c.in-None.ensures ∙ ap (position p) c.as_slice.ensures.value)))).nothing)

pub returns-in-None-clause-rest : goal.returns-in-None-clause-rest
returns-in-None-clause-rest g c =
    let p = is_transit {B = g.row.B.Denot} c.args.asker c.args.peer c.args.ask in
    let xs = c.self.inside.items.items in
    rw (← c.self.view_is) (sym (none_found p xs (place_at_end p xs (cond_some_none _ _ (c.in-None.ensures ∙ ap (position p) c.as_slice.ensures.value)))).whole)

pub returns-in-Some-clause-item : goal.returns-in-Some-clause-item
returns-in-Some-clause-item g c =
    let p = is_transit {B = g.row.B.Denot} c.args.asker c.args.peer c.args.ask in
    let xs = c.self.inside.items.items in
    let at = place_some _ _ _ (c.in-Some.ensures ∙ ap (position p) c.as_slice.ensures.value) in
    rw (← c.self.view_is) (sym (first_found p xs c.remove-item.result at.1 ∙ ap (λ y. Some y) (sym (c.remove-item.ensures.value ∙ ap (λ n. get_or xs n c.remove-item.result) at.0))))

pub returns-in-Some-clause-rest : goal.returns-in-Some-clause-rest
returns-in-Some-clause-rest g c =
    let p = is_transit {B = g.row.B.Denot} c.args.asker c.args.peer c.args.ask in
    let xs = c.self.inside.items.items in
    let at = place_some _ _ _ (c.in-Some.ensures ∙ ap (position p) c.as_slice.ensures.value) in
    let kept : c.retain.new.self.items ≡ filter (λ y. not (p y)) c.remove-item.new.self.items = filter_same _ (λ (y : InTransit g.row.B.Denot). not (p y)) _ (λ x b f' k. search rules) _ _ c.retain.ensures.filtered in
    rw (← c.self.view_is) (kept ∙ ap (filter (λ y. not (p y))) (c.remove-item.ensures.items ∙ ap (λ n. remove xs n) at.0) ∙ without_first p xs)
