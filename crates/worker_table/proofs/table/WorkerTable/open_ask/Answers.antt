use Rattle.std.proofs.Common.{◌≡◌, ◌∙◌, ◌+◌, ap, sym, ℕ, get_or}
use Rattle.std.specs.Prelude.{◌==◌}
use Rattle.std.specs.List.{list_any}
use Rattle.cluster_msgs.specs.Shape.{key_count}
use Rattle.cluster_rules.specs.Worker.{Ask, with_ask}
use Rattle.worker_facts.specs.Stored.{facts_of}
use Rattle.worker_table.specs.Parts.{parts}
use Rattle.worker_table.proofs.AskedLemmas.{items_below, place_low, opened_at}
use Rattle.worker_table.proofs.PartLemmas.{opened_apart, count_same}
use Rattle.worker_table.proofs.TableLemmas.{fits_list}
use Rattle.worker_table.proofs.table.WorkerTable.open_ask.Goals as goal

pub items_at-requires : goal.items_at-requires
items_at-requires c =
    let f = facts_of c.self.inside.facts in
    let ask : Ask = record { peer = c.args.peer; number = f.next_ask; items = c.args.items.items } in
    rw (c.in_ok-open_ask.ensures.ok) (place_low ask f.asks c.place_for-place.result c.place_for-place.ensures)

pub look_items-requires-clause-keys : goal.look_items-requires-clause-keys
look_items-requires-clause-keys c =
    let f = facts_of c.self.inside.facts in
    let ask : Ask = record { peer = c.args.peer; number = f.next_ask; items = c.args.items.items } in
    let is : c.items_at.result.now ≡ c.args.items.items = c.items_at.ensures ask ∙ ap (λ w. (get_or w.asks c.place_for-place.result ask).items) c.in_ok-open_ask.ensures.ok ∙ ap (λ (x : Ask). x.items) (opened_at ask ask f.asks c.place_for-place.result c.place_for-place.ensures) in
    rw (is, c.in_ok-open_ask.ensures.ok) (items_below (key_count f.shape) c.args.items.items (rw (← c.self.view_is) at c.requires.keys))

pub look_items-requires-clause-room : goal.look_items-requires-clause-room
look_items-requires-clause-room c = rw (c.in_ok-open_ask.ensures.ok) c.self.invariant.room

pub invariant_of-self-2 : goal.invariant_of-self-2
invariant_of-self-2 c =
    let a = c.self.inside in
    let f = facts_of a.facts in
    let h = facts_of c.open_ask.new.self in
    let ask : Ask = record { peer = c.args.peer; number = f.next_ask; items = c.args.items.items } in
    let e : h ≡ record f { asks = with_ask ask f.asks; next_ask = f.next_ask + 1 } = c.in_ok-open_ask.ensures.ok in
    let is : c.items_at.result.now ≡ c.args.items.items = c.items_at.ensures ask ∙ ap (λ w. (get_or w.asks c.place_for-place.result ask).items) e ∙ ap (λ (x : Ask). x.items) (opened_at ask ask f.asks c.place_for-place.result c.place_for-place.ensures) in
    let low = items_below (key_count f.shape) c.args.items.items (rw (← c.self.view_is) at c.requires.keys) in
    fits_list (λ (i : ℕ × ℕ). i.0) c.args.items.items f h a.dependents.items a.plan c.look_items.new.self a.count a.count (ap (λ w. w.shape) e) low c.self.invariant
    (λ k out. opened_apart f ask (f.next_ask + 1) k out ∙ ap (λ w. parts w k) (sym e))
    (λ k t. c.look_items.ensures.here k (ap (list_any (λ (i : ℕ × ℕ). i.0 == k)) is ∙ t)) (λ q k t. c.look_items.ensures.others q k (ap (list_any (λ (i : ℕ × ℕ). i.0 == k)) is ∙ t)) c.look_items.ensures.room
    (count_same f h a.count (ap (λ w. w.shape) e) (ap (λ w. w.running) e) c.self.invariant.count)
