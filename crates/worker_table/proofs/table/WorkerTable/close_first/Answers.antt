use Rattle.std.proofs.Common.{◌≡◌, ◌∙◌, ap, sym, ℕ, None, Some}
use Rattle.std.specs.Prelude.{◌==◌}
use Rattle.std.specs.List.{list_any}
use Rattle.cluster_msgs.specs.Shape.{key_count}
use Rattle.cluster_rules.specs.Worker.{ask_to}
use Rattle.open_asks.specs.Kept.{without_first}
use Rattle.worker_facts.specs.Stored.{facts_of}
use Rattle.worker_table.specs.Parts.{parts}
use Rattle.worker_table.proofs.PartLemmas.{closed_apart, closed_none, count_same}
use Rattle.worker_table.proofs.TableLemmas.{fits_list, fits_same}
use Rattle.worker_table.proofs.AskedLemmas.{named_below}
use Rattle.worker_table.proofs.table.WorkerTable.close_first.Goals as goal

pub look_items-requires-clause-keys : goal.look_items-requires-clause-keys
look_items-requires-clause-keys c =
    let f = facts_of c.self.inside.facts in
    let found : ask_to f.asks c.args.peer ≡ Some c.in-Some.ask = sym c.in-Some.ensures.ask in
    rw (c.items.ensures, c.take_ask.ensures.facts) (named_below f.asks c.args.peer c.in-Some.ask (key_count f.shape) found c.sound.ensures.named)

pub look_items-requires-clause-room : goal.look_items-requires-clause-room
look_items-requires-clause-room c = rw (c.take_ask.ensures.facts) c.self.invariant.room

pub invariant_of-self : goal.invariant_of-self
invariant_of-self c =
    let a = c.self.inside in
    let f = facts_of a.facts in
    let h = facts_of c.take_ask.new.self in
    let p = c.args.peer in
    let e : h ≡ record f { asks = without_first f.asks p } = c.take_ask.ensures.facts in
    let found : ask_to f.asks p ≡ Some c.in-Some.ask = sym c.in-Some.ensures.ask in
    let is : c.items.result.now ≡ c.in-Some.ask.items = c.items.ensures in
    fits_list (λ (i : ℕ × ℕ). i.0) c.in-Some.ask.items f h a.dependents.items a.plan c.look_items.new.self a.count a.count (ap (λ w. w.shape) e) (named_below f.asks p c.in-Some.ask (key_count f.shape) found c.sound.ensures.named) c.self.invariant
    (λ k out. closed_apart f p c.in-Some.ask k found out ∙ ap (λ w. parts w k) (sym e))
    (λ k t. c.look_items.ensures.here k (ap (list_any (λ (i : ℕ × ℕ). i.0 == k)) is ∙ t)) (λ q k t. c.look_items.ensures.others q k (ap (list_any (λ (i : ℕ × ℕ). i.0 == k)) is ∙ t)) c.look_items.ensures.room
    (count_same f h a.count (ap (λ w. w.shape) e) (ap (λ w. w.running) e) c.self.invariant.count)

pub invariant_of-self-in-None : goal.invariant_of-self-in-None
invariant_of-self-in-None c =
    let a = c.self.inside in
    let f = facts_of a.facts in
    let h = facts_of c.take_ask.new.self in
    let p = c.args.peer in
    let e : h ≡ record f { asks = without_first f.asks p } = c.take_ask.ensures.facts in
    let none : ask_to f.asks p ≡ None = sym c.in-None.ensures.ask in
    fits_same f h a.dependents.items a.plan a.count a.count (ap (λ w. w.shape) e) c.self.invariant (λ k. closed_none f p k none ∙ ap (λ w. parts w k) (sym e)) (count_same f h a.count (ap (λ w. w.shape) e) (ap (λ w. w.running) e) c.self.invariant.count)
