use Rattle.std.proofs.Common.{◌≡◌, ◌<◌, ◌∙◌, ◌++◌, ℕ, Some, None, ap, sym, subst, append-nil}
use Rattle.std.specs.Prelude.{All, IfSome, filter}
use Rattle.std.specs.List.{filter_map}
use Rattle.std.specs.Option.{option_map}
use Rattle.std.proofs.lemmas.Result.{on_ok_weaker}
use Rattle.cluster_msgs.specs.Shape.{key_count}
use Rattle.cluster_rules.specs.Worker.{ask_to, without_ask}
use Rattle.cluster_rules.specs.WorkerStep.{keys_of}
use Rattle.cluster_rules.specs.Client.{ClientFacts, ClientStep}
use Rattle.open_asks.specs.Kept.{asked_items}
use Rattle.gather_client.specs.Stored.{facts_of}
use Rattle.gather_client.specs.Steps.{is_found, after_found, after_missed, miss_message}
use Rattle.gather_client.proofs.FoldLemmas.{gathered-none, gathered-facts, gathered-out, gets-shape}
use Rattle.gather_client.proofs.events.gathered.Goals as goal

pub returns-in-None-clause-facts : goal.returns-in-None-clause-facts
returns-in-None-clause-facts c =
    let f = facts_of c.args.table.now in
    let none : None ≡ asked_items (ask_to f.asks c.args.peer) c.args.number = ap (option_map (λ v. v.items)) (sym c.in-None.is) ∙ c.in_ok-open_items.ensures.items in
    sym (ap (λ (s : ClientStep). s.facts) (gathered-none f c.args.peer c.args.number c.args.found.now none))

pub returns-in-None-clause-instructions : goal.returns-in-None-clause-instructions
returns-in-None-clause-instructions c =
    let f = facts_of c.args.table.now in
    let none : None ≡ asked_items (ask_to f.asks c.args.peer) c.args.number = ap (option_map (λ v. v.items)) (sym c.in-None.is) ∙ c.in_ok-open_items.ensures.items in
    sym (ap (λ (s : ClientStep). c.args.out.now ++ s.out) (gathered-none f c.args.peer c.args.number c.args.found.now none) ∙ append-nil c.args.out.now)

pub miss_others-requires : goal.miss_others-requires
miss_others-requires c =
    let f = facts_of c.args.table.now in
    let is = c.in-Some.items.items in
    let d : ClientFacts = record f { asks = without_ask f.asks c.args.peer } in
    let taken : facts_of c.take_found.new.table ≡ after_found d c.args.found.now is
    = c.take_found.ensures ∙ ap (λ (g : ClientFacts). after_found g c.args.found.now c.as_slice.result.now) c.close_ask.ensures ∙ ap (after_found d c.args.found.now) c.as_slice.ensures.value in
    let shape : f.shape ≡ (facts_of c.take_found.new.table).shape = sym (ap (λ (g : ClientFacts). g.shape) taken ∙ gets-shape (keys_of (filter (is_found c.args.found.now) is)) d) in
    let low : All (λ i. i.0 < key_count f.shape) is = subst (λ o. IfSome o (λ v. All (λ i. i.0 < key_count f.shape) v.items)) c.in-Some.is c.in_ok-open_items.ensures.keys in
    subst (λ g. All (λ (i : ℕ × ℕ). i.0 < key_count g) c.as_slice-in-Some.result.now) shape (subst (λ xs. All (λ (i : ℕ × ℕ). i.0 < key_count f.shape) xs) (sym c.as_slice-in-Some.ensures.value) low)

pub returns-in-Some-clause-facts : goal.returns-in-Some-clause-facts
returns-in-Some-clause-facts c =
    let f = facts_of c.args.table.now in
    let is = c.in-Some.items.items in
    let d : ClientFacts = record f { asks = without_ask f.asks c.args.peer } in
    let taken : facts_of c.take_found.new.table ≡ after_found d c.args.found.now is
    = c.take_found.ensures ∙ ap (λ (g : ClientFacts). after_found g c.args.found.now c.as_slice.result.now) c.close_ask.ensures ∙ ap (after_found d c.args.found.now) c.as_slice.ensures.value in
    let some : Some is ≡ asked_items (ask_to f.asks c.args.peer) c.args.number = ap (option_map (λ v. v.items)) (sym c.in-Some.is) ∙ c.in_ok-open_items.ensures.items in
    on_ok_weaker c.miss_others.result
    (λ e. e ∙ ap (λ (g : ClientFacts). after_missed g c.args.found.now c.as_slice-in-Some.result.now) taken ∙ ap (after_missed (after_found d c.args.found.now is) c.args.found.now) c.as_slice-in-Some.ensures.value ∙ gathered-facts f c.args.peer c.args.number c.args.found.now is some)
    c.miss_others.ensures.facts

pub returns-in-Some-clause-instructions : goal.returns-in-Some-clause-instructions
returns-in-Some-clause-instructions c =
    let f = facts_of c.args.table.now in
    let is = c.in-Some.items.items in
    let d : ClientFacts = record f { asks = without_ask f.asks c.args.peer } in
    let taken : facts_of c.take_found.new.table ≡ after_found d c.args.found.now is
    = c.take_found.ensures ∙ ap (λ (g : ClientFacts). after_found g c.args.found.now c.as_slice.result.now) c.close_ask.ensures ∙ ap (after_found d c.args.found.now) c.as_slice.ensures.value in
    let some : Some is ≡ asked_items (ask_to f.asks c.args.peer) c.args.number = ap (option_map (λ v. v.items)) (sym c.in-Some.is) ∙ c.in_ok-open_items.ensures.items in
    on_ok_weaker c.miss_others.result
    (λ e. e
    ∙ ap (λ (g : ClientFacts). c.args.out.now ++ filter_map (miss_message c.args.found.now g c.args.peer) c.as_slice-in-Some.result.now) taken
    ∙ ap (λ xs. c.args.out.now ++ filter_map (miss_message c.args.found.now (after_found d c.args.found.now is) c.args.peer) xs) c.as_slice-in-Some.ensures.value
    ∙ ap (λ o. c.args.out.now ++ o) (gathered-out f c.args.peer c.args.number c.args.found.now is some))
    c.miss_others.ensures.instructions
