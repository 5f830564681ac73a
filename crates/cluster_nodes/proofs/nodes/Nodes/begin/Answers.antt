use Rattle.std.proofs.Common.{◌≡◌, ◌∙◌, ◌+◌, ◌++◌, ◌∷◌, [], ℕ, Bool, List, None, false, sym, ap, subst, arith, length}
use Rattle.std.specs.List.{AllByRecursion}
use Rattle.cluster_msgs.specs.Shape.{Shape, key_count}
use Rattle.cluster_msgs.specs.declared.messages.Message.{Message}
use Rattle.cluster_rules.specs.Client.{new_client}
use Rattle.cluster_rules.specs.Worker.{WorkerFacts, new_worker}
use Rattle.fact_rows.specs.Rows.{cell, height, read, width}
use Rattle.gather_client.specs.CoreState.{CoreState, client_facts}
use Rattle.message_queues.specs.Queues.{waiting}
use Rattle.worker_core.specs.Core.{Core}
use Rattle.cluster_nodes.specs.Growing.{HasCore}
use Rattle.cluster_nodes.specs.Kept.{WorkersTookFew}
use Rattle.cluster_nodes.proofs.Places.{one_longer}
use Rattle.cluster_nodes.proofs.Starting.{no_rows, none_lives, none_stands, none_waits, opening_is, started}
use Rattle.cluster_nodes.proofs.nodes.Nodes.begin.Goals as goal

pub add_places-requires : goal.add_places-requires
add_places-requires g c = ap width c.requires.spilled ∙ sym c.keys.ensures

pub add_core-requires : goal.add_core-requires
add_core-requires g c = omega (arith, ap length c.requires.workers)

pub returns-clause-cluster : goal.returns-clause-cluster
returns-clause-cluster g c s e =
    let old = c.args.self.now in
    let more : HasCore old.shape (length old.workers.items) 0 old.workers.items c.add_core.new.workers.items = c.in_ok-add_core.ensures in
    let keys = key_count old.shape in
    let lives = c.in_ok-push.ensures.ok ∙ ap (λ (l : List Bool). l ++ false ∷ []) c.requires.alive in
    opening_is s _ more.added
    (more.cores ∙ ap (λ (l : List Core). l ++ more.added ∷ []) c.requires.workers)
    (more.starts ∙ ap (λ (l : List Core). new_worker old.shape (length l) 0) c.requires.workers ∙ ap (λ (x : Shape). new_worker x 0 0) (sym e))
    (subst (λ (x : Shape). AllByRecursion (λ (y : CoreState). client_facts y ≡ new_client x) c.add_clients.new.cores.items) (sym e) c.in_ok-add_clients.ensures.new)
    (λ k. ap (λ (l : List Bool). read l false k) lives ∙ none_lives k)
    (λ w k. ap (λ (f : ℕ → ℕ → Bool). f w k) c.in_ok-add_places.ensures.spilled ∙ ap (λ (v : ℕ × List (List Bool)). cell v false w k) c.requires.spilled ∙ no_rows false w k)
    (c.in_ok-add_places.ensures.down.1 ∙ ap waiting c.requires.down ∙ none_waits)
    (c.in_ok-add_places.ensures.up.1 ∙ ap waiting c.requires.up ∙ none_waits)
    (c.add_links.ensures.meaning ∙ ap waiting c.requires.to_client ∙ none_waits)
    (c.add_links-2.ensures.meaning ∙ ap waiting c.requires.from_client ∙ none_waits)
    c.requires.requests c.requires.answers
    (c.in_ok-add_places.ensures.held ∙ ap (λ v. cell v None) c.requires.held ∙ none_stands keys)
    (c.in_ok-add_places.ensures.inputs ∙ ap (λ v. cell v None) c.requires.inputs ∙ none_stands keys)
    (c.add_nodes.ensures.meaning ∙ ap (λ v. cell v None) c.requires.got ∙ none_stands keys)

pub returns-clause-nodes : goal.returns-clause-nodes
returns-clause-nodes g c =
    let old = c.args.self.now in
    let more : HasCore old.shape (length old.workers.items) 0 old.workers.items c.add_core.new.workers.items = c.in_ok-add_core.ensures in
    let long : length c.add_clients.new.cores.items ≡ c.args.count = c.in_ok-add_clients.ensures.length in
    let to_none : length old.to_client ≡ 0 = ap length c.requires.to_client in
    let from_none : length old.from_client ≡ 0 = ap length c.requires.from_client in
    let got_none : height old.got ≡ 0 = ap height c.requires.got in
    let to_long : length c.add_links.new.links ≡ length c.add_clients.new.cores.items = omega (arith, c.in_ok-add_links.ensures.length) in
    let from_long : length c.add_links-2.new.links ≡ length c.add_clients.new.cores.items = omega (arith, c.in_ok-add_links-2.ensures.length) in
    let keys = key_count old.shape in
    let got_high : height c.add_nodes.new.shelf ≡ length c.add_clients.new.cores.items = omega (arith, c.in_ok-add_nodes.ensures.height) in
    started _ more.added
    (more.cores ∙ ap (λ (l : List Core). l ++ more.added ∷ []) c.requires.workers)
    (ap (λ (w : WorkerFacts). w.shape) more.starts)
    c.in_ok-add_clients.ensures.new
    (ap length (c.in_ok-push.ensures.ok ∙ ap (λ (l : List Bool). l ++ false ∷ []) c.requires.alive))
    (c.in_ok-add_places.ensures.spilled_size.0 ∙ ap (λ v. height v + 1) c.requires.spilled)
    (one_longer c.add_places.new.down old.down [] c.in_ok-add_places.ensures.down.0 ∙ ap (λ (l : List (List Message)). length l + 1) c.requires.down)
    (one_longer c.add_places.new.up old.up [] c.in_ok-add_places.ensures.up.0 ∙ ap (λ (l : List (List Message)). length l + 1) c.requires.up)
    (c.in_ok-add_places.ensures.held_size.0 ∙ ap (λ v. height v + 1) c.requires.held) (c.in_ok-add_places.ensures.inputs_size.0 ∙ ap (λ v. height v + 1) c.requires.inputs)
    to_long from_long got_high
    (c.in_ok-add_places.ensures.spilled_size.1 ∙ ap width c.requires.spilled)
    (c.in_ok-add_places.ensures.held_size.1 ∙ ap width c.requires.held) (c.in_ok-add_places.ensures.inputs_size.1 ∙ ap width c.requires.inputs) (c.add_nodes.ensures.width ∙ ap width c.requires.got)
    (c.in_ok-add_places.ensures.down.1 ∙ ap waiting c.requires.down ∙ none_waits)
    (c.in_ok-add_places.ensures.up.1 ∙ ap waiting c.requires.up ∙ none_waits)
    (c.add_links.ensures.meaning ∙ ap waiting c.requires.to_client ∙ none_waits)
    (c.add_links-2.ensures.meaning ∙ ap waiting c.requires.from_client ∙ none_waits)
    c.requires.requests c.requires.answers
    (λ w k. ap (λ (f : ℕ → ℕ → Bool). f w k) c.in_ok-add_places.ensures.spilled ∙ ap (λ (v : ℕ × List (List Bool)). cell v false w k) c.requires.spilled ∙ no_rows false w k)
    (c.in_ok-add_places.ensures.held ∙ ap (λ v. cell v None) c.requires.held ∙ none_stands keys)
    (c.add_nodes.ensures.meaning ∙ ap (λ v. cell v None) c.requires.got ∙ none_stands keys)

pub returns-clause-workers : goal.returns-clause-workers
returns-clause-workers g c =
    let old = c.args.self.now in
    let more : HasCore old.shape (length old.workers.items) 0 old.workers.items c.add_core.new.workers.items = c.in_ok-add_core.ensures in
    ap length (more.cores ∙ ap (λ (l : List Core). l ++ more.added ∷ []) c.requires.workers)

pub returns-clause-few : goal.returns-clause-few
returns-clause-few g c =
    let old = c.args.self.now in
    let more : HasCore old.shape (length old.workers.items) 0 old.workers.items c.add_core.new.workers.items = c.in_ok-add_core.ensures in
    (subst (λ (l : List Core). WorkersTookFew 0 l) (sym (more.cores ∙ ap (λ (l : List Core). l ++ more.added ∷ []) c.requires.workers)) (omega (arith, more.fresh), tt), c.in_ok-add_clients.ensures.few)
