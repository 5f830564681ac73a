use Rattle.std.proofs.Common.{◌≡◌, ℕ, ◌+◌, sym, ap, ◌∙◌, cond, length}
use Rattle.std.specs.Prelude.{min}
use Rattle.std.proofs.lemmas.List.{length-map}
use Rattle.message_queues.specs.Transit.{parcel_of_transit}
use Rattle.cluster_rules.specs.Client.{client_pairs}
use Rattle.cluster_rules.specs.Functions.{total}
use Rattle.cluster_rules.specs.Worker.{pairs}
use Rattle.cluster_rules.specs.World.{all_workers, all_clients, messages, under_way}
use Rattle.cluster_nodes.specs.Nodes.{world_of}
use Rattle.cluster_world.specs.Worlds.{world}
use Rattle.cluster_world.proofs.Counts.{total_where, capped}
use Rattle.cluster_world.proofs.state.State.under_way.Goals as goal

pub returns : goal.returns
unfolding world_of under_way messages
returns g c =
    let w = world c.args.self.now in
    let m : ℕ = 18446744073709551615 in
    let down = total (λ i. length (w.down i) + length (w.up i)) (all_workers w) in
    let news = total (λ x. length (w.to_client x) + length (w.from_client x)) (all_clients w) in
    let held = total (λ i. cond (w.alive i) (pairs (w.workers i)) 0) (all_workers w) in
    let located = total (λ x. client_pairs (w.clients x)) (all_clients w) in
    let messages = capped down news m _ _ _ c.worker_messages.ensures c.client_messages.ensures c.saturating_add-messages.ensures in
    let known = capped held located m _ _ _ c.worker_pairs.ensures c.client_pairs.ensures c.saturating_add-known.ensures in
    let requests : c.len-requests.result ≡ length w.requests = c.len-requests.ensures ∙ sym (length-map c.args.self.now.nodes.requests (λ t. parcel_of_transit t)) in
    let answers : c.len-answers.result ≡ length w.answers = c.len-answers.ensures ∙ sym (length-map c.args.self.now.nodes.answers (λ t. parcel_of_transit t)) in
    let moving : c.saturating_add-moving.result ≡ min (length w.requests + length w.answers) m = c.saturating_add-moving.ensures ∙ (λ t. min (requests t + answers t) m) in
    let sent = capped (down + news) (length w.requests + length w.answers) m _ _ _ messages moving c.saturating_add-sent.ensures in
    capped ((down + news) + (length w.requests + length w.answers)) (held + located) m _ _ _ sent known c.saturating_add.ensures
    ∙ ap (λ n. min (((down + news) + (length w.requests + length w.answers)) + (n + located)) m) (sym (total_where (λ i. pairs (w.workers i)) w.alive (all_workers w)))
