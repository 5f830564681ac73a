use Rattle.std.proofs.Common.{◌≡◌, ◌∙◌, ◌++◌, ◌+◌, ◌∷◌, [], ap}
use Rattle.std.proofs.lemmas.Result.{on_ok_weaker}
use Rattle.small_facts.proofs.Results.{on_ok_from}
use Rattle.cluster_msgs.specs.declared.cores.ClientInstruction.TheVariants.{Gather}
use Rattle.cluster_rules.specs.Worker.{ask_items, with_ask}
use Rattle.cluster_rules.specs.WorkerStep.{keys_of}
use Rattle.cluster_rules.specs.Client.{client_ask, client_fetchable}
use Rattle.gather_client.specs.Stored.{facts_of}
use Rattle.gather_client.proofs.events.ask.Goals as goal

pub returns-clause-facts : goal.returns-clause-facts
unfolding client_ask
returns-clause-facts c =
    let f = facts_of c.args.table.now in
    on_ok_from c.push.result (c.in_ok-open_ask.ensures.ok ∙ ap (λ is. record f { asks = with_ask (record { peer = c.args.peer; number = f.next_ask; items = is }) f.asks; next_ask = f.next_ask + 1 }) c.in_ok-items.ensures.items)

pub returns-clause-instructions : goal.returns-clause-instructions
unfolding client_ask
returns-clause-instructions c =
    let f = facts_of c.args.table.now in
    let keys : c.in_ok-keys.keys ≡ keys_of (ask_items f.shape (client_fetchable f c.args.peer)) = c.in_ok-keys.ensures ∙ ap keys_of (c.as_slice.ensures.value ∙ c.in_ok-items.ensures.items) in
    on_ok_weaker c.push.result (λ e. e ∙ (λ i. c.args.out.now ++ Gather c.args.peer (c.next_ask-number.ensures i) (keys i) ∷ [])) c.push.ensures.ok
