use Rattle.std.proofs.Common.{◌≡◌, ◌≤◌, ◌∙◌, ◌++◌, ap, sym, arith}
use Rattle.std.proofs.lemmas.Result.{on_ok_weaker}
use Rattle.cluster_rules.specs.Functions.{put}
use Rattle.cluster_rules.specs.Client.{ClientFacts, client_step, client_takes}
use Rattle.gather_client.specs.CoreState.{CoreState, client_facts}
use Rattle.cluster_nodes.specs.Nodes.{clients_of}
use Rattle.cluster_nodes.proofs.NodeLemmas.{clients_set, client_was, client_step_shape}
use Rattle.cluster_nodes.proofs.Places.{all_set, all_at}
use Rattle.cluster_nodes.proofs.Counting.{client_counted}
use Rattle.cluster_nodes.proofs.cores.client_on.Goals as goal

pub returns-clause-facts : goal.returns-clause-facts
returns-clause-facts c = on_ok_weaker c.on.result
    (λ e g. clients_set g c.args.clients.now.items c.args.client c.on.new.self c.requires
    ∙ ap (λ (w : ClientFacts). put (clients_of g c.args.clients.now.items) c.args.client w)
    (e.facts ∙ ap (λ (w : ClientFacts). (client_step w c.args.event).facts) (sym (client_was g c.args.clients.now.items c.args.client c.index_mut.result.now c.requires c.index_mut.ensures.value))))
    c.on.ensures.taken

pub returns-clause-out : goal.returns-clause-out
returns-clause-out c = on_ok_weaker c.on.result
    (λ e g. e.instructions ∙ ap (λ (w : ClientFacts). c.args.out.now ++ (client_step w c.args.event).out) (sym (client_was g c.args.clients.now.items c.args.client c.index_mut.result.now c.requires c.index_mut.ensures.value)))
    c.on.ensures.taken

pub returns-clause-possible : goal.returns-clause-possible
returns-clause-possible c = on_ok_weaker c.on.result
    (λ p g. ap (λ (w : ClientFacts). client_takes w c.args.event) (client_was g c.args.clients.now.items c.args.client c.index_mut.result.now c.requires c.index_mut.ensures.value) ∙ p.possible)
    c.on.ensures.taken

pub returns-clause-over : goal.returns-clause-over
returns-clause-over c = on_ok_weaker c.on.result
    (λ e s h. all_set (λ (w : CoreState). (client_facts w).shape ≡ s) c.args.clients.now.items c.args.client c.on.new.self
    (ap (λ (w : ClientFacts). w.shape) e.facts ∙ (client_step_shape (client_facts c.index_mut.result.now) c.args.event)
    ∙ all_at (λ (w : CoreState). (client_facts w).shape ≡ s) c.args.clients.now.items c.args.client c.index_mut.result.now c.requires c.index_mut.ensures.value h)
    h)
    c.on.ensures.taken

pub returns-clause-few : goal.returns-clause-few
returns-clause-few c = on_ok_weaker c.on.result
    (λ e n h. client_counted n c.args.clients.now.items c.args.client c.index_mut.result.now c.on.new.self c.requires c.index_mut.ensures.value e.counted h)
    c.on.ensures.taken

pub returns-clause-refused : goal.returns-clause-refused
returns-clause-refused c r g = ap (λ (w : ClientFacts). client_takes w c.args.event) (client_was g c.args.clients.now.items c.args.client c.index_mut.result.now c.requires c.index_mut.ensures.value) ∙ (c.on.ensures.refused.0 r).impossible

pub returns-clause-spent : goal.returns-clause-spent
returns-clause-spent c r n h =
    let e = (c.on.ensures.spent.0 r).all in
    let b = all_at (λ (w : CoreState). w.events ≤ n) c.args.clients.now.items c.args.client c.index_mut.result.now c.requires c.index_mut.ensures.value h in
    omega (arith, e, b)
