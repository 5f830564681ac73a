use Rattle.std.proofs.Common.{◌∙◌}
use Rattle.cluster_rules.specs.Enabled.{enabled}
use Rattle.cluster_world.specs.declared.progress.Kind.TheVariants as kind
use Rattle.cluster_world.specs.declared.search.Search.TheVariants.{Passing}
use Rattle.cluster_world.specs.Searching.{node_events}
use Rattle.cluster_world.proofs.Searches.{up_to, kinds_are}
use Rattle.cluster_world.proofs.progress.search.Goals as goal

pub returns : goal.returns
returns g c =
    let w = g.C.Choices.world c.args.world.now in
    let on = enabled w in
    let start = Passing c.args.n in
    let workers = c.last_worker-workers.result in
    let clients = c.clients-clients.result in
    let a = c.search_kind-losses.result in
    let b = c.search_kind-downs.result in
    let d = c.search_kind-ups.result in
    let e = c.search_kind-news.result in
    let f = c.search_kind-wants.result in
    let h = c.search_kind-starts.result in
    c.search_fails.ensures ∙ kinds_are w on start a b d e f h c.search_finishes-finishes.result c.search_asks-asks.result c.search_requests-requests.result c.search_answers-answers.result
    (up_to on (node_events w kind.SeeLoss) start a workers w.sched.last_worker c.last_worker-workers.ensures c.search_kind-losses.ensures)
    (up_to on (node_events w kind.DeliverDown) a b workers w.sched.last_worker c.last_worker-workers.ensures c.search_kind-downs.ensures)
    (up_to on (node_events w kind.DeliverUp) b d workers w.sched.last_worker c.last_worker-workers.ensures c.search_kind-ups.ensures)
    (up_to on (node_events w kind.DeliverToClient) d e clients w.sched.setting.clients c.clients-clients.ensures c.search_kind-news.ensures)
    (up_to on (node_events w kind.DeliverFromClient) e f clients w.sched.setting.clients c.clients-clients.ensures c.search_kind-wants.ensures)
    (up_to on (node_events w kind.Start) f h workers w.sched.last_worker c.last_worker-workers.ensures c.search_kind-starts.ensures)
    c.search_finishes-finishes.ensures c.search_asks-asks.ensures c.search_requests-requests.ensures c.search_answers-answers.ensures
