use Rattle.std.proofs.Common.{◌<◌, ◌≤◌, sym, ap, ◌∙◌, arith, length}
use Rattle.cluster_rules.specs.Client.{done}
use Rattle.cluster_world.proofs.Telling.{client_at}
use Rattle.cluster_world.proofs.state.State.done.Goals as goal
use Rattle.cluster_world.proofs.Telling.{no_client}

pub returns-then-client-len : goal.returns-then-client-len
returns-then-client-len g c =
    let l : c.args.client < length c.args.self.now.nodes.clients.items = omega (arith, c.if-client-len.true, c.len.ensures) in
    c.done.ensures ∙ ap (λ x. done x c.args.key) (sym (client_at c.args.self.now c.args.client c.index.result.now l c.index.ensures))

pub returns-else-client-len : goal.returns-else-client-len
returns-else-client-len g c =
    let l : length c.args.self.now.nodes.clients.items ≤ c.args.client = omega (arith, c.if-client-len.false, c.len.ensures) in
    sym (ap (λ x. done x c.args.key) (no_client c.args.self.now c.args.client l))
