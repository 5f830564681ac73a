use Rattle.std.proofs.Common.{rules, sym, ◌∙◌}
use Rattle.cluster_world.proofs.Telling.{client_number, client_at}
use Rattle.cluster_world.proofs.state.State.client.Goals as goal

pub is_client-requires : goal.is_client-requires
is_client-requires g c = c.requires.counted

pub index-requires : goal.index-requires
index-requires g c = let h = client_number c.args.self.now c.args.client c.requires.clients (sym c.is_client.ensures ∙ c.if-is_client.true) in search (rules, h)

pub returns-then-is_client : goal.returns-then-is_client
returns-then-is_client g c = let a = sym c.is_client.ensures ∙ c.if-is_client.true in (a, client_at c.args.self.now c.args.client c.index.result.now (client_number c.args.self.now c.args.client c.requires.clients a) c.index.ensures)

pub returns-else-is_client : goal.returns-else-is_client
returns-else-is_client g c = sym c.is_client.ensures ∙ c.if-is_client.false
