use Rattle.std.proofs.Common.{◌-◌, ◌^◌, sym, ap, ◌∙◌, rules}
use Rattle.std.specs.Prelude.{min}
use Rattle.cluster_rules.specs.Client.{client_pairs}
use Rattle.cluster_world.proofs.Telling.{client_at}
use Rattle.cluster_world.proofs.state.State.pairs_of_client.Goals as goal

pub index-requires : goal.index-requires
index-requires g c = let h = c.requires.number in search (rules, h)

pub returns : goal.returns
returns g c = c.pairs.ensures ∙ ap (λ x. min (client_pairs x) (2 ^ 64 - 1)) (sym (client_at c.args.self.now c.args.client c.index.result.now c.requires.number c.index.ensures))
