use Rattle.std.proofs.Common.{◌≡◌, ◌-◌, ◌^◌, ap, ◌∙◌, arith}
use Rattle.std.specs.Prelude.{min}
use Rattle.cluster_rules.specs.Client.{client_pairs}
use Rattle.cluster_rules.specs.Functions.{total, from_one}
use Rattle.cluster_nodes.specs.Nodes.{world_of}
use Rattle.cluster_world.specs.Worlds.{world, setting}
use Rattle.cluster_world.proofs.Counts.{more}
use Rattle.cluster_world.proofs.state.State.client_pairs.Goals as goal

pub loop-before-preserved : goal.loop-before-preserved
loop-before-preserved g c =
    more (λ i. client_pairs ((world c.args.self.now).clients i)) c.loop-before.before c.loop-before.total c.pairs_of_client.result _ c.loop-before.invariant c.pairs_of_client.ensures c.saturating_add-total.ensures

pub returns : goal.returns
unfolding world_of
returns g c =
    let e : c.loop-before.before ≡ (setting c.args.self.now).clients = omega (arith, c.requires.counted) in
    c.loop-before.invariant ∙ ap (λ n. min (total (λ i. client_pairs ((world c.args.self.now).clients i)) (from_one n)) (2 ^ 64 - 1)) e
