use Rattle.std.proofs.Common.{◌∙◌, ◌&&◌}
use Rattle.cluster_world.specs.Worlds.{world}
use Rattle.cluster_sim.proofs.ActLemmas.{not_starved}
use Rattle.cluster_sim.proofs.ScriptLemmas.{lose_is, suspect_is}
use Rattle.cluster_sim.proofs.script.is_serving.Goals as goal

pub returns : goal.returns
returns g c =
    let w = world c.args.world.now in
    let a = c.enabled-alive.ensures.enabled (not_starved _ c.requires.going) ∙ lose_is w c.args.worker in
    let b = c.enabled-connected.ensures.enabled (not_starved _ c.requires.going) ∙ suspect_is w c.args.worker in
    λ i. a i && b i
