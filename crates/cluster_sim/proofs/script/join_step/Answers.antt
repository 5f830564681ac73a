use Rattle.std.proofs.Common.{ap, sym, ◌∙◌, not, Bool}
use Rattle.cluster_world.specs.Worlds.{world}
use Rattle.cluster_msgs.specs.declared.events.Event.TheVariants.{Join}
use Rattle.cluster_sim.proofs.ActLemmas.{not_starved}
use Rattle.cluster_sim.specs.Scripts.{step_by}
use Rattle.cluster_sim.proofs.ScriptLemmas.{join_free}
use Rattle.cluster_sim.proofs.script.join_step.Goals as goal

pub returns-then-enabled : goal.returns-then-enabled
returns-then-enabled g c =
    sym (ap (λ (b : Bool). step_by (not b) (Join c.args.threads) c.args.passed) (sym (join_free (world c.args.world.now) c.args.threads c.requires.threads c.requires.numbers) ∙ sym (c.enabled.ensures.enabled (not_starved _ c.requires.going)) ∙ c.if-enabled.true))

pub returns-else-enabled : goal.returns-else-enabled
returns-else-enabled g c =
    sym (ap (λ (b : Bool). step_by (not b) (Join c.args.threads) c.args.passed) (sym (join_free (world c.args.world.now) c.args.threads c.requires.threads c.requires.numbers) ∙ sym (c.enabled.ensures.enabled (not_starved _ c.requires.going)) ∙ c.if-enabled.false))
