use Rattle.std.proofs.Common.{◌∙◌, ◌%◌, ap, arith}
use Rattle.std.specs.Prelude.{slice_get}
use Rattle.cluster_rules.specs.Enabled.{progress}
use Rattle.cluster_world.specs.Worlds.{world}
use Rattle.cluster_sim.proofs.ActLemmas.{not_starved}
use Rattle.cluster_sim.proofs.DrawLemmas.{drawn_is, drawn_none}
use Rattle.cluster_sim.proofs.choose.draw.Goals as goal

pub returns-then-count-eq0 : goal.returns-then-count-eq0
returns-then-count-eq0 g c = drawn_none (progress (world c.args.world.now)) c.args.word c.progress_count-count.result (c.progress_count-count.ensures.count (not_starved _ c.requires.going)) c.if-count-eq0.true

pub returns : goal.returns
returns g c = drawn_is (progress (world c.args.world.now)) c.args.word c.progress_count-count.result c.progress.result (omega arith) (c.progress_count-count.ensures.count (not_starved _ c.requires.going)) (c.progress.ensures.event (not_starved _ c.requires.going) ∙ ap (λ n. slice_get (progress (world c.args.world.now)) (n % c.progress_count-count.result)) c.from.ensures)
