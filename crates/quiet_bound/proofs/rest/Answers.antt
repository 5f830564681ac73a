use Rattle.std.proofs.Common.{◌∙◌, ap, sym, subst}
use Rattle.cluster_rules.specs.Sched.{Setting}
use Rattle.cluster_world.specs.Worlds.{world, setting, running}
use Rattle.quiet_laws.specs.Quiet.{QuietlyEnds}
use Rattle.quiet_laws.proofs.Rest.{comes_to_rest}
use Rattle.quiet_bound.proofs.WorldBound.{rest-is, rest-starved, setting-world}
use Rattle.quiet_bound.proofs.rest.Goals as goal

pub returns-clause-bound : goal.returns-clause-bound
returns-clause-bound g c going =
    let s = setting-world c.args.world.now in
    c.quiet_events.ensures ∙ rest-is (world c.args.world.now) c.shape-shape.result.now c.clients.result c.under_way.result c.workers.result c.keys.result c.edges.result
    (c.shape-shape.ensures.setting ∙ sym (ap (λ (x : Setting). x.shape) s)) c.keys.ensures c.edges.ensures (c.clients.ensures ∙ sym (ap (λ (x : Setting). x.clients) s)) (c.under_way.ensures.count going) c.workers.ensures

pub returns-clause-starved : goal.returns-clause-starved
returns-clause-starved g c starved =
    c.quiet_events.ensures ∙ rest-starved c.shape-shape.result.now (setting c.args.world.now) (world c.args.world.now) c.clients.result c.under_way.result c.workers.result c.keys.result c.edges.result
    c.shape-shape.ensures.setting c.keys.ensures c.edges.ensures c.clients.ensures (c.under_way.ensures.starved starved) c.workers.ensures

pub returns-clause-quiet : goal.returns-clause-quiet
returns-clause-quiet g c job made =
    let j = running g.J.JobSpec.operation c.args.world.now in
    subst (QuietlyEnds j) made.made.run.reached (comes_to_rest j job made.events made.made.run.legal)
