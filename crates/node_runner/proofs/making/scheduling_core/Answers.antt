use Rattle.std.proofs.Common.{◌∙◌, ap, sym}
use Rattle.cluster_msgs.specs.Shape.{deps_of}
use Rattle.scheduler_core.specs.Cores.{facts}
use Rattle.node_states.specs.Machines.{SchedState}
use Rattle.node_states.proofs.SchedLaw.{opening_fits}
use Rattle.node_runner.proofs.Starts.{opening_of, graph_of, allowed_of}
use Rattle.node_runner.proofs.making.scheduling_core.Goals as goal

pub returns-clause-fits : goal.returns-clause-fits
returns-clause-fits g c =
    let starts = ap (λ (s : SchedState). facts s.core) c.new-2.ensures ∙ c.in_ok-core.ensures.facts in
    opening_fits g.L.Label.facts (facts c.new-2.result.core) (opening_of (facts c.new-2.result.core) _ starts)
    (graph_of (facts c.new-2.result.core) _ g.L.Label.facts.deps starts (c.requires.graph ∙ ap deps_of (sym c.in_ok-shape.ensures)))
    (allowed_of (facts c.new-2.result.core) _ g.L.Label.facts.allowed starts c.requires.allowed)
