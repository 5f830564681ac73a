use Rattle.std.proofs.Common.{map}
use Rattle.node_links.specs.Fits.{ParcelFits}
use Rattle.node_runner.proofs.tasks.shared.Given as goal

abbrev pub invariant-loop-keyed : goal.invariant-loop-keyed
invariant-loop-keyed g l = ParcelFits g.L.Label.facts (map (λ k. k.key) l.yielded) l.blocks.items
