use Rattle.std.proofs.Common.{take}
use Rattle.worker_table.specs.Links.{IsAdded}
use Rattle.worker_table.proofs.links.name_at.Given as goal

abbrev pub invariant-loop-dep : goal.invariant-loop-dep
invariant-loop-dep l = IsAdded l.key (take l.dep-index l.deps) l.fn.lists.items l.lists.items
