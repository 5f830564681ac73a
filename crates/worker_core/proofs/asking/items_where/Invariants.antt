use Rattle.std.proofs.Common.{◌≡◌, take}
use Rattle.worker_core.specs.Core.{items_where}
use Rattle.worker_core.proofs.asking.items_where.Given as goal

abbrev pub invariant-loop-item : goal.invariant-loop-item
invariant-loop-item l = l.list.items ≡ items_where l.came (take l.item-index l.items) l.found
