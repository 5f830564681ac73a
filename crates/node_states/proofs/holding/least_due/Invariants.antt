use Rattle.std.proofs.Common.{◌≡◌, ◌≤◌, ◌-◌}
use Rattle.worker_core.specs.Core.{facts}
use Rattle.node_states.specs.Spills.{NoneDue, IsHeardOf}
use Rattle.node_states.proofs.holding.least_due.Given as goal

abbrev pub invariant-known : goal.invariant-known
invariant-known g l = record {
  none : NoneDue l.from (g.S.BlockStore.stock l.store) (facts l.core) l.history.recorded;
  heard : IsHeardOf l.keys l.known (g.S.BlockStore.stock l.store) (facts l.core) l.history.recorded;
  low : l.from ≤ l.keys;
  room : l.known.keys ≡ l.fn.known.keys;
}

abbrev pub decreases-known : goal.decreases-known
decreases-known g l = l.keys - l.from
