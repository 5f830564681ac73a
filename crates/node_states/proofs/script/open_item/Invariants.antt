use Rattle.std.proofs.Common.{◌≡◌, ◌+◌, ◌^◌, ◌≤◌, drop}
use Rattle.scheduler_core.specs.Cores.{facts}
use Rattle.node_states.specs.Order.{open_from, open_item}
use Rattle.node_states.proofs.script.open_item.Given as goal

abbrev pub invariant-loop-item : goal.invariant-loop-item
invariant-loop-item l = record {
  rest : open_from (facts l.core) l.joined (drop l.item-index l.plan.script) ≡ open_item l.plan (facts l.core);
  few : l.joined ≤ 2 ^ 32 + l.item-index;
}
