use Rattle.std.proofs.Common.{◌≡◌, false, take}
use Rattle.std.specs.List.{list_any}
use Rattle.cluster_rules.specs.SchedStep.{tells_held}
use Rattle.scheduler_core.proofs.clients.is_told.Given as goal

abbrev pub invariant-loop-message : goal.invariant-loop-message
invariant-loop-message l = list_any (tells_held l.client l.key) (take l.message-index l.messages) ≡ false
