use Rattle.std.proofs.Common.{◌≡◌, All, None, take}
use Rattle.cluster_msgs.specs.declared.events.History.{History}
use Rattle.thread_run.proofs.told.all_whole.Given as goal

abbrev pub invariant-loop-history : goal.invariant-loop-history
invariant-loop-history l = All (λ (x : History). x.cut ≡ None) (take l.history-index l.histories)
