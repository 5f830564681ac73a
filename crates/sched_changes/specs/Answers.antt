-- What a worker is answered, beside the keys that it lost and those that it was given.
use Rattle.std.specs.Prelude.{ℕ, ◌==◌, List, [], ◌∷◌, cond}
use Rattle.cluster_msgs.specs.declared.messages.Down.{Down}
use Rattle.cluster_msgs.specs.declared.messages.Down.TheVariants.{RemoveReplicas, AcquireReplicas, RefreshWhoHas}
use Rattle.cluster_rules.specs.Sched.{Facts, who_has}
use Rattle.cluster_rules.specs.SchedTable.{ask_message}
use Rattle.sched_changes.specs.declared.answer.Answer.{Answer}
use Rattle.sched_changes.specs.declared.answer.Answer.TheVariants.{Nothing, Refresh, AskBack, Remove, Acquire}

abbrev pub answer_of : Answer → Facts → ℕ → List Down
answer_of Nothing f w = []
answer_of (Refresh v k) f w = cond (w == v) (RefreshWhoHas (who_has f (k ∷ [])) ∷ []) []
answer_of (AskBack k) f w = ask_message k (f.on k) w
answer_of (Remove v k) f w = cond (w == v) (RemoveReplicas (k ∷ []) ∷ []) []
answer_of (Acquire v k) f w = cond (w == v) (AcquireReplicas (who_has f (k ∷ [])) ∷ []) []
