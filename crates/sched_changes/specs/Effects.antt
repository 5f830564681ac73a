-- What an event leaves to be told, beside the facts and the keys that it frees.
use Rattle.std.specs.Prelude.{◌≡◌, ◌<◌, ℕ, Bool, true, List, [], Option, is_some}
use Rattle.std.specs.List.{cons_option}
use Rattle.cluster_msgs.specs.declared.messages.FromClient.{FromClient as ClientMessage}
use Rattle.cluster_msgs.specs.declared.messages.FromClient.TheVariants.{Want, Release, Missing}
use Rattle.cluster_msgs.specs.declared.cores.SchedEvent.{SchedEvent}
use Rattle.cluster_msgs.specs.declared.cores.SchedEvent.TheVariants.{Join, Leave, FromWorker, FromClient, Balance, Evict, Replicate}
use Rattle.cluster_msgs.specs.declared.messages.Down.{Down}
use Rattle.cluster_rules.specs.Functions.{put}
use Rattle.cluster_rules.specs.Derived.{is_in}
use Rattle.cluster_rules.specs.Sched.{Facts, keys}
use Rattle.cluster_rules.specs.SchedTable.{Changed, nothing_asked, ask_message}
use Rattle.sched_changes.specs.Pairs.{has_pair, so_far}
use Rattle.sched_changes.specs.declared.answer.Answer.{Answer}
use Rattle.sched_changes.specs.declared.answer.Answer.TheVariants.{Nothing, Refresh, AskBack, Remove, Acquire}
use Rattle.sched_changes.specs.Answers.{answer_of}
use Rattle.sched_changes.specs.declared.rows.Effect.{Effect}

-- what a worker is answered, where the facts were f before the event: a key is asked back under the attempt that it had
abbrev pub answer_by : Facts → Answer → Facts → ℕ → List Down
answer_by f Nothing g w = answer_of Nothing g w
answer_by f (Refresh v k) g w = answer_of (Refresh v k) g w
answer_by f (AskBack k) g w = ask_message k (f.on k) w
answer_by f (Remove v k) g w = answer_of (Remove v k) g w
answer_by f (Acquire v k) g w = answer_of (Acquire v k) g w

-- with what a worker is answered
abbrev pub answering : Facts → Facts → List (ℕ × ℕ) → Answer → Changed
answering f g ps a = record (so_far g ps) { answer = answer_by f a }

-- the keys of a client's own want
abbrev pub asked_by : ClientMessage → ℕ → Bool
asked_by (Want ks) k = is_in k ks
asked_by (Release ks) k = nothing_asked k
asked_by (Missing q x c) k = nothing_asked k

-- the keys of the event's own want
abbrev pub asked_in : SchedEvent → ℕ → Bool
asked_in (Join threads) k = nothing_asked k
asked_in (Leave w) k = nothing_asked k
asked_in (FromWorker w up) k = nothing_asked k
asked_in (FromClient c msg) k = asked_by msg k
asked_in Balance k = nothing_asked k
asked_in Evict k = nothing_asked k
asked_in (Replicate q w) k = nothing_asked k

-- the same keys, in a list
abbrev pub wanted_list : ClientMessage → List ℕ
wanted_list (Want ks) = ks
wanted_list (Release ks) = []
wanted_list (Missing k x c) = []

abbrev pub asked_list : SchedEvent → List ℕ
asked_list (Join threads) = []
asked_list (Leave w) = []
asked_list (FromWorker w up) = []
asked_list (FromClient c msg) = wanted_list msg
asked_list Balance = []
asked_list Evict = []
asked_list (Replicate q w) = []

-- the whole of an event's own change, from f to g
abbrev pub changed_by : Facts → Facts → List (ℕ × ℕ) → Effect → (ℕ → Bool) → Changed
changed_by f g ps x asked = record { facts = g; freed = has_pair ps; answer = answer_by f x.answer; asked = asked; reply = x.reply; joined = cons_option x.joined [] }

-- the key is on a worker, and from f to g nothing changed but its steal
pub record IsMarked (f g : Facts) (k : ℕ) : Type 0 where
  pub placed : is_some (f.on k) ≡ true
  pub steal : Option (ℕ × Bool)
  pub facts : g ≡ record f { steal = put f.steal k steal }

-- what an answer says of the facts f before the event's own change and g after it
abbrev pub IsAnswer : Facts → Facts → Answer → Type 0
IsAnswer f g Nothing = Unit {0}
IsAnswer f g (Refresh w k) = Unit {0}
IsAnswer f g (AskBack k) = IsMarked f g k
IsAnswer f g (Remove w k) = k < keys f
IsAnswer f g (Acquire w k) = Unit {0}
