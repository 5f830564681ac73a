-- What is told by the facts once they have settled is what the step sends.
use Rattle.std.proofs.Common.{◌≡◌, ℕ, Bool, not, cond, ◌&&◌, List, ◌++◌, Option, Some, None, refl, sym, ap, ◌∙◌}
use Rattle.std.specs.List.{filter, filter_map, flat_map}
use Rattle.std.specs.Option.{option_map}
use Rattle.cluster_msgs.specs.Shape.{key_count}
use Rattle.cluster_msgs.specs.declared.messages.Down.{Down}
use Rattle.cluster_msgs.specs.declared.messages.ToClient.{ToClient}
use Rattle.cluster_msgs.specs.declared.messages.ToClient.TheVariants.{KeyInMemory, LostData, ClientTaskErred}
use Rattle.cluster_rules.specs.Functions.{from_one}
use Rattle.cluster_rules.specs.Derived.{below}
use Rattle.cluster_rules.specs.Sched.{workers, held, erred, blame, holders}
use Rattle.cluster_rules.specs.SchedStep.{Stages, lost, was_held, was_erred, down_messages, to_worker, free_message, task_messages, all_to, to_clients, reply_message, client_messages, posted}
use Rattle.sched_changes.specs.Pairs.{has_pair}
use Rattle.sched_changes.specs.declared.answer.Answer.{Answer}
use Rattle.sched_changes.specs.Answers.{answer_of}
use Rattle.scheduler_core.specs.Mail.{worker_mail}
use Rattle.scheduler_core.specs.News.{told, client_mail, reply_of}
use Rattle.scheduler_core.specs.Posted.{posted_mail}

pub down_same : (t : Stages) (ps : List (ℕ × ℕ)) (since : ℕ) (a : Answer) → ((w k : ℕ) → has_pair ps w k ≡ lost t w k) → since ≡ t.before.counter → ((w : ℕ) → answer_of a t.placed w ≡ t.changed.answer t.placed w) → t.placed.setting ≡ t.before.setting → flat_map (worker_mail t.placed ps since a) (workers t.placed) ≡ down_messages t
unfolding down_messages to_worker worker_mail
down_same t ps since a l s e n = λ i. flat_map (λ w. free_message w (filter (λ k. l w k i) (below (key_count (n i).shape))) ++ (task_messages t.placed (s i) w ++ all_to w (e w i))) (workers t.placed)

pub clients_same : (t : Stages) (wh we : ℕ → Bool) → wh ≡ was_held t → we ≡ was_erred t → t.placed.setting ≡ t.before.setting → client_mail t.placed wh we ≡ to_clients t
unfolding client_mail told to_clients
clients_same t wh we h e n = λ i. flat_map (λ c. filter_map (λ k.
    cond (not (t.placed.want c k)) None
    (cond (erred t.placed k && not (e i k)) (option_map (λ b. (c, ClientTaskErred k b)) (blame t.placed k))
    (cond (held t.placed k && not (h i k)) (Some (c, KeyInMemory k (holders t.placed k)))
    (cond (h i k && not (held t.placed k)) (Some (c, LostData k)) None)))) (below (key_count (n i).shape))) (from_one (n i).clients)

reply_same : (t : Stages) (ms : List (ℕ × ToClient)) (r : Option (ℕ × ℕ)) → reply_of t.placed ms r ≡ reply_message t ms r
reply_same t ms None = refl
reply_same t ms (Some p) = refl

pub replies_same : (t : Stages) (ms : List (ℕ × ToClient)) (r : Option (ℕ × ℕ)) → ms ≡ to_clients t → t.changed.reply ≡ r → (ms ++ reply_of t.placed ms r) ≡ client_messages t
unfolding client_messages
replies_same t ms r e q = ap (λ xs. xs ++ reply_of t.placed xs r) e ∙ ap (λ ys. to_clients t ++ ys) (reply_same t (to_clients t) r ∙ ap (reply_message t (to_clients t)) (sym q))

pub posted_same : (t : Stages) (ms : List (ℕ × Down)) → posted_mail t.placed ms ≡ posted t ms
unfolding posted posted_mail
posted_same t ms = refl
