-- What settles after each change of the scheduler's facts, and the exact messages of one event.
use Rattle.std.specs.Prelude.{ℕ, ◌+◌, ◌==◌, nat_le, Bool, false, not, ◌&&◌, ◌||◌, List, [], ◌∷◌, ◌++◌, Option, Some, None, is_none, filter, map, cond}
use Rattle.std.specs.List.{filter_map, flat_map, list_any}
use Rattle.std.specs.Option.{option_map}
use Rattle.cluster_msgs.specs.declared.messages.Down.{Down}
use Rattle.cluster_msgs.specs.declared.messages.Down.TheVariants.{ComputeTask, FreeKeys, StealRequest, RemoveReplicas, AcquireReplicas, RefreshWhoHas}
use Rattle.cluster_msgs.specs.declared.messages.ToClient.{ToClient}
use Rattle.cluster_msgs.specs.declared.messages.ToClient.TheVariants.{KeyInMemory, LostData, ClientTaskErred}
use Rattle.cluster_msgs.specs.declared.cores.SchedEvent.{SchedEvent}
use Rattle.cluster_rules.specs.Functions.{from_one, put}
use Rattle.cluster_rules.specs.Derived.{below, is_in}
use Rattle.cluster_rules.specs.Sched.{Facts, keys, deps, holds, workers, held, erred, known, need, ready, blame, is_on, holders, who_has}
use Rattle.cluster_rules.specs.Policies.{place}
use Rattle.cluster_rules.specs.SchedTable.{Changed, change}

-- (1) bad and losses lose the keys that are not known
unfoldable pub drop_bad : Facts → Facts
drop_bad f = record f { bad = λ k. cond (known f k) (f.bad k) false; losses = λ k. cond (known f k) (f.losses k) 0 }

-- (2) has loses the keys that are not needed
unfoldable pub drop_has : Facts → Facts
drop_has f = record f { has = λ w k. cond (need f k) (f.has w k) None }

-- (3) on and steal lose the keys that are not ready
unfoldable pub drop_on : Facts → Facts
drop_on f = record f { on = λ k. cond (ready f k) (f.on k) None; steal = λ k. cond (ready f k) (f.steal k) None }

-- the key is given to the worker, under a new attempt
abbrev pub give : Facts → ℕ → Option ℕ → Facts
give f k None = f
give f k (Some w) = record f { on = put f.on k (Some (w, f.counter)); counter = f.counter + 1 }

unfoldable pub place_one : Facts → ℕ → Facts
place_one f k = cond (ready f k && is_none (f.on k)) (give f k (place f k)) f

-- these keys are placed, one after another, each seeing the earlier ones
abbrev pub place_keys : Facts → List ℕ → Facts
place_keys f [] = f
place_keys f (k ∷ ks) = place_keys (place_one f k) ks

-- (4) each ready key that is on no worker is placed, where it has a candidate
unfoldable pub place_all : Facts → Facts
place_all f = place_keys f (below (keys f))

-- what the facts settle to
unfoldable pub settled : Facts → Facts
settled f = place_all (drop_on (drop_has (drop_bad f)))

-- the facts between the parts of one event: as they were, with its own change, and after each part of settling
pub record Stages : Type 0 where
  pub before : Facts
  pub changed : Changed
  pub known_only : Facts
  pub needed_only : Facts
  pub ready_only : Facts
  pub placed : Facts

unfoldable pub settle : Facts → Changed → Stages
settle f g =
    let b = drop_bad g.facts in
    let h = drop_has b in
    let o = drop_on h in
    record { before = f; changed = g; known_only = b; needed_only = h; ready_only = o; placed = place_all o }

-- what the worker lost in settling or by the event itself
abbrev pub lost : Stages → ℕ → ℕ → Bool
lost t w k = t.changed.freed w k || ((holds t.known_only w k && not (need t.known_only k)) || (is_on t.needed_only w k && not (ready t.needed_only k)))

abbrev pub lost_keys : Stages → ℕ → List ℕ
lost_keys t w = filter (lost t w) (below (keys t.before))

-- one message with all keys that the worker lost, if there are any
abbrev pub free_message : ℕ → List ℕ → List (ℕ × Down)
free_message w [] = []
free_message w (k ∷ ks) = (w, FreeKeys (k ∷ ks)) ∷ []

-- the message for a key that was given to the worker since the counter stood there
abbrev pub task_message : Facts → ℕ → ℕ → ℕ → Option (ℕ × ℕ) → Option (ℕ × Down)
task_message f since w k None = None
task_message f since w k (Some p) =
    cond (p.0 == w && nat_le since p.1) (Some (w, ComputeTask k p.1 (who_has f (deps f k)))) None

unfoldable pub task_messages : Facts → ℕ → ℕ → List (ℕ × Down)
task_messages f since w = filter_map (λ k. task_message f since w k (f.on k)) (below (keys f))

abbrev pub all_to : ℕ → List Down → List (ℕ × Down)
all_to w ms = map (λ m. (w, m)) ms

-- to one worker: what it lost, its new tasks, its answers
unfoldable pub to_worker : Stages → ℕ → List (ℕ × Down)
to_worker t w = free_message w (lost_keys t w) ++ (task_messages t.placed t.before.counter w ++ all_to w (t.changed.answer t.placed w))

-- to the connected workers, ascending
unfoldable pub down_messages : Stages → List (ℕ × Down)
down_messages t = flat_map (to_worker t) (workers t.placed)

-- held or erred before the event. The keys of the event's own want count as neither
abbrev pub was_held : Stages → ℕ → Bool
was_held t k = held t.before k && not (t.changed.asked k)

abbrev pub was_erred : Stages → ℕ → Bool
was_erred t k = erred t.before k && not (t.changed.asked k)

-- what a client hears of a key: that it became erred, else that it became held, else that it is held no longer
abbrev pub client_message : Stages → ℕ → ℕ → Option (ℕ × ToClient)
client_message t c k =
    cond (not (t.placed.want c k)) None
    (cond (erred t.placed k && not (was_erred t k)) (option_map (λ b. (c, ClientTaskErred k b)) (blame t.placed k))
    (cond (held t.placed k && not (was_held t k)) (Some (c, KeyInMemory k (holders t.placed k)))
    (cond (was_held t k && not (held t.placed k)) (Some (c, LostData k)) None)))

-- to the clients, in ascending order of client and key
unfoldable pub to_clients : Stages → List (ℕ × ToClient)
to_clients t = flat_map (λ c. filter_map (client_message t c) (below (keys t.before))) (from_one t.before.setting.clients)

-- a message that tells this client that the key is held
abbrev pub tells_held : ℕ → ℕ → ℕ × ToClient → Bool
tells_held c k (d, KeyInMemory q hs) = d == c && q == k
tells_held c k (d, LostData q) = false
tells_held c k (d, ClientTaskErred q b) = false

-- the answer to a client that missed a copy: who holds the key, where it is held and the client is not told so already
abbrev pub reply_message : Stages → List (ℕ × ToClient) → Option (ℕ × ℕ) → List (ℕ × ToClient)
reply_message t ms None = []
reply_message t ms (Some p) = cond (held t.placed p.1 && not (list_any (tells_held p.0 p.1) ms)) ((p.0, KeyInMemory p.1 (holders t.placed p.1)) ∷ []) []

unfoldable pub client_messages : Stages → List (ℕ × ToClient)
client_messages t = to_clients t ++ reply_message t (to_clients t) t.changed.reply

-- how many of these messages go to the worker
abbrev pub count_to : ℕ → List (ℕ × Down) → ℕ
count_to w [] = 0
count_to w (m ∷ ms) = cond (m.0 == w) 1 0 + count_to w ms

-- the messages to one worker, in order
abbrev pub mail : ℕ → List (ℕ × Down) → List Down
mail w [] = []
mail w (m ∷ ms) = cond (m.0 == w) (m.1 ∷ mail w ms) (mail w ms)

-- the message takes the key away from the worker
abbrev pub takes_away : ℕ → Down → Bool
takes_away k (FreeKeys ks) = is_in k ks
takes_away k (RemoveReplicas ks) = is_in k ks
takes_away k (ComputeTask q a who) = false
takes_away k (StealRequest q a) = false
takes_away k (AcquireReplicas who) = false
takes_away k (RefreshWhoHas who) = false

-- the place of the last message that takes the key away, where s were sent before these
abbrev pub fence_after : ℕ → ℕ → List Down → ℕ → ℕ
fence_after k s [] f = f
fence_after k s (m ∷ ms) f = fence_after k (s + 1) ms (cond (takes_away k m) (s + 1) f)

-- each message takes the next place on its link, and a key that is taken away remembers the place of the message that says so
unfoldable pub posted : Stages → List (ℕ × Down) → Facts
posted t ms = record t.placed {
  sent = λ w. t.placed.sent w + count_to w ms;
  fence = λ w k. fence_after k (t.placed.sent w) (mail w ms) (t.placed.fence w k);
}

-- an event's result: the facts after it, the messages to workers and to clients, and the numbers that joined
pub record Stepped : Type 0 where
  pub facts : Facts
  pub down : List (ℕ × Down)
  pub clients : List (ℕ × ToClient)
  pub joined : List ℕ

unfoldable pub finish_step : Stages → Stepped
finish_step t = record {
  facts = posted t (down_messages t);
  down = down_messages t;
  clients = client_messages t;
  joined = t.changed.joined;
}

-- one event that is taken: its row of the table, what settles, and the messages
unfoldable pub sched_step : Facts → SchedEvent → Stepped
sched_step f e = finish_step (settle f (change f e))
