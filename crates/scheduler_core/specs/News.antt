-- The messages of one event to the clients, by the facts once they have settled.
use Rattle.std.specs.Prelude.{ℕ, nat_lt, Bool, not, ◌&&◌, List, [], ◌∷◌, ◌++◌, Option, Some, None, cond}
use Rattle.std.specs.List.{filter_map, flat_map, list_any}
use Rattle.std.specs.Option.{option_map}
use Rattle.cluster_msgs.specs.declared.messages.ToClient.{ToClient}
use Rattle.cluster_msgs.specs.declared.messages.ToClient.TheVariants.{KeyInMemory, LostData, ClientTaskErred}
use Rattle.cluster_rules.specs.Functions.{from_one}
use Rattle.cluster_rules.specs.Derived.{below}
use Rattle.cluster_rules.specs.Sched.{Facts, keys, held, erred, blame, holders}
use Rattle.cluster_rules.specs.SchedStep.{tells_held}
use Rattle.key_sets.specs.Sets.{has}
use Rattle.task_table.specs.Tasks.{Tasks, facts}
use Rattle.scheduler_core.specs.declared.news.News.{News}
use Rattle.scheduler_core.specs.declared.news.News.TheVariants.{Erred, Held, Lost}

-- what a client hears of a key that it wants, by which keys were held and erred before
unfoldable pub told : Facts → (ℕ → Bool) → (ℕ → Bool) → ℕ → ℕ → Option (ℕ × ToClient)
told f was_held was_erred c k =
    cond (not (f.want c k)) None
    (cond (erred f k && not (was_erred k)) (option_map (λ b. (c, ClientTaskErred k b)) (blame f k))
    (cond (held f k && not (was_held k)) (Some (c, KeyInMemory k (holders f k)))
    (cond (was_held k && not (held f k)) (Some (c, LostData k)) None)))

-- to the clients, in ascending order of client and key
unfoldable pub client_mail : Facts → (ℕ → Bool) → (ℕ → Bool) → List (ℕ × ToClient)
client_mail f was_held was_erred = flat_map (λ c. filter_map (told f was_held was_erred c) (below (keys f))) (from_one f.setting.clients)

-- the answer to a client that missed a copy: who holds the key, where it is held and these messages do not tell it
abbrev pub reply_of : Facts → List (ℕ × ToClient) → Option (ℕ × ℕ) → List (ℕ × ToClient)
reply_of f ms None = []
reply_of f ms (Some p) = cond (held f p.1 && not (list_any (tells_held p.0 p.1) ms)) ((p.0, KeyInMemory p.1 (holders f p.1)) ∷ []) []

-- what is new of a key, whoever wants it
unfoldable pub news_of : Facts → (ℕ → Bool) → (ℕ → Bool) → ℕ → Option News
news_of f was_held was_erred k =
    cond (erred f k && not (was_erred k)) (option_map (λ b. Erred b) (blame f k))
    (cond (held f k && not (was_held k)) (Some Held)
    (cond (was_held k && not (held f k)) (Some Lost) None))

-- the keys of which something is new, ascending
unfoldable pub all_news : Facts → (ℕ → Bool) → (ℕ → Bool) → List (ℕ × News)
all_news f was_held was_erred = filter_map (λ k. option_map (λ n. (k, n)) (news_of f was_held was_erred k)) (below (keys f))

-- news as a message
abbrev pub message_of : Facts → ℕ → News → ToClient
message_of f k (Erred b) = ClientTaskErred k b
message_of f k Held = KeyInMemory k (holders f k)
message_of f k Lost = LostData k

-- the message to the client, where it wants the key
unfoldable pub heard : Facts → ℕ → ℕ × News → Option (ℕ × ToClient)
heard f c n = cond (f.want c n.0) (Some (c, message_of f n.0 n.1)) None

-- the messages of news to all clients, and then the answer to a client
abbrev pub mail_and_reply : Facts → List (ℕ × News) → Option (ℕ × ℕ) → List (ℕ × ToClient)
mail_and_reply f ns r = let ms = flat_map (λ c. filter_map (heard f c) ns) (from_one f.setting.clients) in ms ++ reply_of f ms r

-- held or erred when touched keys were last forgotten, but for the keys that were asked for
abbrev pub was_held : Tasks → List ℕ → ℕ → Bool
was_held t asked k = (nat_lt k (keys (facts t)) && has t.held_before k) && not (has asked k)

abbrev pub was_erred : Tasks → List ℕ → ℕ → Bool
was_erred t asked k = (nat_lt k (keys (facts t)) && has t.erred_before k) && not (has asked k)
