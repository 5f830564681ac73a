-- A scheduler's event, as its messages join the links.
use Rattle.std.proofs.Common.{◌≡◌, true, false, ℕ, ◌+◌, ◌<◌, ◌≤◌, List, [], ◌∷◌, ◌++◌, refl, sym, ap, ◌∙◌, subst, arith, length, All}
use Rattle.std.specs.List.{filter_map, AllByRecursion}
use Rattle.std.proofs.lemmas.List.{map-append}
use Rattle.std.proofs.lemmas.List.Elements.{filter_map-append, All-from_recursion}
use Rattle.cluster_msgs.specs.declared.messages.Down.{Down}
use Rattle.cluster_msgs.specs.declared.messages.ToClient.{ToClient}
use Rattle.cluster_msgs.specs.declared.messages.Message.{Message}
use Rattle.cluster_msgs.specs.declared.cores.SchedEvent.{SchedEvent}
use Rattle.cluster_rules.specs.Sched.{Setting, Facts}
use Rattle.cluster_rules.specs.SchedTable.{sched_takes}
use Rattle.cluster_rules.specs.SchedStep.{Stepped, mail, sched_step}
use Rattle.cluster_rules.specs.WorldStep.{letters, scheduled}
use Rattle.fact_rows.specs.Rows.{read, cell}
use Rattle.message_queues.specs.Queues.{waiting}
use Rattle.message_queues.specs.Transit.{parcels}
use Rattle.message_queues.specs.Posts.{downs, to_clients, posted}
use Rattle.scheduler_core.specs.Cores.{Core, facts}
use Rattle.cluster_nodes.specs.Kept.{IsNodes}
use Rattle.cluster_nodes.specs.Nodes.{as_down, as_up, as_to_client, as_from_client, workers_of, clients_of, world_of, blocks_in}
use Rattle.cluster_nodes.specs.Turns.{in_world}
use Rattle.cluster_nodes.proofs.Counting.{took_more}
use Rattle.cluster_nodes.proofs.NodeLemmas.{downs_are, to_clients_are}
use Rattle.cluster_world.specs.declared.state.State.{State}
use Rattle.cluster_world.specs.Worlds.{cluster, world, setting}
use Rattle.cluster_world.specs.Outcomes.{IsTurned}
use Rattle.cluster_world.proofs.Numbers.{downs_reach, news_reach}
use Rattle.cluster_world.proofs.Letters.{reply_there}

-- messages of one kind behind those that wait
sent_down : (xs : List Message) (ms : List Down) → filter_map as_down (xs ++ downs ms) ≡ filter_map as_down xs ++ ms
sent_down xs ms = filter_map-append as_down xs (downs ms) ∙ ap (λ l. filter_map as_down xs ++ l) (downs_are ms)

sorted_down : (xs : List Message) (ms : List Down) → downs (filter_map as_down xs) ≡ xs → downs (filter_map as_down (xs ++ downs ms)) ≡ xs ++ downs ms
sorted_down xs ms h = ap downs (sent_down xs ms) ∙ map-append _ (filter_map as_down xs) ms ∙ ap (λ l. l ++ downs ms) h

sent_news : (xs : List Message) (ms : List ToClient) → filter_map as_to_client (xs ++ to_clients ms) ≡ filter_map as_to_client xs ++ ms
sent_news xs ms = filter_map-append as_to_client xs (to_clients ms) ∙ ap (λ l. filter_map as_to_client xs ++ l) (to_clients_are ms)

sorted_news : (xs : List Message) (ms : List ToClient) → to_clients (filter_map as_to_client xs) ≡ xs → to_clients (filter_map as_to_client (xs ++ to_clients ms)) ≡ xs ++ to_clients ms
sorted_news xs ms h = ap to_clients (sent_news xs ms) ∙ map-append _ (filter_map as_to_client xs) ms ∙ ap (λ l. l ++ to_clients ms) h

-- each message has its link
pub downs_there : (f : Facts) (e : SchedEvent) (sent : List (ℕ × Down)) (n : ℕ) → sent ≡ (sched_step f e).down → n ≡ (sched_step f e).facts.last_worker + 1 → All (λ (m : ℕ × Down). m.0 < n) sent
downs_there f e sent n s l = subst (λ (k : ℕ). All (λ (m : ℕ × Down). m.0 < k) sent) (sym l)
    (All-from_recursion (λ (m : ℕ × Down). m.0 < (sched_step f e).facts.last_worker + 1) sent
    (weaken sent (subst (λ ms. AllByRecursion (λ (m : ℕ × Down). m.0 ≤ (sched_step f e).facts.last_worker) ms) (sym s) (downs_reach f e))))
  where
    weaken : (ms : List (ℕ × Down)) → AllByRecursion (λ (m : ℕ × Down). m.0 ≤ (sched_step f e).facts.last_worker) ms → AllByRecursion (λ (m : ℕ × Down). m.0 < (sched_step f e).facts.last_worker + 1) ms
    weaken [] h = tt
    weaken (m ∷ ms) h = (omega (arith, h.0), weaken ms h.1)

pub news_there : (f : Facts) (e : SchedEvent) (sent : List (ℕ × ToClient)) (n : ℕ) → sched_takes f e ≡ true → sent ≡ (sched_step f e).clients → n ≡ f.setting.clients + 1 → All (λ (m : ℕ × ToClient). m.0 < n) sent
news_there f e sent n t s l = subst (λ (k : ℕ). All (λ (m : ℕ × ToClient). m.0 < k) sent) (sym l)
    (All-from_recursion (λ (m : ℕ × ToClient). m.0 < f.setting.clients + 1) sent
    (weaken sent (subst (λ ms. AllByRecursion (λ (m : ℕ × ToClient). m.0 ≤ f.setting.clients) ms) (sym s) (news_reach f e (reply_there f e t)))))
  where
    weaken : (ms : List (ℕ × ToClient)) → AllByRecursion (λ (m : ℕ × ToClient). m.0 ≤ f.setting.clients) ms → AllByRecursion (λ (m : ℕ × ToClient). m.0 < f.setting.clients + 1) ms
    weaken [] h = tt
    weaken (m ∷ ms) h = (omega (arith, h.0), weaken ms h.1)

module _ {J B F : Type 0} (old : State J B F) (core : Core) (d t : List (List Message)) (s : Stepped) where
  abbrev after : State J B F
  after = record old { sched = core; nodes = record old.nodes { down = d; to_client = t } }

  pub sched_turned : facts core ≡ s.facts → (facts core).setting ≡ setting old → core.taken ≡ old.sched.taken + 1
      → (sent : List (ℕ × Down)) → sent ≡ s.down → waiting d ≡ posted (waiting old.nodes.down) (λ i. downs (mail i sent)) → length d ≡ length old.nodes.down
      → (news : List (ℕ × ToClient)) → news ≡ s.clients → waiting t ≡ posted (waiting old.nodes.to_client) (λ c. to_clients (letters c news)) → length t ≡ length old.nodes.to_client
      → IsNodes old.nodes → length old.nodes.workers.items ≡ s.facts.last_worker + 1
      → IsTurned old after (in_world (cluster old) (scheduled (world old) s))
  unfolding world_of blocks_in scheduled
  sched_turned fe same counted sent se de dl news ne te tl n l = record {
    cluster = λ i. record {
      world = record {
        sched = fe i;
        clients = clients_of (shape i) old.nodes.clients.items;
        workers = workers_of (shape i) old.nodes.alive old.nodes.workers.items;
        alive = read old.nodes.alive false;
        spilled = cell old.nodes.spilled false;
        down = λ k. down k i;
        up = λ k. filter_map as_up (waiting old.nodes.up k);
        to_client = λ k. told k i;
        from_client = λ k. filter_map as_from_client (waiting old.nodes.from_client k);
        requests = parcels old.nodes.requests;
        answers = parcels old.nodes.answers;
      };
      blocks = blocks_in old.nodes;
    };
    nodes = record {
      sized = record {
        alive = n.sized.alive;
        spilled = n.sized.spilled;
        down = dl ∙ n.sized.down;
        up = n.sized.up;
        held = n.sized.held;
        inputs = n.sized.inputs;
        to_client = tl ∙ n.sized.to_client;
        from_client = n.sized.from_client;
        got = n.sized.got;
        spilled_keys = n.sized.spilled_keys;
        held_keys = n.sized.held_keys;
        inputs_keys = n.sized.inputs_keys;
        got_keys = n.sized.got_keys;
        workers = n.sized.workers;
        clients = n.sized.clients;
      };
      sorted = record {
        down = λ k. subst (λ (f : ℕ → List Message). downs (filter_map as_down (f k)) ≡ f k) (sym de) (sorted_down (waiting old.nodes.down k) (mail k sent) (n.sorted.down k));
        up = n.sorted.up;
        to_client = λ k. subst (λ (f : ℕ → List Message). to_clients (filter_map as_to_client (f k)) ≡ f k) (sym te) (sorted_news (waiting old.nodes.to_client k) (letters k news) (n.sorted.to_client k));
        from_client = n.sorted.from_client;
        requests = n.sorted.requests;
        answers = n.sorted.answers;
      };
      tidy = n.tidy;
    };
    shape = refl;
    workers = l ∙ ap (λ (f : Facts). f.last_worker + 1) (sym fe);
    clients = refl;
    more = omega arith;
    few = λ b f. (took_more b old.nodes f.0, omega (arith, f.1, counted));
  }
    where
      shape : (facts core).setting.shape ≡ (setting old).shape
      shape = ap (λ (x : Setting). x.shape) same

      down : (k : ℕ) → filter_map as_down (waiting d k) ≡ filter_map as_down (waiting old.nodes.down k) ++ mail k s.down
      down k = ap (λ f. filter_map as_down (f k)) de ∙ sent_down (waiting old.nodes.down k) (mail k sent) ∙ ap (λ ms. filter_map as_down (waiting old.nodes.down k) ++ mail k ms) se

      told : (k : ℕ) → filter_map as_to_client (waiting t k) ≡ filter_map as_to_client (waiting old.nodes.to_client k) ++ letters k s.clients
      told k = ap (λ f. filter_map as_to_client (f k)) te ∙ sent_news (waiting old.nodes.to_client k) (letters k news) ∙ ap (λ ms. filter_map as_to_client (waiting old.nodes.to_client k) ++ letters k ms) ne
