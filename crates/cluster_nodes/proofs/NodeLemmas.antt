-- The nodes as functions of a number: cores, and messages of one kind.
use Rattle.std.proofs.Common.{◌≡◌, ℕ, ◌<◌, Bool, true, false, List, [], ◌∷◌, ◌++◌, Option, Some, None, refl, sym, ap, ◌∙◌, subst, cond, length, get_or, set, drop}
use Rattle.std.specs.Prelude.{◌==◌, slice_get, map}
use Rattle.std.specs.List.{filter_map}
use Rattle.std.proofs.lemmas.List.Elements.{filter_map-append}
use Rattle.std.proofs.lemmas.List.{map-append}
use Rattle.std.specs.Prelude.{option_and_then}
use Rattle.cluster_msgs.specs.Shape.{Shape}
use Rattle.cluster_msgs.specs.declared.messages.Down.{Down}
use Rattle.cluster_msgs.specs.declared.messages.Up.{Up}
use Rattle.cluster_msgs.specs.declared.messages.ToClient.{ToClient}
use Rattle.cluster_msgs.specs.declared.messages.FromClient.{FromClient}
use Rattle.cluster_msgs.specs.declared.messages.Message.{Message}
use Rattle.cluster_msgs.specs.declared.cores.WorkerEvent.{WorkerEvent}
use Rattle.cluster_msgs.specs.declared.cores.WorkerEvent.TheVariants.{Down as Told, Start, Done, Ask as AskPeer, Gathered, GatherFailed, DataLost}
use Rattle.cluster_msgs.specs.declared.cores.ClientEvent.{ClientEvent}
use Rattle.cluster_msgs.specs.declared.cores.ClientEvent.TheVariants.{Want, Release, FromScheduler, Ask as ClientAsk, Gathered as ClientGathered, GatherFailed as ClientGatherFailed}
use Rattle.cluster_msgs.specs.declared.messages.ToClient.TheVariants.{KeyInMemory, LostData, ClientTaskErred}
use Rattle.cluster_rules.specs.Derived.{is_in}
use Rattle.cluster_rules.specs.Functions.{put}
use Rattle.cluster_rules.specs.Enabled.{front}
use Rattle.cluster_rules.specs.Worker.{Ask, WorkerFacts, would_start, ask_to, without_ask}
use Rattle.cluster_rules.specs.WorkerStep.{keys_of, taken, start, worker_row, worker_step, ask_peer, gathered}
use Rattle.cluster_rules.specs.Client.{ClientFacts, hears, hear, client_answered, client_gathered_by, client_gathered, keeps_still, client_wants, client_releases, client_ask, client_step}
use Rattle.fact_rows.specs.Rows.{read}
use Rattle.gather_client.specs.CoreState.{CoreState, client_facts}
use Rattle.gather_client.proofs.FoldLemmas.{gets-shape, misses-shape}
use Rattle.message_queues.specs.Posts.{downs, ups, to_clients, from_clients}
use Rattle.worker_core.specs.Core.{Core, facts}
use Rattle.worker_core.proofs.CountLemmas.{same_down, same_done, same_gathered_by}
use Rattle.std.specs.Prelude.{not, ◌&&◌, filter}
use Rattle.small_facts.proofs.Options.{slice_get_at}
use Rattle.cluster_nodes.specs.Nodes.{as_down, as_up, as_to_client, as_from_client, worker_of, client_of, if_alive, workers_of, clients_of}
use Rattle.cluster_nodes.proofs.Places.{cores_set}

-- cores, by number
pub workers_set : (g : Shape) (alive : List Bool) (xs : List Core) (i : ℕ) (v : Core) → i < length xs → read alive false i ≡ true → workers_of g alive (set xs i v) ≡ put (workers_of g alive xs) i (facts v)
unfolding workers_of
workers_set g alive xs i v h a = cores_set (λ k o. if_alive (read alive false k) (worker_of g k o)) xs i v h ∙ ap (λ b. put (λ k. if_alive (read alive false k) (worker_of g k (slice_get xs k))) i (if_alive b (facts v))) a

pub worker_was : (g : Shape) (alive : List Bool) (xs : List Core) (i : ℕ) (v : Core) → i < length xs → read alive false i ≡ true → v ≡ get_or xs i v → workers_of g alive xs i ≡ facts v
unfolding workers_of
worker_was g alive xs i v h a e = ap (λ b. if_alive b (worker_of g i (slice_get xs i))) a ∙ ap (worker_of g i) (slice_get_at xs i v h e)

pub clients_set : (g : Shape) (xs : List CoreState) (i : ℕ) (v : CoreState) → i < length xs → clients_of g (set xs i v) ≡ put (clients_of g xs) i (client_facts v)
unfolding clients_of
clients_set g xs i v h = cores_set (λ k. client_of g) xs i v h

pub client_was : (g : Shape) (xs : List CoreState) (i : ℕ) (v : CoreState) → i < length xs → v ≡ get_or xs i v → clients_of g xs i ≡ client_facts v
unfolding clients_of
client_was g xs i v h e = ap (client_of g) (slice_get_at xs i v h e)

-- an event leaves the graph
start_shape : (w : WorkerFacts) (o : Option ℕ) → (start w o).facts.shape ≡ w.shape
start_shape w None = refl
start_shape w (Some k) = refl

row_shape : (w : WorkerFacts) (e : WorkerEvent) → (worker_row w e).facts.shape ≡ w.shape
unfolding worker_row ask_peer gathered
row_shape w (Told m) = (same_down (taken w) m).shape
row_shape w Start = start_shape w (would_start w)
row_shape w (Done k z) = (same_done w k z).shape
row_shape w (AskPeer p) = refl
row_shape w (Gathered p n found) = (same_gathered_by w p n found (ask_to w.asks p)).shape
row_shape w (GatherFailed p n) = (same_gathered_by w p n [] (ask_to w.asks p)).shape
row_shape w (DataLost k) = refl

pub step_shape : (w : WorkerFacts) (e : WorkerEvent) → (worker_step w e).facts.shape ≡ w.shape
unfolding worker_step
step_shape w e = row_shape w e

hears_shape : (c : ClientFacts) (k : ℕ) (d : ClientFacts) → d.shape ≡ c.shape → (hears c k d).shape ≡ c.shape
hears_shape c k d e = pick (c.wants k && not (c.got k))
  where
    pick : (b : Bool) → (cond b d c).shape ≡ c.shape
    pick true = e
    pick false = refl

hear_shape : (c : ClientFacts) (m : ToClient) → (hear c m).shape ≡ c.shape
unfolding hear
hear_shape c (KeyInMemory k hs) = hears_shape c k _ refl
hear_shape c (LostData k) = refl
hear_shape c (ClientTaskErred k b) = hears_shape c k _ refl

gathered_shape : (c : ClientFacts) (p n : ℕ) (found : List ℕ) (o : Option Ask) → (client_gathered_by c p n found o).facts.shape ≡ c.shape
gathered_shape c p n found None = refl
gathered_shape c p n found (Some a) = pick (a.number == n)
  where
    pick : (b : Bool) → (cond b (client_answered (record c { asks = without_ask c.asks p }) p (keys_of (filter (λ i. is_in i.0 found) a.items)) (filter (λ i. not (is_in i.0 found)) a.items)) (keeps_still c)).facts.shape ≡ c.shape
    pick true = misses-shape (filter (λ i. not (is_in i.0 found)) a.items) _ ∙ gets-shape (keys_of (filter (λ i. is_in i.0 found) a.items)) (record c { asks = without_ask c.asks p })
    pick false = refl

pub client_step_shape : (c : ClientFacts) (e : ClientEvent) → (client_step c e).facts.shape ≡ c.shape
unfolding client_step client_wants client_releases client_ask client_gathered
client_step_shape c (Want ks) = refl
client_step_shape c (Release ks) = refl
client_step_shape c (FromScheduler m) = hear_shape c m
client_step_shape c (ClientAsk p) = refl
client_step_shape c (ClientGathered p n found) = gathered_shape c p n found (ask_to c.asks p)
client_step_shape c (ClientGatherFailed p n) = gathered_shape c p n [] (ask_to c.asks p)

-- messages of one kind
pub downs_are : (ms : List Down) → filter_map as_down (downs ms) ≡ ms
downs_are [] = refl
downs_are (m ∷ ms) = ap (λ l. m ∷ l) (downs_are ms)

pub ups_are : (ms : List Up) → filter_map as_up (ups ms) ≡ ms
ups_are [] = refl
ups_are (m ∷ ms) = ap (λ l. m ∷ l) (ups_are ms)

pub to_clients_are : (ms : List ToClient) → filter_map as_to_client (to_clients ms) ≡ ms
to_clients_are [] = refl
to_clients_are (m ∷ ms) = ap (λ l. m ∷ l) (to_clients_are ms)

pub from_clients_are : (ms : List FromClient) → filter_map as_from_client (from_clients ms) ≡ ms
from_clients_are [] = refl
from_clients_are (m ∷ ms) = ap (λ l. m ∷ l) (from_clients_are ms)

module _ {M : Type 0} (of : Message → Option M) (wrap : M → Message) (are : (ms : List M) → filter_map of (map wrap ms) ≡ ms) where
  -- more messages at one node
  pub more_at : (before after : ℕ → List Message) (i : ℕ) (ms : List M) → after ≡ put before i (before i ++ map wrap ms)
      → (λ k. filter_map of (after k)) ≡ put (λ k. filter_map of (before k)) i (filter_map of (before i) ++ ms)
  more_at before after i ms e = λ t k. at_place k t
    where
      pick : (b : Bool) (k : ℕ) → filter_map of (cond b (before i ++ map wrap ms) (before k)) ≡ cond b (filter_map of (before i) ++ ms) (filter_map of (before k))
      pick true k = filter_map-append of (before i) (map wrap ms) ∙ ap (λ l. filter_map of (before i) ++ l) (are ms)
      pick false k = refl

      at_place : (k : ℕ) → filter_map of (after k) ≡ cond (k == i) (filter_map of (before i) ++ ms) (filter_map of (before k))
      at_place k = ap (λ f. filter_map of (f k)) e ∙ pick (k == i) k

  pub only_more : (before after : ℕ → List Message) (i : ℕ) (ms : List M) → after ≡ put before i (before i ++ map wrap ms)
      → ((k : ℕ) → map wrap (filter_map of (before k)) ≡ before k) → (k : ℕ) → map wrap (filter_map of (after k)) ≡ after k
  only_more before after i ms e h k = subst (λ (f : ℕ → List Message). map wrap (filter_map of (f k)) ≡ f k) (sym e) (pick (k == i))
    where
      pick : (b : Bool) → map wrap (filter_map of (cond b (before i ++ map wrap ms) (before k))) ≡ cond b (before i ++ map wrap ms) (before k)
      pick true = ap (map wrap) (filter_map-append of (before i) (map wrap ms) ∙ ap (λ l. filter_map of (before i) ++ l) (are ms))
          ∙ map-append wrap (filter_map of (before i)) ms ∙ ap (λ l. l ++ map wrap ms) (h i)
      pick false = h k

  -- the first message at one node goes
  pub first_of_kind : ((m : M) → of (wrap m) ≡ Some m) → (ws : List Message) → map wrap (filter_map of ws) ≡ ws → option_and_then of (front ws) ≡ front (filter_map of ws)
  first_of_kind one ws h = subst (λ l. option_and_then of (front l) ≡ front (filter_map of l)) h (by (filter_map of ws))
    where
      by : (ms : List M) → option_and_then of (front (map wrap ms)) ≡ front (filter_map of (map wrap ms))
      by [] = refl
      by (m ∷ ms) = one m ∙ sym (ap front (are (m ∷ ms)))

  rest_of_kind : (ws : List Message) → map wrap (filter_map of ws) ≡ ws → filter_map of (drop 1 ws) ≡ drop 1 (filter_map of ws)
  rest_of_kind ws h = subst (λ l. filter_map of (drop 1 l) ≡ drop 1 (filter_map of l)) h (by (filter_map of ws))
    where
      by : (ms : List M) → filter_map of (drop 1 (map wrap ms)) ≡ drop 1 (filter_map of (map wrap ms))
      by [] = refl
      by (m ∷ ms) = are ms ∙ sym (ap (drop 1) (are (m ∷ ms)))

  only_rest : (ws : List Message) → map wrap (filter_map of ws) ≡ ws → map wrap (filter_map of (drop 1 ws)) ≡ drop 1 ws
  only_rest ws h = subst (λ l. map wrap (filter_map of (drop 1 l)) ≡ drop 1 l) h (by (filter_map of ws))
    where
      by : (ms : List M) → map wrap (filter_map of (drop 1 (map wrap ms))) ≡ drop 1 (map wrap ms)
      by [] = refl
      by (m ∷ ms) = ap (map wrap) (are ms)

  pub rest_at : (before after : ℕ → List Message) (i : ℕ) → after ≡ put before i (drop 1 (before i)) → ((k : ℕ) → map wrap (filter_map of (before k)) ≡ before k)
      → (λ k. filter_map of (after k)) ≡ put (λ k. filter_map of (before k)) i (drop 1 (filter_map of (before i)))
  rest_at before after i e h = λ t k. at_place k t
    where
      pick : (b : Bool) (k : ℕ) → filter_map of (cond b (drop 1 (before i)) (before k)) ≡ cond b (drop 1 (filter_map of (before i))) (filter_map of (before k))
      pick true k = rest_of_kind (before i) (h i)
      pick false k = refl

      at_place : (k : ℕ) → filter_map of (after k) ≡ cond (k == i) (drop 1 (filter_map of (before i))) (filter_map of (before k))
      at_place k = ap (λ f. filter_map of (f k)) e ∙ pick (k == i) k

  pub only_after : (before after : ℕ → List Message) (i : ℕ) → after ≡ put before i (drop 1 (before i)) → ((k : ℕ) → map wrap (filter_map of (before k)) ≡ before k)
      → (k : ℕ) → map wrap (filter_map of (after k)) ≡ after k
  only_after before after i e h k = subst (λ (f : ℕ → List Message). map wrap (filter_map of (f k)) ≡ f k) (sym e) (pick (k == i))
    where
      pick : (b : Bool) → map wrap (filter_map of (cond b (drop 1 (before i)) (before k))) ≡ cond b (drop 1 (before i)) (before k)
      pick true = only_rest (before i) (h i)
      pick false = h k

  -- all messages at one node go
  pub none_at : (before after : ℕ → List Message) (i : ℕ) → after ≡ put before i [] → (λ k. filter_map of (after k)) ≡ put (λ k. filter_map of (before k)) i []
  none_at before after i e = λ t k. at_place k t
    where
      pick : (b : Bool) (k : ℕ) → filter_map of (cond b [] (before k)) ≡ cond b [] (filter_map of (before k))
      pick true k = refl
      pick false k = refl

      at_place : (k : ℕ) → filter_map of (after k) ≡ cond (k == i) [] (filter_map of (before k))
      at_place k = ap (λ f. filter_map of (f k)) e ∙ pick (k == i) k

  pub only_none : (before after : ℕ → List Message) (i : ℕ) → after ≡ put before i [] → ((k : ℕ) → map wrap (filter_map of (before k)) ≡ before k)
      → (k : ℕ) → map wrap (filter_map of (after k)) ≡ after k
  only_none before after i e h k = subst (λ (f : ℕ → List Message). map wrap (filter_map of (f k)) ≡ f k) (sym e) (pick (k == i))
    where
      pick : (b : Bool) → map wrap (filter_map of (cond b [] (before k))) ≡ cond b [] (before k)
      pick true = refl
      pick false = h k
