-- The nodes of a cluster that starts.
use Rattle.std.proofs.Common.{◌≡◌, ℕ, zero, suc, false, List, [], ◌∷◌, Option, None, refl, sym, ap, ◌∙◌, subst, length, get_or}
use Rattle.std.specs.Prelude.{map}
use Rattle.std.specs.List.{filter_map, AllByRecursion}
use Rattle.cluster_msgs.specs.Shape.{Shape, key_count}
use Rattle.cluster_msgs.specs.declared.messages.Message.{Message}
use Rattle.cluster_msgs.specs.declared.messages.Message.TheVariants as message
use Rattle.cluster_rules.specs.Client.{ClientFacts, new_client}
use Rattle.cluster_rules.specs.Sched.{Setting, sched_opening}
use Rattle.cluster_rules.specs.Worker.{new_worker}
use Rattle.cluster_rules.specs.World.{opening}
use Rattle.fact_rows.specs.Rows.{read, cell, width, height}
use Rattle.gather_client.specs.CoreState.{CoreState, client_facts}
use Rattle.message_queues.specs.Queues.{waiting}
use Rattle.message_queues.specs.Transit.{parcels, AreRequests, AreAnswers}
use Rattle.message_queues.specs.declared.transit.InTransit.{InTransit}
use Rattle.cluster_laws.specs.Blocks.{no_blocks}
use Rattle.worker_core.specs.Core.{Core, facts}
use Rattle.cluster_nodes.specs.declared.nodes.Nodes.{Nodes}
use Rattle.cluster_nodes.specs.Nodes.{as_down, as_up, as_to_client, as_from_client, block_at, blocks_at, delivery_at, workers_of, world_of, blocks_in, cluster_of}
use Rattle.cluster_nodes.specs.Kept.{AreWorkersOver, AreClientsOver, IsNodes}
use Rattle.cluster_nodes.proofs.Changing.{all_new, nobody}
use Rattle.cluster_nodes.proofs.Tidying.{tidy_none}

-- a grid without rows has nothing
pub no_rows : {A : Type 0} (d : A) (w k : ℕ) → get_or (get_or [] w []) k d ≡ d
no_rows d zero zero = refl
no_rows d zero (suc k) = refl
no_rows d (suc w) zero = refl
no_rows d (suc w) (suc k) = refl

pub none_stands : {A : Type 0} (n : ℕ) → cell {A = Option A} (n, []) None ≡ (λ i k. None)
none_stands n = λ t w k. no_rows None w k t

-- no links carry nothing
pub none_waits : waiting {A = Message} [] ≡ (λ i. [])
none_waits = λ t i. at i t
  where
    at : (i : ℕ) → get_or {A = List Message} [] i [] ≡ []
    at zero = refl
    at (suc i) = refl

-- nobody is alive where only the first place is, and nobody has that
pub none_lives : (k : ℕ) → read (false ∷ []) false k ≡ false
none_lives zero = refl
none_lives (suc zero) = refl
none_lives (suc (suc k)) = refl

pub opening_is : {B : Type 0} (s : Setting) (n : Nodes B) (c : Core) → n.workers.items ≡ c ∷ [] → facts c ≡ new_worker s.shape 0 0
    → AllByRecursion (λ (c : CoreState). client_facts c ≡ new_client s.shape) n.clients.items
    → ((k : ℕ) → read n.alive false k ≡ false) → ((w k : ℕ) → cell n.spilled false w k ≡ false)
    → waiting n.down ≡ (λ i. []) → waiting n.up ≡ (λ i. []) → waiting n.to_client ≡ (λ i. []) → waiting n.from_client ≡ (λ i. [])
    → n.requests ≡ [] → n.answers ≡ []
    → cell n.held None ≡ (λ i k. None) → cell n.inputs None ≡ (λ i k. None) → cell n.got None ≡ (λ i k. None)
    → cluster_of (sched_opening s) n ≡ record { world = opening (record { setting = s; zero = λ k. false }); blocks = no_blocks }
unfolding world_of blocks_in
opening_is s n c we ce cs al sp d u tc fc r a h i g =
    let w = ap (workers_of s.shape n.alive) we ∙ nobody s.shape n.alive c al ce in
    let x = all_new s.shape n.clients.items cs in
    λ t. record {
      world = record {
        sched = sched_opening s;
        clients = x t;
        workers = w t;
        alive = λ k. al k t;
        spilled = λ v k. sp v k t;
        down = λ v. filter_map as_down (d t v);
        up = λ v. filter_map as_up (u t v);
        to_client = λ v. filter_map as_to_client (tc t v);
        from_client = λ v. filter_map as_from_client (fc t v);
        requests = parcels (r t);
        answers = parcels (a t);
      };
      blocks = record {
        held = λ v k. block_at (h t v k);
        inputs = λ v k. blocks_at (i t v k);
        carried = map (λ z. delivery_at z) (a t);
        got = λ v k. block_at (g t v k);
      };
    }

-- new clients are over their graph
over_graph : (g : Shape) (cs : List CoreState) → AllByRecursion (λ (c : CoreState). client_facts c ≡ new_client g) cs → AreClientsOver g cs
over_graph g [] h = tt
over_graph g (c ∷ cs) h = (ap (λ (w : ClientFacts). w.shape) h.0, over_graph g cs h.1)

-- links that carry nothing carry messages of each kind
sorted_none : {M : Type 0} (of : Message → Option M) (wrap : M → Message) (links : List (List Message)) → waiting links ≡ (λ i. []) → (i : ℕ) → map wrap (filter_map of (waiting links i)) ≡ waiting links i
sorted_none of wrap links e i = subst (λ (f : ℕ → List Message). map wrap (filter_map of (f i)) ≡ f i) (sym e) refl

module _ {B : Type 0} (n : Nodes B) (c : Core) where
  pub started : n.workers.items ≡ c ∷ [] → (facts c).shape ≡ n.shape → AllByRecursion (λ (x : CoreState). client_facts x ≡ new_client n.shape) n.clients.items
      → length n.alive ≡ 1 → height n.spilled ≡ 1 → length n.down ≡ 1 → length n.up ≡ 1 → height n.held ≡ 1 → height n.inputs ≡ 1
      → length n.to_client ≡ length n.clients.items → length n.from_client ≡ length n.clients.items → height n.got ≡ length n.clients.items
      → width n.spilled ≡ key_count n.shape → width n.held ≡ key_count n.shape → width n.inputs ≡ key_count n.shape → width n.got ≡ key_count n.shape
      → waiting n.down ≡ (λ i. []) → waiting n.up ≡ (λ i. []) → waiting n.to_client ≡ (λ i. []) → waiting n.from_client ≡ (λ i. [])
      → n.requests ≡ [] → n.answers ≡ []
      → ((i k : ℕ) → cell n.spilled false i k ≡ false) → cell n.held None ≡ (λ i k. None) → cell n.got None ≡ (λ i k. None)
      → IsNodes n
  started we ce cs al sp d u h i t x g ws wh wi wg dn un tn xn rn an sn hn gn =
      let one : ◌≡◌ {A = ℕ} 1 (length n.workers.items) = ap length (sym we) in
      record {
        sized = record {
          alive = al ∙ one;
          spilled = sp ∙ one;
          down = d ∙ one;
          up = u ∙ one;
          held = h ∙ one;
          inputs = i ∙ one;
          to_client = t;
          from_client = x;
          got = g;
          spilled_keys = ws;
          held_keys = wh;
          inputs_keys = wi;
          got_keys = wg;
          workers = subst (λ (l : List Core). AreWorkersOver n.shape l) (sym we) (ce, tt);
          clients = over_graph n.shape n.clients.items cs;
        };
        sorted = record {
          down = sorted_none as_down (λ m. message.Down m) n.down dn;
          up = sorted_none as_up (λ m. message.Up m) n.up un;
          to_client = sorted_none as_to_client (λ m. message.ToClient m) n.to_client tn;
          from_client = sorted_none as_from_client (λ m. message.FromClient m) n.from_client xn;
          requests = subst (λ (ts : List (InTransit B)). AreRequests ts) (sym rn) tt;
          answers = subst (λ (ts : List (InTransit B)). AreAnswers ts) (sym an) tt;
        };
        tidy = tidy_none n.strays n.alive n.workers.items n.clients.items n.spilled n.held n.got sn hn gn;
      }
