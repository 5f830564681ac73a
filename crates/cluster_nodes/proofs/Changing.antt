-- A cluster whose links, marks or members changed.
use Rattle.std.proofs.Common.{◌≡◌, ℕ, zero, suc, Bool, true, false, ◌&&◌, List, [], ◌∷◌, ◌++◌, Option, Some, None, refl, sym, ap, ◌∙◌, arith, cond, length, get_or, drop}
use Rattle.std.specs.Prelude.{◌==◌, slice_get}
use Rattle.std.specs.List.{filter_map, AllByRecursion}
use Rattle.std.specs.declared.sync.Arc.{Arc}
use Rattle.std.specs.declared.vec.Vec.{Vec}
use Rattle.std.specs.declared.alloc.Global.{Global}
use Rattle.std.proofs.lemmas.Bool.{eqb-true}
use Rattle.std.proofs.lemmas.Bool.Decides.{nat_tests}
use Rattle.std.proofs.Math.Dec.{eqb-suc-zero, eqb-zero-suc}
use Rattle.std.proofs.lemmas.Option.{none-some, same_Some}
use Rattle.small_facts.proofs.Lists.{get_or_push}
use Rattle.cluster_msgs.specs.Shape.{Shape}
use Rattle.cluster_msgs.specs.declared.messages.Down.{Down}
use Rattle.cluster_msgs.specs.declared.messages.Up.{Up}
use Rattle.cluster_msgs.specs.declared.messages.ToClient.{ToClient}
use Rattle.cluster_msgs.specs.declared.messages.FromClient.{FromClient as ClientMessage}
use Rattle.cluster_msgs.specs.declared.messages.Message.{Message}
use Rattle.cluster_msgs.specs.declared.cores.WorkerEvent.TheVariants.{Down as Told}
use Rattle.cluster_msgs.specs.declared.cores.ClientEvent.TheVariants.{FromScheduler}
use Rattle.cluster_rules.specs.Functions.{put, put_pair}
use Rattle.cluster_rules.specs.Sched.{Facts}
use Rattle.cluster_rules.specs.Enabled.{front}
use Rattle.cluster_rules.specs.Worker.{WorkerFacts, new_worker}
use Rattle.cluster_rules.specs.Client.{new_client}
use Rattle.gather_client.specs.CoreState.{CoreState, client_facts}
use Rattle.cluster_rules.specs.WorldStep.{cut_off, spill}
use Rattle.fact_rows.specs.Rows.{read, cell}
use Rattle.message_queues.specs.Queues.{waiting}
use Rattle.cluster_laws.specs.Blocks.{Cluster}
use Rattle.worker_core.specs.Core.{Core, facts}
use Rattle.cluster_nodes.specs.declared.nodes.Nodes.{Nodes}
use Rattle.cluster_nodes.specs.Nodes.{as_down, as_up, as_to_client, as_from_client, block_at, blocks_at, worker_of, client_of, if_alive, workers_of, clients_of, world_of, blocks_in, cluster_of}
use Rattle.cluster_nodes.specs.Turns.{nothing, in_world, worker_turned, client_turned, down_delivered, client_told, joined, lost}

-- the first of these messages came, or there was none
pub delivered : {B : Type 0} (c : Cluster B) (i : ℕ) (ds : List Down) (m : Down) → Some m ≡ front ds → worker_turned (in_world c (record c.world { down = put c.world.down i (drop 1 ds) })) i (Told m) nothing ≡ down_delivered c i ds
delivered c i [] m e = absurd (none-some m (sym e))
delivered c i (x ∷ xs) m e = ap (λ y. worker_turned (in_world c (record c.world { down = put c.world.down i xs })) i (Told y) nothing) (same_Some m x e)

put_own : {A : Type 0} (f : ℕ → A) (i : ℕ) (x : A) → f i ≡ x → put f i x ≡ f
put_own f i x s = λ t k. pick k (k == i) refl t
  where
    pick : (k : ℕ) (b : Bool) → (k == i) ≡ b → cond b x (f k) ≡ f k
    pick k true e = sym s ∙ ap f (sym (eqb-true k i e))
    pick k false e = refl

pub not_delivered : {B : Type 0} (c : Cluster B) (i : ℕ) (ds : List Down) → c.world.down i ≡ ds → None ≡ front ds → in_world c (record c.world { down = put c.world.down i (drop 1 ds) }) ≡ down_delivered c i ds
not_delivered c i [] s e = ap (λ (d : ℕ → List Down). in_world c (record c.world { down = d })) (put_own c.world.down i [] s)
not_delivered c i (x ∷ xs) s e = absurd (none-some x e)

pub told : {B : Type 0} (c : Cluster B) (i : ℕ) (ds : List ToClient) (m : ToClient) → Some m ≡ front ds → client_turned (in_world c (record c.world { to_client = put c.world.to_client i (drop 1 ds) })) i (FromScheduler m) nothing ≡ client_told c i ds
told c i [] m e = absurd (none-some m (sym e))
told c i (x ∷ xs) m e = ap (λ y. client_turned (in_world c (record c.world { to_client = put c.world.to_client i xs })) i (FromScheduler y) nothing) (same_Some m x e)

pub not_told : {B : Type 0} (c : Cluster B) (i : ℕ) (ds : List ToClient) → c.world.to_client i ≡ ds → None ≡ front ds → in_world c (record c.world { to_client = put c.world.to_client i (drop 1 ds) }) ≡ client_told c i ds
not_told c i [] s e = ap (λ (d : ℕ → List ToClient). in_world c (record c.world { to_client = d })) (put_own c.world.to_client i [] s)
not_told c i (x ∷ xs) s e = absurd (none-some x e)

-- a pair of places, one after the other
pub pair_put : {A : Type 0} (old : ℕ → ℕ → A) (i k : ℕ) (v : A) → put_pair old i k v ≡ put old i (put (old i) k v)
pair_put {A = A} old i k v = λ t x y. pick x y (x == i) refl t
  where
    pick : (x y : ℕ) (b : Bool) → (x == i) ≡ b → cond (b && y == k) v (old x y) ≡ cond {A = ℕ → A} b (λ q. cond (q == k) v (old i q)) (old x) y
    pick x y true e = ap (λ z. cond (y == k) v (old z y)) (eqb-true x i e)
    pick x y false e = refl

pub row_put : {A : Type 0} (old : ℕ → ℕ → A) (i : ℕ) (v : A) → (λ w k. cond (w == i) v (old w k)) ≡ put old i (λ k. v)
row_put {A = A} old i v = λ t w k. pick w k (w == i) t
  where
    pick : (w k : ℕ) (b : Bool) → cond b v (old w k) ≡ cond {A = ℕ → A} b (λ q. v) (old w) k
    pick w k true = refl
    pick w k false = refl

pub no_blocks : {A : Type 0} (old new : ℕ → ℕ → Option (Arc A Global)) (i : ℕ) → new ≡ (λ w k. cond (w == i) None (old w k)) → (λ w k. block_at (new w k)) ≡ put (λ w k. block_at (old w k)) i nothing
no_blocks {A = A} old new i e = λ t w k. at_place w k t
  where
    pick : (w k : ℕ) (b : Bool) → block_at (cond b None (old w k)) ≡ cond {A = ℕ → Option A} b nothing (λ q. block_at (old w q)) k
    pick w k true = refl
    pick w k false = refl

    at_place : (w k : ℕ) → block_at (new w k) ≡ cond {A = ℕ → Option A} (w == i) nothing (λ q. block_at (old w q)) k
    at_place w k = ap (λ (f : ℕ → ℕ → Option (Arc A Global)). block_at (f w k)) e ∙ pick w k (w == i)

-- the blocks of a worker that dies go
bare : (b : Bool) (w : WorkerFacts) → if_alive false w ≡ record (if_alive b w) { mem = λ k. false }
bare true w = refl
bare false w = refl

pub workers_died : (alive new : ℕ → Bool) (of : ℕ → WorkerFacts) (i : ℕ) → new ≡ put alive i false
    → (λ k. if_alive (new k) (of k)) ≡ put (λ k. if_alive (alive k) (of k)) i (record (if_alive (alive i) (of i)) { mem = λ k. false })
workers_died alive new of i e = λ t k. at_place k t
  where
    pick : (k : ℕ) (b : Bool) → (k == i) ≡ b → if_alive (cond b false (alive k)) (of k) ≡ cond b (record (if_alive (alive i) (of i)) { mem = λ k. false }) (if_alive (alive k) (of k))
    pick k true s = bare (alive k) (of k) ∙ ap (λ z. record (if_alive (alive z) (of z)) { mem = λ k. false }) (eqb-true k i s)
    pick k false s = refl

    at_place : (k : ℕ) → if_alive (new k) (of k) ≡ cond (k == i) (record (if_alive (alive i) (of i)) { mem = λ k. false }) (if_alive (alive k) (of k))
    at_place k = ap (λ (f : ℕ → Bool). if_alive (f k) (of k)) e ∙ pick k (k == i) refl

suc_suc : (k n : ℕ) → (k == n) ≡ (suc k == suc n)
suc_suc k n = grind (arith, nat_tests)

get_more : {A : Type 0} (xs : List A) (v : A) (k : ℕ) → slice_get (xs ++ v ∷ []) k ≡ cond (k == length xs) (Some v) (slice_get xs k)
get_more [] v zero = refl
get_more [] v (suc k) = sym (ap (λ b. cond b (Some v) None) (eqb-suc-zero k))
get_more (x ∷ xs) v zero = sym (ap (λ b. cond b (Some v) (Some x)) (eqb-zero-suc (length xs)))
get_more (x ∷ xs) v (suc k) = get_more xs v k ∙ ap (λ b. cond b (Some v) (slice_get xs k)) (suc_suc k (length xs))

row_more : {A : Type 0} (d : A) (rows : List (List A)) (new : List A) → ((k : ℕ) → get_or new k d ≡ d) → (w k : ℕ) → get_or (get_or (rows ++ new ∷ []) w []) k d ≡ get_or (get_or rows w []) k d
row_more d [] new e zero k = e k
row_more d [] new e (suc w) k = refl
row_more d (x ∷ rows) new e zero k = refl
row_more d (x ∷ rows) new e (suc w) k = row_more d rows new e w k

pub grid_more : {A : Type 0} (d : A) (n m : ℕ) (rows : List (List A)) (new : List A) → ((k : ℕ) → read new d k ≡ d) → cell (m, rows ++ new ∷ []) d ≡ cell (n, rows) d
grid_more d n m rows new e = λ i w k. row_more d rows new e w k i

pub workers_joined : (g : Shape) (alive : List Bool) (xs : List Core) (v : Core) → length alive ≡ length xs → workers_of g (alive ++ true ∷ []) (xs ++ v ∷ []) ≡ put (workers_of g alive xs) (length xs) (facts v)
unfolding workers_of
workers_joined g alive xs v l = λ t k. at_place k t
  where
    pick : (k : ℕ) (b : Bool) → if_alive (cond b true (read alive false k)) (worker_of g k (cond b (Some v) (slice_get xs k))) ≡ cond b (facts v) (if_alive (read alive false k) (worker_of g k (slice_get xs k)))
    pick k true = refl
    pick k false = refl

    at_place : (k : ℕ) → if_alive (read (alive ++ true ∷ []) false k) (worker_of g k (slice_get (xs ++ v ∷ []) k)) ≡ cond (k == length xs) (facts v) (if_alive (read alive false k) (worker_of g k (slice_get xs k)))
    at_place k = ap (λ o. if_alive (read (alive ++ true ∷ []) false k) (worker_of g k o)) (get_more xs v k)
        ∙ ap (λ b. if_alive b (worker_of g k (cond (k == length xs) (Some v) (slice_get xs k)))) (get_or_push alive true false k ∙ ap (λ n. cond (k == n) true (read alive false k)) l)
        ∙ pick k (k == length xs)

pub alive_joined : (alive : List Bool) (n : ℕ) → length alive ≡ n → read (alive ++ true ∷ []) false ≡ put (read alive false) n true
alive_joined alive n l = λ t k. (get_or_push alive true false k ∙ ap (λ m. cond (k == m) true (read alive false k)) l) t

module _ {B : Type 0} (f : Facts) (old : Nodes B) where
  -- other messages on the links
  pub with_down : (d : List (List Message)) (ds : ℕ → List Down) → (λ i. filter_map as_down (waiting d i)) ≡ ds → cluster_of f (record old { down = d }) ≡ in_world (cluster_of f old) (record (world_of f old) { down = ds })
  unfolding world_of blocks_in
  with_down d ds e = λ t. record { world = record (world_of f old) { down = e t }; blocks = blocks_in old }

  pub with_up : (u : List (List Message)) (us : ℕ → List Up) → (λ i. filter_map as_up (waiting u i)) ≡ us → cluster_of f (record old { up = u }) ≡ in_world (cluster_of f old) (record (world_of f old) { up = us })
  unfolding world_of blocks_in
  with_up u us e = λ t. record { world = record (world_of f old) { up = e t }; blocks = blocks_in old }

  pub with_to_client : (d : List (List Message)) (ds : ℕ → List ToClient) → (λ i. filter_map as_to_client (waiting d i)) ≡ ds → cluster_of f (record old { to_client = d }) ≡ in_world (cluster_of f old) (record (world_of f old) { to_client = ds })
  unfolding world_of blocks_in
  with_to_client d ds e = λ t. record { world = record (world_of f old) { to_client = e t }; blocks = blocks_in old }

  pub with_from_client : (d : List (List Message)) (ds : ℕ → List ClientMessage) → (λ i. filter_map as_from_client (waiting d i)) ≡ ds → cluster_of f (record old { from_client = d }) ≡ in_world (cluster_of f old) (record (world_of f old) { from_client = ds })
  unfolding world_of blocks_in
  with_from_client d ds e = λ t. record { world = record (world_of f old) { from_client = e t }; blocks = blocks_in old }

  pub cut_is : (d u : List (List Message)) (i : ℕ) → (λ k. filter_map as_down (waiting d k)) ≡ put (λ k. filter_map as_down (waiting old.down k)) i [] → (λ k. filter_map as_up (waiting u k)) ≡ put (λ k. filter_map as_up (waiting old.up k)) i []
      → cluster_of f (record old { down = d; up = u }) ≡ in_world (cluster_of f old) (cut_off (world_of f old) i)
  unfolding world_of blocks_in
  cut_is d u i a b = λ t. record { world = record (world_of f old) { down = a t; up = b t }; blocks = blocks_in old }

  pub spilled_is : (st : Bool) (sp : ℕ × List (List Bool)) (i k : ℕ) → cell sp false ≡ put_pair (cell old.spilled false) i k true → cluster_of f (record old { strays = st; spilled = sp }) ≡ in_world (cluster_of f old) (spill (world_of f old) i k)
  unfolding world_of blocks_in
  spilled_is st sp i k e = let s : cell sp false ≡ put (cell old.spilled false) i (put (cell old.spilled false i) k true) = e ∙ pair_put (cell old.spilled false) i k true in λ t. record { world = record (world_of f old) { spilled = s t }; blocks = blocks_in old }

  pub lost_is : (al : List Bool) (sp : ℕ × List (List Bool)) (hd : ℕ × List (List (Option (Arc B Global)))) (i : ℕ) → read al false ≡ put (read old.alive false) i false
      → cell sp false ≡ (λ w k. cond (w == i) false (cell old.spilled false w k)) → cell hd None ≡ (λ w k. cond (w == i) None (cell old.held None w k))
      → cluster_of f (record old { alive = al; spilled = sp; held = hd }) ≡ lost (cluster_of f old) i
  unfolding world_of blocks_in workers_of
  lost_is al sp hd i a b c =
      let s : cell sp false ≡ put (cell old.spilled false) i (λ k. false) = b ∙ row_put (cell old.spilled false) i false in
      let w = workers_died (read old.alive false) (read al false) (λ k. worker_of f.setting.shape k (slice_get old.workers.items k)) i a in
      let h = no_blocks (cell old.held None) (cell hd None) i c in
      λ t. record { world = record (world_of f old) { alive = a t; spilled = s t; workers = w t }; blocks = record (blocks_in old) { held = h t } }

  pub joined_is : (ws : Vec Core Global) (al : List Bool) (sp : ℕ × List (List Bool)) (d u : List (List Message)) (hd : ℕ × List (List (Option (Arc B Global)))) (ins : ℕ × List (List (Option (List (Arc B Global))))) (v : Core) (threads : ℕ)
      → length old.alive ≡ length old.workers.items → ws.items ≡ old.workers.items ++ v ∷ [] → facts v ≡ new_worker f.setting.shape (length old.workers.items) threads → al ≡ old.alive ++ true ∷ []
      → cell sp false ≡ cell old.spilled false → waiting d ≡ waiting old.down → waiting u ≡ waiting old.up → cell hd None ≡ cell old.held None → cell ins None ≡ cell old.inputs None
      → cluster_of f (record old { workers = ws; alive = al; spilled = sp; down = d; up = u; held = hd; inputs = ins }) ≡ joined (cluster_of f old) (length old.workers.items) threads
  unfolding world_of blocks_in
  joined_is ws al sp d u hd ins v threads l a n b s p q h x =
      let w : workers_of f.setting.shape al ws.items ≡ put (workers_of f.setting.shape old.alive old.workers.items) (length old.workers.items) (new_worker f.setting.shape (length old.workers.items) threads)
      = ap (λ z. workers_of f.setting.shape z ws.items) b ∙ ap (λ z. workers_of f.setting.shape (old.alive ++ true ∷ []) z) a ∙ workers_joined f.setting.shape old.alive old.workers.items v l ∙ ap (λ (y : WorkerFacts). put (workers_of f.setting.shape old.alive old.workers.items) (length old.workers.items) y) n in
      let m : read al false ≡ put (read old.alive false) (length old.workers.items) true = ap (λ z. read z false) b ∙ alive_joined old.alive (length old.workers.items) l in
      λ t. record {
        world = record (world_of f old) { workers = w t; alive = m t; spilled = s t; down = λ i. filter_map as_down (p t i); up = λ i. filter_map as_up (q t i) };
        blocks = record (blocks_in old) { held = λ i k. block_at (h t i k); inputs = λ i k. blocks_at (x t i k) };
      }

-- all clients are new, and nobody is a worker
pub all_new : (g : Shape) (cs : List CoreState) → AllByRecursion (λ (c : CoreState). client_facts c ≡ new_client g) cs → clients_of g cs ≡ (λ c. new_client g)
unfolding clients_of
all_new g cs h = λ t k. at cs k h t
  where
    at : (cs : List CoreState) (k : ℕ) → AllByRecursion (λ (c : CoreState). client_facts c ≡ new_client g) cs → client_of g (slice_get cs k) ≡ new_client g
    at [] k h = refl
    at (c ∷ cs) zero h = h.0
    at (c ∷ cs) (suc k) h = at cs k h.1

pub nobody : (g : Shape) (alive : List Bool) (c : Core) → ((k : ℕ) → read alive false k ≡ false) → facts c ≡ new_worker g 0 0 → workers_of g alive (c ∷ []) ≡ (λ i. new_worker g i 0)
unfolding workers_of
nobody g alive c dead e = λ t k. at k t
  where
    at : (k : ℕ) → if_alive (read alive false k) (worker_of g k (slice_get (c ∷ []) k)) ≡ new_worker g k 0
    at zero = ap (λ b. if_alive b (facts c)) (dead zero) ∙ ap (if_alive false) e
    at (suc k) = ap (λ b. if_alive b (new_worker g (suc k) 0)) (dead (suc k))
