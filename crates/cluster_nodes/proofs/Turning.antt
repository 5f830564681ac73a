-- A cluster after one node took an event.
use Rattle.std.proofs.Common.{◌≡◌, ℕ, ◌<◌, Bool, true, false, ◌&&◌, List, ◌++◌, Option, Some, None, refl, sym, ap, ◌∙◌, cond, length, get_or}
use Rattle.std.specs.Prelude.{◌==◌}
use Rattle.std.specs.declared.sync.Arc.{Arc}
use Rattle.std.specs.declared.vec.Vec.{Vec}
use Rattle.std.specs.declared.alloc.Global.{Global}
use Rattle.std.proofs.lemmas.Bool.{eq-eqb}
use Rattle.cluster_msgs.specs.Shape.{Shape}
use Rattle.cluster_msgs.specs.declared.messages.Message.{Message}
use Rattle.cluster_msgs.specs.declared.messages.Message.TheVariants as message
use Rattle.cluster_msgs.specs.declared.events.Asker.TheVariants.{Worker, Client}
use Rattle.cluster_msgs.specs.declared.cores.Instruction.{Instruction}
use Rattle.cluster_msgs.specs.declared.cores.ClientInstruction.{ClientInstruction}
use Rattle.cluster_msgs.specs.declared.cores.WorkerEvent.{WorkerEvent}
use Rattle.cluster_msgs.specs.declared.cores.ClientEvent.{ClientEvent}
use Rattle.cluster_rules.specs.Functions.{put}
use Rattle.cluster_rules.specs.Sched.{Facts}
use Rattle.cluster_rules.specs.Worker.{WorkerFacts}
use Rattle.cluster_rules.specs.WorkerStep.{WorkerStep, worker_step}
use Rattle.cluster_rules.specs.Client.{ClientFacts, ClientStep, client_step}
use Rattle.cluster_rules.specs.WorldStep.{sends, requested, worked, at_worker, client_sends, client_requested, client_worked, at_client}
use Rattle.fact_rows.specs.Rows.{read, cell}
use Rattle.gather_client.specs.CoreState.{CoreState, client_facts}
use Rattle.message_queues.specs.Queues.{waiting}
use Rattle.message_queues.specs.Posts.{ups, from_clients}
use Rattle.message_queues.specs.Transit.{parcels}
use Rattle.message_queues.specs.declared.transit.InTransit.{InTransit}
use Rattle.cluster_laws.specs.Moves.{keeps}
use Rattle.worker_core.specs.Core.{Core, facts}
use Rattle.cluster_nodes.specs.declared.nodes.Nodes.{Nodes}
use Rattle.cluster_nodes.specs.Nodes.{as_up, as_from_client, block_at, workers_of, clients_of, world_of, blocks_in, cluster_of}
use Rattle.cluster_nodes.specs.Turns.{first_at, among, worker_turned, client_turned}
use Rattle.cluster_nodes.proofs.NodeLemmas.{ups_are, from_clients_are, more_at, worker_was, client_was}

-- a shelf at its blocks
block_keeps : {A : Type 0} (c : Bool) (x y : Option (Arc A Global)) → block_at (keeps c x y) ≡ keeps c (block_at x) (block_at y)
block_keeps true None y = refl
block_keeps true (Some a) y = refl
block_keeps false x y = refl

pub blocks_put : {A : Type 0} (old new : ℕ → ℕ → Option (Arc A Global)) (i : ℕ) (counted : ℕ → Bool) (came : ℕ → Option (Arc A Global))
    → new ≡ put old i (λ k. keeps (counted k) (old i k) (came k))
    → (λ w k. block_at (new w k)) ≡ put {A = ℕ → Option A} (λ w k. block_at (old w k)) i (λ k. keeps (counted k) (block_at (old i k)) (block_at (came k)))
blocks_put {A = A} old new i counted came e = λ t w k. at_place w k t
  where
    pick : (b : Bool) (w k : ℕ) → block_at (cond {A = ℕ → Option (Arc A Global)} b (λ q. keeps (counted q) (old i q) (came q)) (old w) k)
        ≡ cond {A = ℕ → Option A} b (λ q. keeps (counted q) (block_at (old i q)) (block_at (came q))) (λ q. block_at (old w q)) k
    pick true w k = block_keeps (counted k) (old i k) (came k)
    pick false w k = refl

    at_place : (w k : ℕ) → block_at (new w k) ≡ cond {A = ℕ → Option A} (w == i) (λ q. keeps (counted q) (block_at (old i q)) (block_at (came q))) (λ q. block_at (old w q)) k
    at_place w k = ap (λ (f : ℕ → ℕ → Option (Arc A Global)). block_at (f w k)) e ∙ pick (w == i) w k

-- the core that was stepped has the facts of the step
put_same : {A : Type 0} (f : ℕ → A) (i : ℕ) (x : A) → put f i x i ≡ x
put_same f i x = ap (λ b. cond b x (f i)) (eq-eqb i i refl)

pub core_now : (g : Shape) (alive : List Bool) (ws new : List Core) (i : ℕ) (v : Core) (x : WorkerFacts) → i < length new → read alive false i ≡ true → v ≡ get_or new i v → workers_of g alive new ≡ put (workers_of g alive ws) i x → facts v ≡ x
core_now g alive ws new i v x h a was e = sym (worker_was g alive new i v h a was) ∙ ap (λ (f : ℕ → WorkerFacts). f i) e ∙ put_same (workers_of g alive ws) i x

pub client_now : (g : Shape) (cs new : List CoreState) (i : ℕ) (v : CoreState) (x : ClientFacts) → i < length new → v ≡ get_or new i v → clients_of g new ≡ put (clients_of g cs) i x → client_facts v ≡ x
client_now g cs new i v x h was e = sym (client_was g new i v h was) ∙ ap (λ (f : ℕ → ClientFacts). f i) e ∙ put_same (clients_of g cs) i x

module _ {B : Type 0} (f : Facts) (old : Nodes B) where
  abbrev g : Shape
  g = f.setting.shape

  abbrev before : ℕ → WorkerFacts
  before = workers_of g old.alive old.workers.items

  abbrev clients_before : ℕ → ClientFacts
  clients_before = clients_of g old.clients.items

  -- a worker
  worked_is : (ws : Vec Core Global) (sp : ℕ × List (List Bool)) (hd : ℕ × List (List (Option (Arc B Global)))) (u : List (List Message)) (r : List (InTransit B)) (i : ℕ) (s : WorkerStep)
      → workers_of g old.alive ws.items ≡ put before i s.facts
      → cell sp false ≡ put (cell old.spilled false) i (λ k. cell old.spilled false i k && s.facts.mem k)
      → waiting u ≡ put (waiting old.up) i (waiting old.up i ++ ups (sends s.out))
      → parcels r ≡ requested (Worker i) (parcels old.requests) s.out
      → world_of f (record old { workers = ws; spilled = sp; held = hd; up = u; requests = r }) ≡ worked (world_of f old) i s
  unfolding world_of worked
  worked_is ws sp hd u r i s a b c d = λ t. record (world_of f old) {
    workers = a t;
    spilled = b t;
    up = more_at as_up (λ m. message.Up m) ups_are (waiting old.up) (waiting u) i (sends s.out) c t;
    requests = d t;
  }

  world_workers : (i : ℕ) → before i ≡ (world_of f old).workers i
  unfolding world_of
  world_workers i = refl

  blocks_worked : (ws : Vec Core Global) (sp : ℕ × List (List Bool)) (hd : ℕ × List (List (Option (Arc B Global)))) (u : List (List Message)) (r : List (InTransit B)) (i : ℕ) (mem : ℕ → Bool) (new : List (ℕ × Arc B Global))
      → cell hd None ≡ put (cell old.held None) i (λ k. keeps (mem k) (cell old.held None i k) (first_at new k))
      → blocks_in (record old { workers = ws; spilled = sp; held = hd; up = u; requests = r }) ≡ record (blocks_in old) { held = put (blocks_in old).held i (λ k. keeps (mem k) ((blocks_in old).held i k) (among new k)) }
  unfolding blocks_in
  blocks_worked ws sp hd u r i mem new h = λ t. record (blocks_in old) { held = blocks_put (cell old.held None) (cell hd None) i mem (first_at new) h t }

  pub worker_turn_is : (ws : Vec Core Global) (sp : ℕ × List (List Bool)) (hd : ℕ × List (List (Option (Arc B Global)))) (u : List (List Message)) (r : List (InTransit B)) (i : ℕ) (e : WorkerEvent) (core : Core) (out : List Instruction) (new : List (ℕ × Arc B Global))
      → workers_of g old.alive ws.items ≡ put before i (worker_step (before i) e).facts
      → out ≡ (worker_step (before i) e).out
      → facts core ≡ (worker_step (before i) e).facts
      → cell sp false ≡ put (cell old.spilled false) i (λ k. cell old.spilled false i k && (facts core).mem k)
      → cell hd None ≡ put (cell old.held None) i (λ k. keeps ((facts core).mem k) (cell old.held None i k) (first_at new k))
      → waiting u ≡ put (waiting old.up) i (waiting old.up i ++ ups (sends out))
      → parcels r ≡ requested (Worker i) (parcels old.requests) out
      → cluster_of f (record old { workers = ws; spilled = sp; held = hd; up = u; requests = r }) ≡ worker_turned (cluster_of f old) i e (among new)
  worker_turn_is ws sp hd u r i e core out new a o n b h c d = λ t. record { world = w t; blocks = x t }
    where
      s : WorkerStep
      s = worker_step (before i) e

      w : world_of f (record old { workers = ws; spilled = sp; held = hd; up = u; requests = r }) ≡ at_worker (world_of f old) i e
      w = worked_is ws sp hd u r i s a
          (b ∙ ap (λ (y : WorkerFacts). put (cell old.spilled false) i (λ k. cell old.spilled false i k && y.mem k)) n)
          (c ∙ ap (λ (l : List Instruction). put (waiting old.up) i (waiting old.up i ++ ups (sends l))) o)
          (d ∙ ap (λ (l : List Instruction). requested (Worker i) (parcels old.requests) l) o)
          ∙ ap (λ (y : WorkerFacts). worked (world_of f old) i (worker_step y e)) (world_workers i)

      x : blocks_in (record old { workers = ws; spilled = sp; held = hd; up = u; requests = r })
          ≡ record (blocks_in old) { held = put (blocks_in old).held i (λ k. keeps ((worker_step ((world_of f old).workers i) e).facts.mem k) ((blocks_in old).held i k) (among new k)) }
      x = blocks_worked ws sp hd u r i (facts core).mem new h
          ∙ ap (λ (y : WorkerFacts). record (blocks_in old) { held = put (blocks_in old).held i (λ k. keeps (y.mem k) ((blocks_in old).held i k) (among new k)) }) (n ∙ ap (λ (y : WorkerFacts). (worker_step y e).facts) (world_workers i))

  -- a client
  client_worked_is : (cs : Vec CoreState Global) (gt : ℕ × List (List (Option (Arc B Global)))) (u : List (List Message)) (r : List (InTransit B)) (i : ℕ) (s : ClientStep)
      → clients_of g cs.items ≡ put clients_before i s.facts
      → waiting u ≡ put (waiting old.from_client) i (waiting old.from_client i ++ from_clients (client_sends s.out))
      → parcels r ≡ client_requested (Client i) (parcels old.requests) s.out
      → world_of f (record old { clients = cs; got = gt; from_client = u; requests = r }) ≡ client_worked (world_of f old) i s
  unfolding world_of client_worked
  client_worked_is cs gt u r i s a c d = λ t. record (world_of f old) {
    clients = a t;
    from_client = more_at as_from_client (λ m. message.FromClient m) from_clients_are (waiting old.from_client) (waiting u) i (client_sends s.out) c t;
    requests = d t;
  }

  world_clients : (i : ℕ) → clients_before i ≡ (world_of f old).clients i
  unfolding world_of
  world_clients i = refl

  blocks_got : (cs : Vec CoreState Global) (gt : ℕ × List (List (Option (Arc B Global)))) (u : List (List Message)) (r : List (InTransit B)) (i : ℕ) (got : ℕ → Bool) (new : List (ℕ × Arc B Global))
      → cell gt None ≡ put (cell old.got None) i (λ k. keeps (got k) (cell old.got None i k) (first_at new k))
      → blocks_in (record old { clients = cs; got = gt; from_client = u; requests = r }) ≡ record (blocks_in old) { got = put (blocks_in old).got i (λ k. keeps (got k) ((blocks_in old).got i k) (among new k)) }
  unfolding blocks_in
  blocks_got cs gt u r i got new h = λ t. record (blocks_in old) { got = blocks_put (cell old.got None) (cell gt None) i got (first_at new) h t }

  pub client_turn_is : (cs : Vec CoreState Global) (gt : ℕ × List (List (Option (Arc B Global)))) (u : List (List Message)) (r : List (InTransit B)) (i : ℕ) (e : ClientEvent) (core : CoreState) (out : List ClientInstruction) (new : List (ℕ × Arc B Global))
      → clients_of g cs.items ≡ put clients_before i (client_step (clients_before i) e).facts
      → out ≡ (client_step (clients_before i) e).out
      → client_facts core ≡ (client_step (clients_before i) e).facts
      → cell gt None ≡ put (cell old.got None) i (λ k. keeps ((client_facts core).got k) (cell old.got None i k) (first_at new k))
      → waiting u ≡ put (waiting old.from_client) i (waiting old.from_client i ++ from_clients (client_sends out))
      → parcels r ≡ client_requested (Client i) (parcels old.requests) out
      → cluster_of f (record old { clients = cs; got = gt; from_client = u; requests = r }) ≡ client_turned (cluster_of f old) i e (among new)
  client_turn_is cs gt u r i e core out new a o n h c d = λ t. record { world = w t; blocks = x t }
    where
      s : ClientStep
      s = client_step (clients_before i) e

      w : world_of f (record old { clients = cs; got = gt; from_client = u; requests = r }) ≡ at_client (world_of f old) i e
      w = client_worked_is cs gt u r i s a
          (c ∙ ap (λ (l : List ClientInstruction). put (waiting old.from_client) i (waiting old.from_client i ++ from_clients (client_sends l))) o)
          (d ∙ ap (λ (l : List ClientInstruction). client_requested (Client i) (parcels old.requests) l) o)
          ∙ ap (λ (y : ClientFacts). client_worked (world_of f old) i (client_step y e)) (world_clients i)

      x : blocks_in (record old { clients = cs; got = gt; from_client = u; requests = r })
          ≡ record (blocks_in old) { got = put (blocks_in old).got i (λ k. keeps ((client_step ((world_of f old).clients i) e).facts.got k) ((blocks_in old).got i k) (among new k)) }
      x = blocks_got cs gt u r i (client_facts core).got new h
          ∙ ap (λ (y : ClientFacts). record (blocks_in old) { got = put (blocks_in old).got i (λ k. keeps (y.got k) ((blocks_in old).got i k) (among new k)) }) (n ∙ ap (λ (y : ClientFacts). (client_step y e).facts) (world_clients i))
