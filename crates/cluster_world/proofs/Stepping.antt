-- What one node does to a cluster is what the definition says of the event, wherever no block stands that isn't counted.
use Rattle.std.proofs.Common.{◌≡◌, ℕ, Bool, true, false, List, Option, Some, None, refl, sym, ap, ◌∙◌, cond}
use Rattle.std.specs.Prelude.{◌==◌}
use Rattle.std.specs.List.{filter_map}
use Rattle.std.proofs.lemmas.Bool.{eqb-true}
use Rattle.cluster_msgs.specs.Shape.{deps_of}
use Rattle.cluster_msgs.specs.declared.cores.WorkerEvent.{WorkerEvent}
use Rattle.cluster_msgs.specs.declared.cores.ClientEvent.{ClientEvent}
use Rattle.cluster_msgs.specs.declared.events.Asker.{Asker}
use Rattle.cluster_msgs.specs.declared.events.Asker.TheVariants.{Worker, Client}
use Rattle.cluster_msgs.specs.declared.events.Event.{Event}
use Rattle.cluster_rules.specs.Functions.{put}
use Rattle.cluster_rules.specs.WorkerStep.{worker_step}
use Rattle.cluster_rules.specs.Client.{client_step}
use Rattle.cluster_rules.specs.World.{World, shape_of}
use Rattle.cluster_rules.specs.WorldStep.{worked, client_worked, at_worker, at_client}
use Rattle.cluster_laws.specs.Blocks.{Blocks}
use Rattle.cluster_world.specs.Kept.{IsTidy}
use Rattle.cluster_laws.specs.Moves.{brought, keeps, starts, carried_after, blocks_after}

still : {A : Type 0} (m : Bool) (x : Option A) → (m ≡ false → x ≡ None) → keeps m x None ≡ x
still true None h = refl
still true (Some a) h = refl
still false x h = sym (h refl)

-- nothing is brought to anybody, nobody starts, and nothing under way moves
pub record IsQuiet {B : Type 0} (op : ℕ → List B → Option B) (w : World) (b : Blocks B) (e : Event) : Type 0 where
  pub brought : (a : Asker) (k : ℕ) → brought op b e a k ≡ None
  pub starts : (i k : ℕ) → starts w e i k ≡ false
  pub carried : carried_after w b e ≡ b.carried

module _ {B : Type 0} (op : ℕ → List B → Option B) (w : World) (b : Blocks B) (e : Event) (tidy : IsTidy w b) where
  -- the world before the node's own step has the same workers and clients: only links changed
  module _ (v : World) (workers : v.workers ≡ w.workers) (clients : v.clients ≡ w.clients) where
    pub got_still : (u : World) → u.clients ≡ w.clients → ((x k : ℕ) → brought op b e (Client x) k ≡ None) → (λ x k. keeps ((u.clients x).got k) (b.got x k) (brought op b e (Client x) k)) ≡ b.got
    got_still u s none = λ t x k. (ap (λ c. keeps ((c x).got k) (b.got x k) (brought op b e (Client x) k)) s ∙ ap (λ y. keeps ((w.clients x).got k) (b.got x k) y) (none x k) ∙ still ((w.clients x).got k) (b.got x k) (tidy.got x k)) t

    pub held_still : (u : World) → u.workers ≡ w.workers → ((x k : ℕ) → brought op b e (Worker x) k ≡ None) → (λ x k. keeps ((u.workers x).mem k) (b.held x k) (brought op b e (Worker x) k)) ≡ b.held
    held_still u s none = λ t x k. (ap (λ c. keeps ((c x).mem k) (b.held x k) (brought op b e (Worker x) k)) s ∙ ap (λ y. keeps ((w.workers x).mem k) (b.held x k) y) (none x k) ∙ still ((w.workers x).mem k) (b.held x k) (tidy.held x k)) t

    -- a worker's step
    pub held_worked : (i : ℕ) (d : WorkerEvent) (new : ℕ → Option B) → ((k : ℕ) → brought op b e (Worker i) k ≡ new k) → ((x k : ℕ) → (x == i) ≡ false → brought op b e (Worker x) k ≡ None)
        → (λ x k. keeps (((at_worker v i d).workers x).mem k) (b.held x k) (brought op b e (Worker x) k)) ≡ put b.held i (λ k. keeps ((worker_step (v.workers i) d).facts.mem k) (b.held i k) (new k))
    unfolding worked
    held_worked i d new own others = λ t x k. pick x k (x == i) refl t
      where
        pick : (x k : ℕ) (c : Bool) → (x == i) ≡ c → keeps ((cond c (worker_step (v.workers i) d).facts (v.workers x)).mem k) (b.held x k) (brought op b e (Worker x) k)
            ≡ cond {A = ℕ → Option B} c (λ q. keeps ((worker_step (v.workers i) d).facts.mem q) (b.held i q) (new q)) (b.held x) k
        pick x k true s = ap (λ z. keeps ((worker_step (v.workers i) d).facts.mem k) (b.held z k) (brought op b e (Worker z) k)) (eqb-true x i s) ∙ ap (λ y. keeps ((worker_step (v.workers i) d).facts.mem k) (b.held i k) y) (own k)
        pick x k false s = ap (λ c. keeps ((c x).mem k) (b.held x k) (brought op b e (Worker x) k)) workers ∙ ap (λ y. keeps ((w.workers x).mem k) (b.held x k) y) (others x k s) ∙ still ((w.workers x).mem k) (b.held x k) (tidy.held x k)

    pub worker_clients : (i : ℕ) (d : WorkerEvent) → (at_worker v i d).clients ≡ v.clients
    unfolding worked
    worker_clients i d = refl

    pub worker_blocks : (i : ℕ) (d : WorkerEvent) (new : ℕ → Option B) → ((k : ℕ) → brought op b e (Worker i) k ≡ new k) → ((x k : ℕ) → (x == i) ≡ false → brought op b e (Worker x) k ≡ None)
        → ((x k : ℕ) → brought op b e (Client x) k ≡ None) → ((x k : ℕ) → starts w e x k ≡ false) → carried_after w b e ≡ b.carried
        → record b { held = put b.held i (λ k. keeps ((worker_step (v.workers i) d).facts.mem k) (b.held i k) (new k)) } ≡ blocks_after op w (at_worker v i d) b e
    worker_blocks i d new own others none nobody c =
        let h = held_worked i d new own others in
        let g = got_still (at_worker v i d) (worker_clients i d ∙ clients) none in
        λ t. record {
          held = sym h t;
          inputs = λ x k. cond (sym (nobody x k) t) (filter_map (b.held x) (deps_of (shape_of w) k)) (b.inputs x k);
          carried = sym c t;
          got = sym g t;
        }

    -- a client's step
    pub got_worked : (i : ℕ) (d : ClientEvent) (new : ℕ → Option B) → ((k : ℕ) → brought op b e (Client i) k ≡ new k) → ((x k : ℕ) → (x == i) ≡ false → brought op b e (Client x) k ≡ None)
        → (λ x k. keeps (((at_client v i d).clients x).got k) (b.got x k) (brought op b e (Client x) k)) ≡ put b.got i (λ k. keeps ((client_step (v.clients i) d).facts.got k) (b.got i k) (new k))
    unfolding client_worked
    got_worked i d new own others = λ t x k. pick x k (x == i) refl t
      where
        pick : (x k : ℕ) (c : Bool) → (x == i) ≡ c → keeps ((cond c (client_step (v.clients i) d).facts (v.clients x)).got k) (b.got x k) (brought op b e (Client x) k)
            ≡ cond {A = ℕ → Option B} c (λ q. keeps ((client_step (v.clients i) d).facts.got q) (b.got i q) (new q)) (b.got x) k
        pick x k true s = ap (λ z. keeps ((client_step (v.clients i) d).facts.got k) (b.got z k) (brought op b e (Client z) k)) (eqb-true x i s) ∙ ap (λ y. keeps ((client_step (v.clients i) d).facts.got k) (b.got i k) y) (own k)
        pick x k false s = ap (λ c. keeps ((c x).got k) (b.got x k) (brought op b e (Client x) k)) clients ∙ ap (λ y. keeps ((w.clients x).got k) (b.got x k) y) (others x k s) ∙ still ((w.clients x).got k) (b.got x k) (tidy.got x k)

    pub client_workers : (i : ℕ) (d : ClientEvent) → (at_client v i d).workers ≡ v.workers
    unfolding client_worked
    client_workers i d = refl

    pub client_blocks : (i : ℕ) (d : ClientEvent) (new : ℕ → Option B) → ((k : ℕ) → brought op b e (Client i) k ≡ new k) → ((x k : ℕ) → (x == i) ≡ false → brought op b e (Client x) k ≡ None)
        → ((x k : ℕ) → brought op b e (Worker x) k ≡ None) → ((x k : ℕ) → starts w e x k ≡ false) → carried_after w b e ≡ b.carried
        → record b { got = put b.got i (λ k. keeps ((client_step (v.clients i) d).facts.got k) (b.got i k) (new k)) } ≡ blocks_after op w (at_client v i d) b e
    client_blocks i d new own others none nobody c =
        let g = got_worked i d new own others in
        let h = held_still (at_client v i d) (client_workers i d ∙ workers) none in
        λ t. record {
          held = sym h t;
          inputs = λ x k. cond (sym (nobody x k) t) (filter_map (b.held x) (deps_of (shape_of w) k)) (b.inputs x k);
          carried = sym c t;
          got = sym g t;
        }

    -- the scheduler's step, and other events that leave all blocks
    pub same_blocks : (u : World) → u.workers ≡ w.workers → u.clients ≡ w.clients → IsQuiet op w b e → b ≡ blocks_after op w u b e
    same_blocks u s r q =
        let h = held_still u s (λ x k. q.brought (Worker x) k) in
        let g = got_still u r (λ x k. q.brought (Client x) k) in
        λ t. record {
          held = sym h t;
          inputs = λ x k. cond (sym (q.starts x k) t) (filter_map (b.held x) (deps_of (shape_of w) k)) (b.inputs x k);
          carried = sym q.carried t;
          got = sym g t;
        }
