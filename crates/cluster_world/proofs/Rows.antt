-- Each row of the table of events: what its code makes of a cluster is one step of it.
use Rattle.std.proofs.Common.{◌≡◌, ℕ, ◌+◌, Bool, true, false, ◌&&◌, List, [], ◌∷◌, Option, Some, None, refl, sym, ap, ◌∙◌, cond, drop, is_none}
use Rattle.std.specs.Prelude.{◌==◌}
use Rattle.std.specs.List.{filter_map}
use Rattle.std.proofs.lemmas.Bool.{false≢true, eqb-true, eq-eqb}
use Rattle.small_facts.proofs.Numbers.{eqb_turned}
use Rattle.cluster_msgs.specs.Shape.{deps_of}
use Rattle.cluster_msgs.specs.declared.messages.Down.{Down}
use Rattle.cluster_msgs.specs.declared.messages.Up.{Up}
use Rattle.cluster_msgs.specs.declared.messages.ToClient.{ToClient}
use Rattle.cluster_msgs.specs.declared.messages.FromClient.{FromClient as ClientMessage}
use Rattle.cluster_msgs.specs.declared.cores.SchedEvent.TheVariants.{Join as JoinSched, Leave, FromClient, Balance as BalanceSched, Evict as EvictSched, Replicate as ReplicateSched}
use Rattle.cluster_msgs.specs.declared.cores.WorkerEvent.TheVariants.{Down as Told, Start as StartTask, Done, Ask as AskPeer, GatherFailed, DataLost}
use Rattle.cluster_msgs.specs.declared.cores.ClientEvent.TheVariants.{Want as WantKeys, Release as ReleaseKeys, FromScheduler, Ask as ClientAsk, GatherFailed as ClientGatherFailed}
use Rattle.cluster_msgs.specs.declared.events.Asker.TheVariants.{Worker, Client}
use Rattle.cluster_msgs.specs.declared.events.Event.TheVariants.{Want, Release, Join, Lose, SeeLoss, Suspect, DeliverDown, DeliverUp, DeliverToClient, DeliverFromClient, Start, Finish, SendGather, FailGather, Balance, Evict, Replicate, Spill, LoseSpilled}
use Rattle.cluster_rules.specs.Functions.{put}
use Rattle.cluster_rules.specs.Worker.{Ask, has_any, new_worker, would_start}
use Rattle.cluster_rules.specs.World.{World, shape_of, is_connected, open_ask}
use Rattle.cluster_rules.specs.WorldStep.{scheduled, at_scheduler, at_worker, at_client, new_at, died, cut_off, take_down_first, take_up, take_up_first, take_to_client, take_from_client, fail_ask, spill, world_step}
use Rattle.cluster_laws.specs.Blocks.{Blocks, Cluster}
use Rattle.cluster_laws.specs.Moves.{brought, meets_zero, keeps, is_it, starts, carried_after, blocks_after}
use Rattle.cluster_nodes.specs.Turns.{nothing, in_world, worker_turned, client_turned, down_delivered, client_told, lost}
use Rattle.cluster_world.specs.Outcomes.{stepped}
use Rattle.cluster_world.specs.Kept.{IsTidy}
use Rattle.cluster_world.proofs.Stepping.{worker_blocks, client_blocks, same_blocks}

module _ {B : Type 0} (o : Option B) (c : Cluster B) (tidy : IsTidy c.world c.blocks) where
  abbrev op : ℕ → List B → Option B
  op k bs = o

  abbrev w : World
  w = c.world

  abbrev b : Blocks B
  b = c.blocks

  -- the scheduler's own events
  pub suspect_is : (i : ℕ) → in_world c (at_scheduler w (Leave i)) ≡ stepped o c (Suspect i)
  unfolding world_step brought starts carried_after scheduled
  suspect_is i = λ t. record { world = at_scheduler w (Leave i); blocks = same_blocks op w b (Suspect i) tidy w refl refl (at_scheduler w (Leave i)) refl refl (record { brought = λ a k. refl; starts = λ x k. refl; carried = refl }) t }

  pub see_loss_is : (i : ℕ) → in_world c (cut_off (at_scheduler w (Leave i)) i) ≡ stepped o c (SeeLoss i)
  unfolding world_step brought starts carried_after scheduled
  see_loss_is i = λ t. record { world = cut_off (at_scheduler w (Leave i)) i; blocks = same_blocks op w b (SeeLoss i) tidy w refl refl (cut_off (at_scheduler w (Leave i)) i) refl refl (record { brought = λ a k. refl; starts = λ x k. refl; carried = refl }) t }

  pub balance_is : in_world c (at_scheduler w BalanceSched) ≡ stepped o c Balance
  unfolding world_step brought starts carried_after scheduled
  balance_is = λ t. record { world = at_scheduler w BalanceSched; blocks = same_blocks op w b Balance tidy w refl refl (at_scheduler w BalanceSched) refl refl (record { brought = λ a k. refl; starts = λ x k. refl; carried = refl }) t }

  pub evict_is : in_world c (at_scheduler w EvictSched) ≡ stepped o c Evict
  unfolding world_step brought starts carried_after scheduled
  evict_is = λ t. record { world = at_scheduler w EvictSched; blocks = same_blocks op w b Evict tidy w refl refl (at_scheduler w EvictSched) refl refl (record { brought = λ a k. refl; starts = λ x k. refl; carried = refl }) t }

  pub replicate_is : (k i : ℕ) → in_world c (at_scheduler w (ReplicateSched k i)) ≡ stepped o c (Replicate k i)
  unfolding world_step brought starts carried_after scheduled
  replicate_is k i = λ t. record { world = at_scheduler w (ReplicateSched k i); blocks = same_blocks op w b (Replicate k i) tidy w refl refl (at_scheduler w (ReplicateSched k i)) refl refl (record { brought = λ a q. refl; starts = λ x q. refl; carried = refl }) t }

  -- messages to the scheduler
  up_is : (i : ℕ) (us : List Up) → in_world c (take_up_first w i us) ≡ record { world = take_up_first w i us; blocks = blocks_after op w (take_up_first w i us) b (DeliverUp i) }
  unfolding brought starts carried_after scheduled
  up_is i [] = λ t. record { world = w; blocks = same_blocks op w b (DeliverUp i) tidy w refl refl w refl refl (record { brought = λ a k. refl; starts = λ x k. refl; carried = refl }) t }
  up_is i (m ∷ ms) = heard (is_connected w i)
    where
      heard : (d : Bool) → in_world c (take_up (record w { up = put w.up i ms }) i m d) ≡ record { world = take_up (record w { up = put w.up i ms }) i m d; blocks = blocks_after op w (take_up (record w { up = put w.up i ms }) i m d) b (DeliverUp i) }
      heard true = λ t. record { world = take_up (record w { up = put w.up i ms }) i m true; blocks = same_blocks op w b (DeliverUp i) tidy w refl refl (take_up (record w { up = put w.up i ms }) i m true) refl refl (record { brought = λ a k. refl; starts = λ x k. refl; carried = refl }) t }
      heard false = λ t. record { world = record w { up = put w.up i ms }; blocks = same_blocks op w b (DeliverUp i) tidy w refl refl (record w { up = put w.up i ms }) refl refl (record { brought = λ a k. refl; starts = λ x k. refl; carried = refl }) t }

  from_client_is : (x : ℕ) (ms : List ClientMessage) → in_world c (take_from_client w x ms) ≡ record { world = take_from_client w x ms; blocks = blocks_after op w (take_from_client w x ms) b (DeliverFromClient x) }
  unfolding brought starts carried_after scheduled
  from_client_is x [] = λ t. record { world = w; blocks = same_blocks op w b (DeliverFromClient x) tidy w refl refl w refl refl (record { brought = λ a k. refl; starts = λ i k. refl; carried = refl }) t }
  from_client_is x (m ∷ ms) = λ t. record { world = take_from_client w x (m ∷ ms); blocks = same_blocks op w b (DeliverFromClient x) tidy w refl refl (take_from_client w x (m ∷ ms)) refl refl (record { brought = λ a k. refl; starts = λ i k. refl; carried = refl }) t }

  pub up_step : (i : ℕ) → in_world c (take_up_first w i (w.up i)) ≡ stepped o c (DeliverUp i)
  unfolding world_step
  up_step i = up_is i (w.up i)

  pub from_client_step : (x : ℕ) → in_world c (take_from_client w x (w.from_client x)) ≡ stepped o c (DeliverFromClient x)
  unfolding world_step
  from_client_step x = from_client_is x (w.from_client x)

  -- the first message is known
  pub up_row : (i : ℕ) (m : Up) → w.up i ≡ m ∷ drop 1 (w.up i) → (d : Bool) → is_connected w i ≡ d
      → in_world c (take_up (record w { up = put w.up i (drop 1 (w.up i)) }) i m d) ≡ stepped o c (DeliverUp i)
  up_row i m e d h = sym (ap (λ l. in_world c (take_up_first w i l)) e ∙ ap (λ x. in_world c (take_up (record w { up = put w.up i (drop 1 (w.up i)) }) i m x)) h) ∙ up_step i

  -- one of a worker that isn't connected is dropped
  pub up_dropped : (i : ℕ) → is_connected w i ≡ false → has_any (w.up i) ≡ true → in_world c (record w { up = put w.up i (drop 1 (w.up i)) }) ≡ stepped o c (DeliverUp i)
  up_dropped i h a = by (w.up i) refl a
    where
      by : (l : List Up) → w.up i ≡ l → has_any l ≡ true → in_world c (record w { up = put w.up i (drop 1 (w.up i)) }) ≡ stepped o c (DeliverUp i)
      by [] e a = absurd (false≢true a)
      by (m ∷ ms) e a = up_row i m (e ∙ ap (λ l. m ∷ l) (sym (ap (drop 1) e))) false h

  pub from_client_row : (x : ℕ) (m : ClientMessage) → w.from_client x ≡ m ∷ drop 1 (w.from_client x)
      → in_world c (at_scheduler (record w { from_client = put w.from_client x (drop 1 (w.from_client x)) }) (FromClient x m)) ≡ stepped o c (DeliverFromClient x)
  from_client_row x m e = sym (ap (λ l. in_world c (take_from_client w x l)) e) ∙ from_client_step x

  -- messages to workers and clients
  down_is : (i : ℕ) (ds : List Down) → down_delivered c i ds ≡ record { world = take_down_first w i ds; blocks = blocks_after op w (take_down_first w i ds) b (DeliverDown i) }
  unfolding brought starts carried_after
  down_is i [] = λ t. record { world = w; blocks = same_blocks op w b (DeliverDown i) tidy w refl refl w refl refl (record { brought = λ a k. refl; starts = λ x k. refl; carried = refl }) t }
  down_is i (m ∷ ms) = λ t. record { world = take_down_first w i (m ∷ ms); blocks = worker_blocks op w b (DeliverDown i) tidy (record w { down = put w.down i ms }) refl refl i (Told m) nothing (λ k. refl) (λ x k e. refl) (λ x k. refl) (λ x k. refl) refl t }

  told_is : (x : ℕ) (ms : List ToClient) → client_told c x ms ≡ record { world = take_to_client w x ms; blocks = blocks_after op w (take_to_client w x ms) b (DeliverToClient x) }
  unfolding brought starts carried_after
  told_is x [] = λ t. record { world = w; blocks = same_blocks op w b (DeliverToClient x) tidy w refl refl w refl refl (record { brought = λ a k. refl; starts = λ i k. refl; carried = refl }) t }
  told_is x (m ∷ ms) = λ t. record { world = take_to_client w x (m ∷ ms); blocks = client_blocks op w b (DeliverToClient x) tidy (record w { to_client = put w.to_client x ms }) refl refl x (FromScheduler m) nothing (λ k. refl) (λ i k e. refl) (λ i k. refl) (λ i k. refl) refl t }

  pub down_step : (i : ℕ) → down_delivered c i (w.down i) ≡ stepped o c (DeliverDown i)
  unfolding world_step
  down_step i = down_is i (w.down i)

  pub told_step : (x : ℕ) → client_told c x (w.to_client x) ≡ stepped o c (DeliverToClient x)
  unfolding world_step
  told_step x = told_is x (w.to_client x)

  -- what a client does by itself
  pub want_is : (x : ℕ) (ks : List ℕ) → client_turned c x (WantKeys ks) nothing ≡ stepped o c (Want x ks)
  unfolding world_step brought starts carried_after
  want_is x ks = λ t. record { world = at_client w x (WantKeys ks); blocks = client_blocks op w b (Want x ks) tidy w refl refl x (WantKeys ks) nothing (λ k. refl) (λ i k e. refl) (λ i k. refl) (λ i k. refl) refl t }

  pub release_is : (x : ℕ) (ks : List ℕ) → client_turned c x (ReleaseKeys ks) nothing ≡ stepped o c (Release x ks)
  unfolding world_step brought starts carried_after
  release_is x ks = λ t. record { world = at_client w x (ReleaseKeys ks); blocks = client_blocks op w b (Release x ks) tidy w refl refl x (ReleaseKeys ks) nothing (λ k. refl) (λ i k e. refl) (λ i k. refl) (λ i k. refl) refl t }

  pub client_asks_is : (x p : ℕ) → client_turned c x (ClientAsk p) nothing ≡ stepped o c (SendGather (Client x) p)
  unfolding world_step brought starts carried_after
  client_asks_is x p = λ t. record { world = at_client w x (ClientAsk p); blocks = client_blocks op w b (SendGather (Client x) p) tidy w refl refl x (ClientAsk p) nothing (λ k. refl) (λ i k e. refl) (λ i k. refl) (λ i k. refl) refl t }

  -- what a worker does by itself
  pub worker_asks_is : (i p : ℕ) → worker_turned c i (AskPeer p) nothing ≡ stepped o c (SendGather (Worker i) p)
  unfolding world_step brought starts carried_after
  worker_asks_is i p = λ t. record { world = at_worker w i (AskPeer p); blocks = worker_blocks op w b (SendGather (Worker i) p) tidy w refl refl i (AskPeer p) nothing (λ k. refl) (λ x k e. refl) (λ x k. refl) (λ x k. refl) refl t }

  pub lose_spilled_is : (i k : ℕ) → worker_turned c i (DataLost k) nothing ≡ stepped o c (LoseSpilled i k)
  unfolding world_step brought starts carried_after
  lose_spilled_is i k = λ t. record { world = at_worker w i (DataLost k); blocks = worker_blocks op w b (LoseSpilled i k) tidy w refl refl i (DataLost k) nothing (λ q. refl) (λ x q e. refl) (λ x q. refl) (λ x q. refl) refl t }

  pub spill_is : (i k : ℕ) → in_world c (spill w i k) ≡ stepped o c (Spill i k)
  unfolding world_step brought starts carried_after
  spill_is i k = λ t. record { world = spill w i k; blocks = same_blocks op w b (Spill i k) tidy w refl refl (spill w i k) refl refl (record { brought = λ a q. refl; starts = λ x q. refl; carried = refl }) t }

  -- an ask that fails, by the number that it has
  pub worker_fails_is : (i p : ℕ) (a : Ask) → open_ask w (Worker i) p ≡ Some a → worker_turned c i (GatherFailed p a.number) nothing ≡ stepped o c (FailGather (Worker i) p)
  unfolding world_step brought starts carried_after
  worker_fails_is i p a e =
      (λ t. record { world = at_worker w i (GatherFailed p a.number); blocks = worker_blocks op w b (FailGather (Worker i) p) tidy w refl refl i (GatherFailed p a.number) nothing (λ k. refl) (λ x k h. refl) (λ x k. refl) (λ x k. refl) refl t })
      ∙ ap (λ (s : Option Ask). let x : Cluster B = record { world = fail_ask w (Worker i) p s; blocks = blocks_after op w (fail_ask w (Worker i) p s) b (FailGather (Worker i) p) } in x) (sym e)

  pub client_fails_is : (x p : ℕ) (a : Ask) → open_ask w (Client x) p ≡ Some a → client_turned c x (ClientGatherFailed p a.number) nothing ≡ stepped o c (FailGather (Client x) p)
  unfolding world_step brought starts carried_after
  client_fails_is x p a e =
      (λ t. record { world = at_client w x (ClientGatherFailed p a.number); blocks = client_blocks op w b (FailGather (Client x) p) tidy w refl refl x (ClientGatherFailed p a.number) nothing (λ k. refl) (λ i k h. refl) (λ i k. refl) (λ i k. refl) refl t })
      ∙ ap (λ (s : Option Ask). let y : Cluster B = record { world = fail_ask w (Client x) p s; blocks = blocks_after op w (fail_ask w (Client x) p s) b (FailGather (Client x) p) } in y) (sym e)

  -- a task that starts takes the blocks of its dependencies
  put_inputs : (i k : ℕ) → would_start (w.workers i) ≡ Some k
      → ◌≡◌ {A = ℕ → ℕ → List B} (λ x q. cond (x == i && q == k) (filter_map (b.held i) (deps_of (shape_of w) k)) (b.inputs x q)) (λ x q. cond (starts w (Start i) x q) (filter_map (b.held x) (deps_of (shape_of w) q)) (b.inputs x q))
  unfolding starts
  put_inputs i k e = λ t x q. at_place x q t
    where
      pick : (x q : ℕ) (d : Bool) → (x == i) ≡ d → (f : Bool) → (q == k) ≡ f → cond (d && f) (filter_map (b.held i) (deps_of (shape_of w) k)) (b.inputs x q) ≡ cond (d && f) (filter_map (b.held x) (deps_of (shape_of w) q)) (b.inputs x q)
      pick x q true s true r = ap (λ z. filter_map (b.held z) (deps_of (shape_of w) k)) (sym (eqb-true x i s)) ∙ ap (λ z. filter_map (b.held x) (deps_of (shape_of w) z)) (sym (eqb-true q k r))
      pick x q true s false r = refl
      pick x q false s f r = refl

      at_place : (x q : ℕ) → cond (x == i && q == k) (filter_map (b.held i) (deps_of (shape_of w) k)) (b.inputs x q) ≡ cond (i == x && is_it (would_start (w.workers i)) q) (filter_map (b.held x) (deps_of (shape_of w) q)) (b.inputs x q)
      at_place x q = pick x q (x == i) refl (q == k) refl
          ∙ ap (λ d. cond (d && q == k) (filter_map (b.held x) (deps_of (shape_of w) q)) (b.inputs x q)) (eqb_turned x i)
          ∙ ap (λ d. cond (i == x && d) (filter_map (b.held x) (deps_of (shape_of w) q)) (b.inputs x q)) (eqb_turned q k ∙ sym (ap (λ s. is_it s q) e))

  nobody_starts : (i x q : ℕ) → starts w (Suspect i) x q ≡ false
  unfolding starts
  nobody_starts i x q = refl

  pub start_is : (i k : ℕ) → would_start (w.workers i) ≡ Some k
      → record { world = at_worker w i StartTask; blocks = record (worker_turned c i StartTask nothing).blocks { inputs = λ x q. cond (x == i && q == k) (filter_map (b.held i) (deps_of (shape_of w) k)) (b.inputs x q) } } ≡ stepped o c (Start i)
  unfolding world_step brought carried_after
  start_is i k e =
      let h = worker_blocks op w b (Suspect i) tidy w refl refl i StartTask nothing (λ q. refl) (λ x q s. refl) (λ x q. refl) (nobody_starts i) refl in
      let n = put_inputs i k e in
      λ t. record { world = at_worker w i StartTask; blocks = record { held = (h t).held; inputs = n t; carried = (h t).carried; got = (h t).got } }

  -- a task that finishes brings its block, if it made one
  pub finish_is : (i k : ℕ) (new : ℕ → Option B) → ((q : ℕ) → new q ≡ cond (k == q) o None) → worker_turned c i (Done k (is_none o)) new ≡ stepped o c (Finish i k)
  unfolding world_step brought starts carried_after meets_zero
  finish_is i k new e = λ t. record {
    world = at_worker w i (Done k (is_none o));
    blocks = worker_blocks op w b (Finish i k) tidy w refl refl i (Done k (is_none o)) new
        (λ q. ap (λ d. cond (d && k == q) o None) (eq-eqb i i refl) ∙ sym (e q)) (λ x q s. ap (λ d. cond (d && k == q) o None) (eqb_turned i x ∙ s)) (λ x q. refl) (λ x q. refl) refl t;
  }

  -- a worker that dies, and one that joins
  pub lose_is : (i : ℕ) → lost c i ≡ stepped o c (Lose i)
  unfolding world_step brought starts carried_after
  lose_is i = λ t. record { world = died w i; blocks = record { held = held t; inputs = b.inputs; carried = b.carried; got = got t } }
    where
      kept : (m : Bool) (x : Option B) → (m ≡ false → x ≡ None) → x ≡ keeps m x None
      kept true None h = refl
      kept true (Some a) h = refl
      kept false x h = h refl

      pick : (x k : ℕ) (d : Bool) → cond {A = ℕ → Option B} d nothing (b.held x) k ≡ keeps ((cond d (record (w.workers i) { mem = λ q. false }) (w.workers x)).mem k) (b.held x k) None
      pick x k true = refl
      pick x k false = kept ((w.workers x).mem k) (b.held x k) (tidy.held x k)

      held : put b.held i nothing ≡ (λ x k. keeps (((died w i).workers x).mem k) (b.held x k) None)
      held = λ t x k. pick x k (x == i) t

      got : b.got ≡ (λ x k. keeps ((w.clients x).got k) (b.got x k) None)
      got = λ t x k. kept ((w.clients x).got k) (b.got x k) (tidy.got x k) t

  pub join_is : (threads : ℕ) → ((k : ℕ) → (w.workers (w.sched.last_worker + 1)).mem k ≡ false)
      → in_world c (at_scheduler (new_at w (w.sched.last_worker + 1) threads) (JoinSched threads)) ≡ stepped o c (Join threads)
  unfolding world_step brought starts carried_after scheduled
  join_is threads bare = λ t. record { world = at_scheduler (new_at w n threads) (JoinSched threads); blocks = record { held = held t; inputs = b.inputs; carried = b.carried; got = got t } }
    where
      n : ℕ
      n = w.sched.last_worker + 1

      kept : (m : Bool) (x : Option B) → (m ≡ false → x ≡ None) → x ≡ keeps m x None
      kept true None h = refl
      kept true (Some a) h = refl
      kept false x h = h refl

      pick : (x k : ℕ) (d : Bool) → (x == n) ≡ d → b.held x k ≡ keeps ((cond d (new_worker (shape_of w) n threads) (w.workers x)).mem k) (b.held x k) None
      pick x k true e = tidy.held x k (ap (λ z. (w.workers z).mem k) (eqb-true x n e) ∙ bare k)
      pick x k false e = kept ((w.workers x).mem k) (b.held x k) (tidy.held x k)

      held : b.held ≡ (λ x k. keeps ((put w.workers n (new_worker (shape_of w) n threads) x).mem k) (b.held x k) None)
      held = λ t x k. pick x k (x == n) refl t

      got : b.got ≡ (λ x k. keeps ((w.clients x).got k) (b.got x k) None)
      got = λ t x k. kept ((w.clients x).got k) (b.got x k) (tidy.got x k) t
