-- Requests that are served and answers that arrive, as steps of a cluster.
use Rattle.std.proofs.Common.{◌≡◌, ℕ, true, ◌&&◌, List, Option, Some, None, refl, sym, ap, ◌∙◌, cond, map}
use Rattle.std.specs.Prelude.{◌==◌}
use Rattle.std.specs.Option.{option_map}
use Rattle.std.proofs.lemmas.Bool.{eqb-true, and_parts, eq-eqb}
use Rattle.small_facts.proofs.Numbers.{eqb_turned}
use Rattle.small_facts.proofs.Options.{find_passes}
use Rattle.cluster_msgs.specs.declared.cores.WorkerEvent.TheVariants.{Gathered}
use Rattle.cluster_msgs.specs.declared.cores.ClientEvent.TheVariants.{Gathered as ClientGathered}
use Rattle.cluster_msgs.specs.declared.events.Asker.{Asker}
use Rattle.cluster_msgs.specs.declared.events.Asker.TheVariants.{Worker, Client}
use Rattle.cluster_msgs.specs.declared.events.Event.TheVariants.{ServeGather, ArriveGather}
use Rattle.cluster_rules.specs.World.{World, Parcel, same_asker, is_parcel, parcel_of, without_parcel}
use Rattle.cluster_rules.specs.WorldStep.{at_worker, at_client, gathered_at, serve, take_answer, world_step}
use Rattle.cluster_laws.specs.Blocks.{Delivery, Blocks, Cluster}
use Rattle.cluster_laws.specs.Moves.{block_among, delivery_of, delivered, without_delivery, served, taken, brought, starts, carried_after, blocks_after}
use Rattle.cluster_laws.proofs.Deliveries.{parcel_found}
use Rattle.cluster_nodes.specs.Turns.{served_by, answer_arrived}
use Rattle.cluster_world.specs.Outcomes.{stepped}
use Rattle.cluster_world.specs.Kept.{IsTidy}
use Rattle.cluster_world.proofs.Stepping.{held_still, got_still, held_worked, got_worked, worker_clients, client_workers}
use Rattle.safety_laws.proofs.Lively.{same_asker_is}

pub record IsOf (a : Asker) (p n : ℕ) (q : Parcel) : Type 0 where
  pub asker : q.asker ≡ a
  pub peer : q.peer ≡ p
  pub ask : q.ask ≡ n

pub is_of : (a : Asker) (p n : ℕ) (q : Parcel) → is_parcel a p n q ≡ true → IsOf a p n q
is_of a p n q e =
    let s = and_parts (same_asker q.asker a) (q.peer == p && q.ask == n) e in
    let r = and_parts (q.peer == p) (q.ask == n) s.1 in
    record { asker = same_asker_is q.asker a s.0; peer = eqb-true q.peer p r.0; ask = eqb-true q.ask n r.1 }

module _ {B : Type 0} (o : Option B) (c : Cluster B) (tidy : IsTidy c.world c.blocks) where
  abbrev op : ℕ → List B → Option B
  op k bs = o

  abbrev w : World
  w = c.world

  abbrev b : Blocks B
  b = c.blocks

  -- a request is served
  served_with : (a : Asker) (p n : ℕ) (s : Option Parcel) → ((q : Parcel) → s ≡ Some q → IsOf a p n q)
      → served_by c a p n s ≡ record { world = serve w p s; blocks = record b { carried = served w b p s } }
  served_with a p n None h = refl
  served_with a p n (Some q) h =
      let r : without_parcel a p n w.requests ≡ without_parcel q.asker q.peer q.ask w.requests
      = ap (λ x. without_parcel x p n w.requests) (sym (h q refl).asker) ∙ ap (λ x. without_parcel q.asker x n w.requests) (sym (h q refl).peer) ∙ ap (λ x. without_parcel q.asker q.peer x w.requests) (sym (h q refl).ask) in
      λ t. record { world = record (serve w p (Some q)) { requests = r t }; blocks = record b { carried = served w b p (Some q) } }

  serve_workers : (p : ℕ) (s : Option Parcel) → (serve w p s).workers ≡ w.workers
  serve_workers p None = refl
  serve_workers p (Some q) = refl

  serve_clients : (p : ℕ) (s : Option Parcel) → (serve w p s).clients ≡ w.clients
  serve_clients p None = refl
  serve_clients p (Some q) = refl

  -- the blocks at nodes stay
  pub serve_is : (p : ℕ) (a : Asker) (n : ℕ) → served_by c a p n (parcel_of a p n w.requests) ≡ stepped o c (ServeGather p a n)
  unfolding world_step brought starts carried_after
  serve_is p a n =
      let s = parcel_of a p n w.requests in
      let h = held_still op w b (ServeGather p a n) tidy w refl refl (serve w p s) (serve_workers p s) (λ x k. refl) in
      let g = got_still op w b (ServeGather p a n) tidy w refl refl (serve w p s) (serve_clients p s) (λ x k. refl) in
      served_with a p n s (λ q e. is_of a p n q (find_passes (is_parcel a p n) w.requests q e))
      ∙ (λ t. record { world = serve w p s; blocks = record { held = sym h t; inputs = b.inputs; carried = served w b p s; got = sym g t } })

  -- an answer arrives at the asker that asked
  abbrev gone : Asker → ℕ → ℕ → World
  gone a p n = record w { answers = without_parcel a p n w.answers }

  arrived_world : (a : Asker) (p n : ℕ) (d : Delivery B) → IsOf a p n d.parcel → gathered_at (gone a p n) a p n d.parcel.keys ≡ take_answer w (Some d.parcel)
  arrived_world a p n d h =
      let of = λ (x : Asker) (y z : ℕ). gathered_at (gone x y z) x y z d.parcel.keys in
      ap (λ x. of x p n) (sym h.asker) ∙ ap (λ x. of d.parcel.asker x n) (sym h.peer) ∙ ap (λ x. of d.parcel.asker d.parcel.peer x) (sym h.ask)

  arrived_carried : (a : Asker) (p n : ℕ) (d : Delivery B) → IsOf a p n d.parcel → without_delivery a p n b.carried ≡ taken (Some d) b.carried
  arrived_carried a p n d h =
      ap (λ x. without_delivery x p n b.carried) (sym h.asker) ∙ ap (λ x. without_delivery d.parcel.asker x n b.carried) (sym h.peer) ∙ ap (λ x. without_delivery d.parcel.asker d.parcel.peer x b.carried) (sym h.ask)

  -- what it brings, to whom
  module _ (a : Asker) (p n : ℕ) (d : Delivery B) (found : delivery_of a p n b.carried ≡ Some d) (of : IsOf a p n d.parcel) where
    comes : (x : Asker) (k : ℕ) → brought op b (ArriveGather a p n) x k ≡ cond (same_asker a x) (block_among d.parcel.keys d.blocks k) None
    unfolding brought
    comes x k = ap (λ (s : Option (Delivery B)). delivered s x k) found ∙ ap (λ z. cond (same_asker z x) (block_among d.parcel.keys d.blocks k) None) of.asker

  no_delivery : (a : Asker) (p n : ℕ) → delivery_of a p n b.carried ≡ None → (x : Asker) (k : ℕ) → brought op b (ArriveGather a p n) x k ≡ None
  unfolding brought
  no_delivery a p n e x k = ap (λ (s : Option (Delivery B)). delivered s x k) e

  -- the step, where this was found
  abbrev with_found : Asker → ℕ → ℕ → World → Delivery B → Cluster B
  with_found a p n u d = record { world = u; blocks = record (blocks_after op w u b (ArriveGather a p n)) { carried = taken (Some d) b.carried } }

  by_asker : (a : Asker) (p n : ℕ) (d : Delivery B) → delivery_of a p n b.carried ≡ Some d → IsOf a p n d.parcel → answer_arrived c a p n (Some d) ≡ with_found a p n (take_answer w (Some d.parcel)) d
  unfolding starts
  by_asker (Worker i) p n d e of =
      let E = ArriveGather (Worker i) p n in
      let v = gone (Worker i) p n in
      let new = λ (k : ℕ). block_among d.parcel.keys d.blocks k in
      let come = comes (Worker i) p n d e of in
      let h = held_worked op w b E tidy v refl refl i (Gathered p n d.parcel.keys) new
      (λ k. come (Worker i) k ∙ ap (λ z. cond z (block_among d.parcel.keys d.blocks k) None) (eq-eqb i i refl))
      (λ x k s. come (Worker x) k ∙ ap (λ z. cond z (block_among d.parcel.keys d.blocks k) None) (eqb_turned i x ∙ s)) in
      let g = got_still op w b E tidy v refl refl (at_worker v i (Gathered p n d.parcel.keys)) (worker_clients op w b E tidy v refl refl i (Gathered p n d.parcel.keys)) (λ x k. come (Client x) k) in
      let q = arrived_carried (Worker i) p n d of in
      (λ t. record { world = at_worker v i (Gathered p n d.parcel.keys); blocks = record { held = sym h t; inputs = b.inputs; carried = q t; got = sym g t } })
      ∙ ap (λ (u : World). with_found (Worker i) p n u d) (arrived_world (Worker i) p n d of)
  by_asker (Client x) p n d e of =
      let E = ArriveGather (Client x) p n in
      let v = gone (Client x) p n in
      let new = λ (k : ℕ). block_among d.parcel.keys d.blocks k in
      let come = comes (Client x) p n d e of in
      let g = got_worked op w b E tidy v refl refl x (ClientGathered p n d.parcel.keys) new
      (λ k. come (Client x) k ∙ ap (λ z. cond z (block_among d.parcel.keys d.blocks k) None) (eq-eqb x x refl))
      (λ y k s. come (Client y) k ∙ ap (λ z. cond z (block_among d.parcel.keys d.blocks k) None) (eqb_turned x y ∙ s)) in
      let h = held_still op w b E tidy v refl refl (at_client v x (ClientGathered p n d.parcel.keys)) (client_workers op w b E tidy v refl refl x (ClientGathered p n d.parcel.keys)) (λ y k. come (Worker y) k) in
      let q = arrived_carried (Client x) p n d of in
      (λ t. record { world = at_client v x (ClientGathered p n d.parcel.keys); blocks = record { held = sym h t; inputs = b.inputs; carried = q t; got = sym g t } })
      ∙ ap (λ (u : World). with_found (Client x) p n u d) (arrived_world (Client x) p n d of)

  pub arrive_is : (a : Asker) (p n : ℕ) → map (λ (d : Delivery B). d.parcel) b.carried ≡ w.answers → answer_arrived c a p n (delivery_of a p n b.carried) ≡ stepped o c (ArriveGather a p n)
  unfolding world_step starts carried_after
  arrive_is a p n same = by (delivery_of a p n b.carried) refl
    where
      parcel : parcel_of a p n w.answers ≡ option_map (λ (d : Delivery B). d.parcel) (delivery_of a p n b.carried)
      parcel = ap (parcel_of a p n) (sym same) ∙ parcel_found a p n b.carried

      -- the step, where what is found is given
      at : Option (Delivery B) → Cluster B
      at s = record { world = take_answer w (option_map (λ (d : Delivery B). d.parcel) s); blocks = record (blocks_after op w (take_answer w (option_map (λ (d : Delivery B). d.parcel) s)) b (ArriveGather a p n)) { carried = taken s b.carried } }

      at_is : at (delivery_of a p n b.carried) ≡ stepped o c (ArriveGather a p n)
      at_is = ap (λ (s : Option Parcel). let x : Cluster B = record { world = take_answer w s; blocks = blocks_after op w (take_answer w s) b (ArriveGather a p n) } in x) (sym parcel)

      none : delivery_of a p n b.carried ≡ None → c ≡ at None
      none e =
          let h = held_still op w b (ArriveGather a p n) tidy w refl refl w refl (λ x k. no_delivery a p n e (Worker x) k) in
          let g = got_still op w b (ArriveGather a p n) tidy w refl refl w refl (λ x k. no_delivery a p n e (Client x) k) in
          λ t. record { world = w; blocks = record { held = sym h t; inputs = b.inputs; carried = b.carried; got = sym g t } }

      arrived : (d : Delivery B) → delivery_of a p n b.carried ≡ Some d → answer_arrived c a p n (Some d) ≡ at (Some d)
      arrived d e = by_asker a p n d e (is_of a p n d.parcel (find_passes (λ (d : Delivery B). is_parcel a p n d.parcel) b.carried d e))

      by : (s : Option (Delivery B)) → delivery_of a p n b.carried ≡ s → answer_arrived c a p n (delivery_of a p n b.carried) ≡ stepped o c (ArriveGather a p n)
      by None e = ap (answer_arrived c a p n) e ∙ none e ∙ ap at (sym e) ∙ at_is
      by (Some d) e = ap (answer_arrived c a p n) e ∙ arrived d e ∙ ap at (sym e) ∙ at_is
