-- Requests and answers under way, as the world and the blocks have them.
use Rattle.std.proofs.Common.{◌≡◌, ℕ, Bool, true, false, not, List, [], ◌∷◌, Option, Some, None, refl, sym, ap, ◌∙◌, subst, cond, filter, map}
use Rattle.std.specs.Prelude.{◌==◌}
use Rattle.std.specs.List.{filter_map, zip}
use Rattle.std.specs.Option.{option_map}
use Rattle.std.specs.declared.sync.Arc.{Arc}
use Rattle.std.specs.declared.alloc.Global.{Global}
use Rattle.std.proofs.lemmas.Option.{none-some}
use Rattle.small_facts.proofs.Every.{all_of_filter}
use Rattle.cluster_msgs.specs.Jobs.{blocks_of}
use Rattle.cluster_msgs.specs.declared.events.Asker.{Asker}
use Rattle.cluster_msgs.specs.declared.events.Asker.TheVariants.{Worker, Client}
use Rattle.cluster_rules.specs.Sched.{Facts}
use Rattle.cluster_rules.specs.World.{Parcel, parcel_before, is_parcel, with_parcel, parcel_of, without_parcel}
use Rattle.message_queues.specs.Transit.{parcel_of_transit, parcels, is_transit, with_transit, transit_of, without_transit, IsRequest, IsAnswer, AreRequests, AreAnswers}
use Rattle.message_queues.specs.declared.transit.InTransit.{InTransit}
use Rattle.cluster_laws.specs.Blocks.{Delivery}
use Rattle.cluster_laws.specs.Moves.{block_among, delivery_of, with_delivery, without_delivery}
use Rattle.cluster_nodes.specs.declared.nodes.Nodes.{Nodes}
use Rattle.cluster_nodes.specs.Nodes.{block_at, delivery_at, world_of, blocks_in, cluster_of}
use Rattle.cluster_nodes.specs.Turns.{IsRefusedBy, first_at, among, served_by, answer_gone, gathered_turned, answer_arrived}
use Rattle.message_queues.proofs.QueueLemmas.{parcels-with, all_with}
use Rattle.fact_rows.specs.Rows.{cell}
use Rattle.message_queues.specs.Transit.{named_by}
use Rattle.cluster_laws.specs.Blocks.{Cluster}

abbrev pub deliveries : {B : Type 0} → List (InTransit B) → List (Delivery B)
deliveries ts = map (λ t. delivery_at t) ts

module _ {B : Type 0} (a : Asker) (p n : ℕ) where
  pub parcels_without : (ts : List (InTransit B)) → parcels (without_transit a p n ts) ≡ without_parcel a p n (parcels ts)
  parcels_without [] = refl
  parcels_without (t ∷ ts) = pick (not (is_parcel a p n (parcel_of_transit t))) (parcels_without ts)
    where
      pick : (b : Bool) → parcels (without_transit a p n ts) ≡ without_parcel a p n (parcels ts) → parcels (cond b (t ∷ without_transit a p n ts) (without_transit a p n ts)) ≡ cond b (parcel_of_transit t ∷ without_parcel a p n (parcels ts)) (without_parcel a p n (parcels ts))
      pick true r = ap (λ l. parcel_of_transit t ∷ l) r
      pick false r = r

  pub deliveries_without : (ts : List (InTransit B)) → deliveries (without_transit a p n ts) ≡ without_delivery a p n (deliveries ts)
  deliveries_without [] = refl
  deliveries_without (t ∷ ts) = pick (not (is_parcel a p n (parcel_of_transit t))) (deliveries_without ts)
    where
      pick : (b : Bool) → deliveries (without_transit a p n ts) ≡ without_delivery a p n (deliveries ts) → deliveries (cond b (t ∷ without_transit a p n ts) (without_transit a p n ts)) ≡ cond b (delivery_at t ∷ without_delivery a p n (deliveries ts)) (without_delivery a p n (deliveries ts))
      pick true r = ap (λ l. delivery_at t ∷ l) r
      pick false r = r

  pub parcel_found : (ts : List (InTransit B)) → parcel_of a p n (parcels ts) ≡ option_map (λ (t : InTransit B). parcel_of_transit t) (transit_of a p n ts)
  parcel_found [] = refl
  parcel_found (t ∷ ts) = pick (is_parcel a p n (parcel_of_transit t)) (parcel_found ts)
    where
      pick : (b : Bool) → parcel_of a p n (parcels ts) ≡ option_map (λ (t : InTransit B). parcel_of_transit t) (transit_of a p n ts) → cond b (Some (parcel_of_transit t)) (parcel_of a p n (parcels ts)) ≡ option_map (λ (t : InTransit B). parcel_of_transit t) (cond b (Some t) (transit_of a p n ts))
      pick true r = refl
      pick false r = r

  pub delivery_found : (ts : List (InTransit B)) → delivery_of a p n (deliveries ts) ≡ option_map (λ (t : InTransit B). delivery_at t) (transit_of a p n ts)
  delivery_found [] = refl
  delivery_found (t ∷ ts) = pick (is_parcel a p n (parcel_of_transit t)) (delivery_found ts)
    where
      pick : (b : Bool) → delivery_of a p n (deliveries ts) ≡ option_map (λ (t : InTransit B). delivery_at t) (transit_of a p n ts) → cond b (Some (delivery_at t)) (delivery_of a p n (deliveries ts)) ≡ option_map (λ (t : InTransit B). delivery_at t) (cond b (Some t) (transit_of a p n ts))
      pick true r = refl
      pick false r = r

pub deliveries_with : {B : Type 0} (t : InTransit B) (ts : List (InTransit B)) → deliveries (with_transit t ts) ≡ with_delivery (delivery_at t) (deliveries ts)
deliveries_with t [] = refl
deliveries_with t (x ∷ ts) = pick (parcel_before (parcel_of_transit t) (parcel_of_transit x)) (deliveries_with t ts)
  where
    pick : (b : Bool) → deliveries (with_transit t ts) ≡ with_delivery (delivery_at t) (deliveries ts)
        → deliveries (cond b (t ∷ x ∷ ts) (x ∷ with_transit t ts)) ≡ cond b (delivery_at t ∷ delivery_at x ∷ deliveries ts) (delivery_at x ∷ with_delivery (delivery_at t) (deliveries ts))
    pick true r = refl
    pick false r = ap (λ l. delivery_at x ∷ l) r

-- keys with their blocks
pub among_zip : {B : Type 0} (ks : List ℕ) (bs : List (Arc B Global)) (k : ℕ) → among (zip ks bs) k ≡ block_among ks (blocks_of bs) k
among_zip [] bs k = refl
among_zip (q ∷ ks) [] k = refl
among_zip (q ∷ ks) (b ∷ bs) k = pick (q == k) (among_zip ks bs k)
  where
    pick : (c : Bool) → among (zip ks bs) k ≡ block_among ks (blocks_of bs) k → block_at (cond c (Some b) (first_at (zip ks bs) k)) ≡ cond c (block_at (Some b)) (block_among ks (blocks_of bs) k)
    pick true r = refl
    pick false r = r

-- what isn't there isn't taken
pub none_gone : {B : Type 0} (a : Asker) (p n : ℕ) (ts : List (InTransit B)) → None ≡ transit_of a p n ts → without_transit a p n ts ≡ ts
none_gone a p n [] e = refl
none_gone a p n (t ∷ ts) e = pick (is_transit a p n t) e (λ h. none_gone a p n ts h)
  where
    pick : (b : Bool) → None ≡ cond b (Some t) (transit_of a p n ts) → (None ≡ transit_of a p n ts → without_transit a p n ts ≡ ts) → cond (not b) (t ∷ without_transit a p n ts) (without_transit a p n ts) ≡ t ∷ ts
    pick true h r = absurd (none-some t h)
    pick false h r = ap (λ l. t ∷ l) (r h)

module _ {B : Type 0} (f : Facts) (old : Nodes B) (a : Asker) (p n : ℕ) where
  pub none_served : (r : List (InTransit B)) → None ≡ transit_of a p n old.requests → r ≡ without_transit a p n old.requests
      → cluster_of f (record old { requests = r }) ≡ served_by (cluster_of f old) a p n (parcel_of a p n (world_of f old).requests)
  unfolding world_of blocks_in
  none_served r e s =
      let same : r ≡ old.requests = s ∙ none_gone a p n old.requests e in
      let none : parcel_of a p n (parcels old.requests) ≡ None = parcel_found a p n old.requests ∙ ap (option_map (λ (t : InTransit B). parcel_of_transit t)) (sym e) in
      ap (λ (x : List (InTransit B)). cluster_of f (record old { requests = x })) same ∙ ap (served_by (cluster_of f old) a p n) (sym none)

  pub served_is : (r x : List (InTransit B)) (t answer : InTransit B) (found : List ℕ) (bs : List (Arc B Global))
      → Some t ≡ transit_of a p n old.requests → r ≡ without_transit a p n old.requests
      → found ≡ filter ((world_of f old).workers p).mem (named_by t.message)
      → blocks_of bs ≡ filter_map (λ k. block_at (cell old.held None p k)) found
      → parcel_of_transit answer ≡ record { asker = t.asker; peer = t.peer; ask = t.ask; keys = found } → answer.blocks ≡ bs
      → x ≡ with_transit answer old.answers
      → cluster_of f (record old { requests = r; answers = x }) ≡ served_by (cluster_of f old) a p n (parcel_of a p n (world_of f old).requests)
  unfolding world_of blocks_in
  served_is r x t answer found bs e s fe be pe ae xe = (λ i. record { world = record (world_of f old) { requests = requests i; answers = answers i }; blocks = record (blocks_in old) { carried = carried i } })
      ∙ ap (served_by (cluster_of f old) a p n) (sym some)
    where
      F : List ℕ
      F = filter ((world_of f old).workers p).mem (named_by t.message)

      q : Parcel
      q = record { asker = t.asker; peer = t.peer; ask = t.ask; keys = F }

      some : parcel_of a p n (parcels old.requests) ≡ Some (parcel_of_transit t)
      some = parcel_found a p n old.requests ∙ ap (option_map (λ (y : InTransit B). parcel_of_transit y)) (sym e)

      parcel : parcel_of_transit answer ≡ q
      parcel = pe ∙ ap (λ (l : List ℕ). let y : Parcel = record { asker = t.asker; peer = t.peer; ask = t.ask; keys = l } in y) fe

      requests : parcels r ≡ without_parcel a p n (parcels old.requests)
      requests = ap parcels s ∙ parcels_without a p n old.requests

      answers : parcels x ≡ with_parcel q (parcels old.answers)
      answers = ap parcels xe ∙ parcels-with answer old.answers ∙ ap (λ (y : Parcel). with_parcel y (parcels old.answers)) parcel

      blocks : blocks_of answer.blocks ≡ filter_map (λ k. block_at (cell old.held None p k)) F
      blocks = ap blocks_of ae ∙ be ∙ ap (filter_map (λ k. block_at (cell old.held None p k))) fe

      delivery : delivery_at answer ≡ record { parcel = q; blocks = filter_map (λ k. block_at (cell old.held None p k)) F }
      delivery = λ i. record { parcel = parcel i; blocks = blocks i }

      carried : deliveries x ≡ with_delivery (record { parcel = q; blocks = filter_map (λ k. block_at (cell old.held None p k)) F }) (deliveries old.answers)
      carried = ap deliveries xe ∙ deliveries_with answer old.answers ∙ ap (λ (y : Delivery B). with_delivery y (deliveries old.answers)) delivery

  pub none_arrived : (x : List (InTransit B)) → None ≡ transit_of a p n old.answers → x ≡ without_transit a p n old.answers
      → cluster_of f (record old { answers = x }) ≡ answer_arrived (cluster_of f old) a p n (delivery_of a p n (blocks_in old).carried)
  unfolding world_of blocks_in
  none_arrived x e s =
      let same : x ≡ old.answers = s ∙ none_gone a p n old.answers e in
      let none : delivery_of a p n (deliveries old.answers) ≡ None = delivery_found a p n old.answers ∙ ap (option_map (λ (t : InTransit B). delivery_at t)) (sym e) in
      ap (λ (y : List (InTransit B)). cluster_of f (record old { answers = y })) same ∙ ap (answer_arrived (cluster_of f old) a p n) (sym none)

  gone_is : (x : List (InTransit B)) → x ≡ without_transit a p n old.answers → cluster_of f (record old { answers = x }) ≡ answer_gone (cluster_of f old) a p n
  unfolding world_of blocks_in
  gone_is x s =
      let w : parcels x ≡ without_parcel a p n (parcels old.answers) = ap parcels s ∙ parcels_without a p n old.answers in
      let b : deliveries x ≡ without_delivery a p n (deliveries old.answers) = ap deliveries s ∙ deliveries_without a p n old.answers in
      λ i. record { world = record (world_of f old) { answers = w i }; blocks = record (blocks_in old) { carried = b i } }

  pub arrived_is : (x : List (InTransit B)) (t : InTransit B) (new : List (ℕ × Arc B Global)) (after : Cluster B)
      → Some t ≡ transit_of a p n old.answers → x ≡ without_transit a p n old.answers
      → ((k : ℕ) → among new k ≡ block_among (named_by t.message) (blocks_of t.blocks) k)
      → after ≡ gathered_turned (cluster_of f (record old { answers = x })) a p n (named_by t.message) (among new)
      → after ≡ answer_arrived (cluster_of f old) a p n (delivery_of a p n (blocks_in old).carried)
  unfolding blocks_in
  arrived_is x t new after e s m h =
      let some : delivery_of a p n (deliveries old.answers) ≡ Some (delivery_at t) = delivery_found a p n old.answers ∙ ap (option_map (λ (y : InTransit B). delivery_at y)) (sym e) in
      let came : among new ≡ block_among (named_by t.message) (blocks_of t.blocks) = λ i k. m k i in
      h ∙ ap (λ (c : Cluster B). gathered_turned c a p n (named_by t.message) (among new)) (gone_is x s)
      ∙ ap (λ (g : ℕ → Option B). gathered_turned (answer_gone (cluster_of f old) a p n) a p n (named_by t.message) g) came
      ∙ ap (answer_arrived (cluster_of f old) a p n) (sym some)

-- whether the asker takes what was found has nothing to do with what is under way
pub refused_before : {B : Type 0} (f : Facts) (old : Nodes B) (x : List (InTransit B)) (a : Asker) (p n : ℕ) (found : List ℕ) → IsRefusedBy (world_of f (record old { answers = x })) a p n found → IsRefusedBy (world_of f old) a p n found
unfolding world_of
refused_before f old x (Worker i) p n found h = h
refused_before f old x (Client c) p n found h = h

-- what is left of what is under way, and one more answer, are of their kinds
pub requests_left : {B : Type 0} (a : Asker) (p n : ℕ) (old new : List (InTransit B)) → new ≡ without_transit a p n old → AreRequests old → AreRequests new
requests_left {B = B} a p n old new e h = subst (λ (ts : List (InTransit B)). AreRequests ts) (sym e) (all_of_filter (λ (t : InTransit B). IsRequest t) (λ t. not (is_transit a p n t)) old h)

pub answers_left : {B : Type 0} (a : Asker) (p n : ℕ) (old new : List (InTransit B)) → new ≡ without_transit a p n old → AreAnswers old → AreAnswers new
answers_left {B = B} a p n old new e h = subst (λ (ts : List (InTransit B)). AreAnswers ts) (sym e) (all_of_filter (λ (t : InTransit B). IsAnswer t) (λ t. not (is_transit a p n t)) old h)

pub answers_more : {B : Type 0} (t : InTransit B) (old new : List (InTransit B)) → new ≡ with_transit t old → IsAnswer t → AreAnswers old → AreAnswers new
answers_more {B = B} t old new e k h = subst (λ (ts : List (InTransit B)). AreAnswers ts) (sym e) (all_with (λ (t : InTransit B). IsAnswer t) t old k h)
