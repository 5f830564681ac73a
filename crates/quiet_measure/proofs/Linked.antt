-- The sum over the links, and the disturbances, by how much is under way and how many workers there are.
use Rattle.std.proofs.Common.{◌≡◌, ℕ, ◌+◌, ◌*◌, ◌≤◌, Bool, true, false, cond, not, ◌||◌, List, [], ◌∷◌, length, Some, refl, sym, ap, subst, arith, filter, mul-le-mul, le_refl}
use Rattle.std.specs.Prelude.{nat_le}
use Rattle.std.proofs.Math.Dec.{eqb}
use Rattle.quiet_measure.proofs.KeyByKey.{total_sum}
use Rattle.std.specs.List.{AllByRecursion}
use Rattle.cluster_msgs.specs.Shape.{key_count}
use Rattle.cluster_msgs.specs.declared.messages.Up.{Up}
use Rattle.cluster_msgs.specs.declared.messages.Up.TheVariants.{TaskFinished, TaskErred, AddKeys, ReleaseWorkerData, MissingData, RequestRefreshWhoHas, StealResponse}
use Rattle.cluster_msgs.specs.declared.messages.FromClient.{FromClient as ClientMessage}
use Rattle.cluster_msgs.specs.declared.messages.FromClient.TheVariants.{Want, Release, Missing}
use Rattle.cluster_msgs.specs.declared.events.Asker.{Asker}
use Rattle.cluster_msgs.specs.declared.events.Asker.TheVariants.{Worker, Client}
use Rattle.cluster_rules.specs.Functions.{total, count}
use Rattle.cluster_rules.specs.Derived.{below}
use Rattle.cluster_rules.specs.Sched.{keys, holds}
use Rattle.cluster_rules.specs.Worker.{Ask, ask_to, pairs}
use Rattle.cluster_rules.specs.Client.{client_pairs}
use Rattle.cluster_rules.specs.World.{World, Parcel, all_workers, all_clients, is_connected, messages, under_way, worker_count, open_ask}
use Rattle.cluster_rules.proofs.TotalLemmas.{total-bound}
use Rattle.quiet_measure.specs.Weights.{bit, sum_of, core_weight, client_core_weight, down_weight, up_weight, news_weight, letter_weight}
use Rattle.quiet_measure.specs.Measure.{is_wrongful, is_missed, missed_in, up_disturbs, letter_disturbs, death_disturbs, worker_disturbs, client_disturbs, answer_disturbs, disturbances, site_weight, worker_weight, client_site_weight, client_weight, links_weight}
use Rattle.quiet_measure.proofs.Sums.{total_at_most}
use Rattle.quiet_measure.proofs.Fewer.{total_filter}
use Rattle.quiet_measure.specs.Bounded.{up_length, world_keys, IsBounded}
use Rattle.quiet_measure.proofs.Counted.{asks_all}
use Rattle.quiet_measure.proofs.Weighed.{bit_most, sum_bound, sum_bound_where, total_times, length_keys, down_most, up_most, news_most, letter_most, core_most, client_core_most}

total_four : (x y z u : ℕ → ℕ) (m l a t : ℕ) (xs : List ℕ) → total (λ i. (x i * m + y i * l) + (z i * a + u i * t)) xs ≡ (total x xs * m + total y xs * l) + (total z xs * a + total u xs * t)
total_four x y z u m l a t [] = omega arith
total_four x y z u m l a t (i ∷ xs) = let r : total (λ i. (x i * m + y i * l) + (z i * a + u i * t)) xs ≡ (total x xs * m + total y xs * l) + (total z xs * a + total u xs * t) = total_four x y z u m l a t xs in omega arith

module _ (w : World) (h : IsBounded w) where
  abbrev n : ℕ
  n = world_keys w

  abbrev messages_at : ℕ → ℕ
  messages_at i = length (w.down i) + length (w.up i)

  abbrev pairs_at : ℕ → ℕ
  pairs_at i = cond (w.alive i) (pairs (w.workers i)) 0

  abbrev asks_at : ℕ → ℕ
  asks_at i = cond (w.alive i) (length (w.workers i).asks) 0

  abbrev there_at : ℕ → ℕ
  there_at i = cond (w.alive i || is_connected w i) 1 0

  abbrev letters_at : ℕ → ℕ
  letters_at c = length (w.to_client c) + length (w.from_client c)

  pairs_all : total (λ i. pairs (w.workers i)) (filter w.alive (all_workers w)) ≡ total pairs_at (all_workers w)
  pairs_all = total_filter (λ i. pairs (w.workers i)) w.alive (all_workers w)

  under_way_is : under_way w ≡ ((total messages_at (all_workers w) + total letters_at (all_clients w)) + (length w.requests + length w.answers)) + (total pairs_at (all_workers w) + total (λ c. client_pairs (w.clients c)) (all_clients w))
  unfolding under_way messages
  under_way_is = ap (λ x. ((total messages_at (all_workers w) + total letters_at (all_clients w)) + (length w.requests + length w.answers)) + (x + total (λ c. client_pairs (w.clients c)) (all_clients w))) pairs_all

  worker_count_is : worker_count w ≡ total there_at (all_workers w)
  unfolding worker_count
  worker_count_is = refl

  -- ## Weights

  module _ (d : ℕ → ℕ) (b : ℕ) (g : (k : ℕ) → d k ≤ b + 2) where
    abbrev m : ℕ
    m = (n + 1) * (7 * b + 25)

    abbrev l : ℕ
    l = 7 * b + 24

    abbrev a : ℕ
    a = n * (7 * b + 21)

    abbrev t : ℕ
    t = n * (14 * b + 45)

    worker_most : (i : ℕ) → worker_weight d w i ≤ (messages_at i * m + pairs_at i * l) + (asks_at i * a + there_at i * t)
    unfolding worker_weight site_weight
    worker_most i =
        let x : sum_of (down_weight w.sched d i) (w.down i) ≤ length (w.down i) * m = sum_bound_where _ (down_weight w.sched d i) m (w.down i) (h.down i) (down_most w.sched d b n g i) in
        let y : sum_of (up_weight w.sched d) (w.up i) ≤ length (w.up i) * m = sum_bound_where _ (up_weight w.sched d) m (w.up i) (h.up i) (up_most w.sched d b n g) in
        let z : core_weight w.sched d (w.workers i) ≤ (n * (14 * b + 45) + pairs (w.workers i) * l) + length (w.workers i).asks * a = core_most w.sched d b n g (w.workers i) (ap key_count (h.inside.workers i).shape) (h.items (Worker i)) in
        by (is_connected w i) (w.alive i) _ _ _ _ _ _ _ m l a t x y z
      where
        by : (c e : Bool) (D U O x u p s m l a t : ℕ) → D ≤ x * m → U ≤ u * m → O ≤ (t + p * l) + s * a
            → cond c (cond e (D + O) 0 + U) 0 ≤ ((x + u) * m + cond e p 0 * l) + (cond e s 0 * a + cond (e || c) 1 0 * t)
        by true true D U O x u p s m l a t f g h = omega arith
        by true false D U O x u p s m l a t f g h = omega arith
        by false e D U O x u p s m l a t f g h = omega arith

    client_most : (c : ℕ) → client_weight d w c ≤ (letters_at c * m + client_pairs (w.clients c) * l) + (length (w.clients c).asks * a + 0 * t)
    unfolding client_weight client_site_weight
    client_most c =
        let x : sum_of (news_weight w.sched d) (w.to_client c) ≤ length (w.to_client c) * m = sum_bound (news_weight w.sched d) m (w.to_client c) (news_most w.sched d b n g) in
        let y : sum_of (letter_weight w.sched d) (w.from_client c) ≤ length (w.from_client c) * m = sum_bound (letter_weight w.sched d) m (w.from_client c) (letter_most w.sched d b n g) in
        let z : client_core_weight w.sched d (w.clients c) ≤ client_pairs (w.clients c) * l + length (w.clients c).asks * a = client_core_most w.sched d b n g (w.clients c) (h.items (Client c)) in
        by _ _ _ _ _ _ _ m l a t x y z
      where
        by : (D U O x u p s m l a t : ℕ) → D ≤ x * m → U ≤ u * m → O ≤ p * l + s * a → D + (O + U) ≤ ((x + u) * m + p * l) + (s * a + 0 * t)
        by D U O x u p s m l a t f g h = omega arith

    pub links_most : links_weight d w ≤ under_way w * m + worker_count w * t
    unfolding links_weight
    links_most =
        let x : total (worker_weight d w) (all_workers w) ≤ total (λ i. (messages_at i * m + pairs_at i * l) + (asks_at i * a + there_at i * t)) (all_workers w) = total_at_most _ _ (all_workers w) worker_most in
        let y : total (client_weight d w) (all_clients w) ≤ total (λ c. (letters_at c * m + client_pairs (w.clients c) * l) + (length (w.clients c).asks * a + 0 * t)) (all_clients w) = total_at_most _ _ (all_clients w) client_most in
        let u : total (λ i. (messages_at i * m + pairs_at i * l) + (asks_at i * a + there_at i * t)) (all_workers w) ≡ (total messages_at (all_workers w) * m + total pairs_at (all_workers w) * l) + (total asks_at (all_workers w) * a + total there_at (all_workers w) * t) =
        total_four messages_at pairs_at asks_at there_at m l a t (all_workers w) in
        let v : total (λ c. (letters_at c * m + client_pairs (w.clients c) * l) + (length (w.clients c).asks * a + 0 * t)) (all_clients w)
        ≡ (total letters_at (all_clients w) * m + total (λ c. client_pairs (w.clients c)) (all_clients w) * l) + (total (λ c. length (w.clients c).asks) (all_clients w) * a + total (λ c. 0) (all_clients w) * t) =
        total_four letters_at (λ c. client_pairs (w.clients c)) (λ c. length (w.clients c).asks) (λ c. 0) m l a t (all_clients w) in
        subst (λ (z : ℕ). (total (worker_weight d w) (all_workers w) + total (client_weight d w) (all_clients w)) + (2 * length w.requests + length w.answers) ≤ z * m + worker_count w * t) (sym under_way_is)
        (subst (λ (z : ℕ). (total (worker_weight d w) (all_workers w) + total (client_weight d w) (all_clients w)) + (2 * length w.requests + length w.answers)
        ≤ (((total messages_at (all_workers w) + total letters_at (all_clients w)) + (length w.requests + length w.answers)) + (total pairs_at (all_workers w) + total (λ c. client_pairs (w.clients c)) (all_clients w))) * m + z * t) (sym worker_count_is)
        (sums _ _ _ _ _ _ _ _ _ _ _ _ m l a t (omega (arith, x, u)) (omega (arith, y, v)) (nothing (all_clients w)) (asks_all w h) large small))
      where
        nothing : (xs : List ℕ) → total (λ c. 0) xs ≡ 0
        nothing [] = refl
        nothing (c ∷ xs) = let r : total (λ c. 0) xs ≡ 0 = nothing xs in omega arith

        large : a + 2 ≤ m
        large = omega arith

        small : l ≤ m
        small = omega arith

        sums : (X Y x p z u y q s o R A m l a t : ℕ) → X ≤ (x * m + p * l) + (z * a + u * t) → Y ≤ (y * m + q * l) + (s * a + o * t) → o ≡ 0 → z + s ≤ R + A → a + 2 ≤ m → l ≤ m
            → (X + Y) + (2 * R + A) ≤ (((x + y) + (R + A)) + (p + q)) * m + u * t
        sums X Y x p z u y q s o R A m l a t f g e k b c =
            let i : (z + s) * a ≤ (R + A) * a = mul-le-mul k (le_refl a) in
            let j : (R + A) * (a + 2) ≤ (R + A) * m = mul-le-mul (le_refl (R + A)) b in
            let r : (p + q) * l ≤ (p + q) * m = mul-le-mul (le_refl (p + q)) c in
            let v : o * t ≡ 0 * t = ap (λ x. x * t) e in
            omega arith

  -- ## Disturbances

  up_stirs : (i : ℕ) (m : Up) → up_length m ≤ n → up_disturbs w i m ≤ n + 1
  up_stirs i (ReleaseWorkerData seen k) e = omega (arith, bit_most (nat_le (w.sched.fence i k) seen))
  up_stirs i (MissingData seen k x c) e = omega (arith, bit_most (is_wrongful w x k c))
  up_stirs i (TaskFinished seen k a) e = omega (arith, bit_most (not (w.alive i)))
  up_stirs i (AddKeys seen ks) e = by (w.alive i)
    where
      by : (b : Bool) → cond b 0 (length ks) ≤ n + 1
      by true = omega arith
      by false = omega arith
  up_stirs i (TaskErred seen k a) e = omega arith
  up_stirs i (RequestRefreshWhoHas seen k) e = omega arith
  up_stirs i (StealResponse seen k a agreed) e = omega arith

  letter_stirs : (m : ClientMessage) → letter_disturbs w m ≤ n + 1
  letter_stirs (Want ks) = omega arith
  letter_stirs (Release ks) = omega arith
  letter_stirs (Missing k x c) = omega (arith, bit_most (is_wrongful w x k c))

  death_stirs : (i : ℕ) → death_disturbs w i ≤ n + 1
  death_stirs i = by (w.alive i) counts
    where
      counts : count (λ k. holds w.sched i k) (below (keys w.sched)) ≤ n
      counts =
          let a : count (λ k. holds w.sched i k) (below (keys w.sched)) ≤ length (below (keys w.sched)) * 1 = total-bound (λ k. cond (holds w.sched i k) 1 0) 1 (below (keys w.sched)) (λ k. bit_most (holds w.sched i k)) in
          omega (arith, a, length_keys (keys w.sched))

      by : (b : Bool) → count (λ k. holds w.sched i k) (below (keys w.sched)) ≤ n → cond b 0 (1 + count (λ k. holds w.sched i k) (below (keys w.sched))) ≤ n + 1
      by true e = omega arith
      by false e = omega arith

  worker_stirs : (i : ℕ) → worker_disturbs w i ≤ (messages_at i + there_at i) * (n + 1)
  unfolding worker_disturbs
  worker_stirs i =
      let y : sum_of (up_disturbs w i) (w.up i) ≤ length (w.up i) * (n + 1) = sum_bound_where _ (up_disturbs w i) (n + 1) (w.up i) (h.up i) (up_stirs i) in
      by (is_connected w i) (w.alive i) _ _ _ _ (n + 1) y (death_stirs i)
    where
      by : (c e : Bool) (U D x u m : ℕ) → U ≤ u * m → D ≤ m → cond c (U + D) 0 ≤ ((x + u) + cond (e || c) 1 0) * m
      by true true U D x u m f g = omega arith
      by true false U D x u m f g = omega arith
      by false e U D x u m f g = omega arith

  client_stirs : (c : ℕ) → client_disturbs w c ≤ letters_at c * (n + 1)
  unfolding client_disturbs
  client_stirs c = let y : sum_of (letter_disturbs w) (w.from_client c) ≤ length (w.from_client c) * (n + 1) = sum_bound (letter_disturbs w) (n + 1) (w.from_client c) letter_stirs in by _ _ _ (n + 1) y
    where
      by : (U x u m : ℕ) → U ≤ u * m → U ≤ (x + u) * m
      by U x u m f = omega arith

  found_few : (asks : List Ask) (p : ℕ) → AllByRecursion (λ (q : Ask). length q.items ≤ n) asks → (q : Parcel) → missed_in w q (ask_to asks p) ≤ n + 1
  found_few [] p a q = omega arith
  found_few (x ∷ asks) p a q = pick (eqb x.peer p) (found_few asks p a.1 q)
    where
      some : sum_of (λ i. bit (is_missed w q i)) x.items ≤ n
      some = let s : sum_of (λ i. bit (is_missed w q i)) x.items ≤ length x.items * 1 = sum_bound (λ i. bit (is_missed w q i)) 1 x.items (λ i. bit_most (is_missed w q i)) in let m : length x.items ≤ n = a.0 in omega arith

      within : (b : Bool) → cond b (sum_of (λ i. bit (is_missed w q i)) x.items) 0 ≤ n + 1
      within true = omega (arith, some)
      within false = omega arith

      pick : (b : Bool) → missed_in w q (ask_to asks p) ≤ n + 1 → missed_in w q (cond b (Some x) (ask_to asks p)) ≤ n + 1
      pick true l = within (eqb x.number q.ask)
      pick false l = l

  answer_stirs : (q : Parcel) → answer_disturbs w q ≤ n + 1
  unfolding answer_disturbs
  answer_stirs q = by q.asker
    where
      by : (a : Asker) → missed_in w q (open_ask w a q.peer) ≤ n + 1
      by (Worker i) = found_few (w.workers i).asks q.peer (h.items (Worker i)) q
      by (Client c) = found_few (w.clients c).asks q.peer (h.items (Client c)) q

  pub disturbances_most : disturbances w ≤ (n + 1) * (under_way w + worker_count w)
  unfolding disturbances
  disturbances_most =
      let x : total (worker_disturbs w) (all_workers w) ≤ total (λ i. (messages_at i + there_at i) * (n + 1)) (all_workers w) = total_at_most _ _ (all_workers w) worker_stirs in
      let u : total (λ i. (messages_at i + there_at i) * (n + 1)) (all_workers w) ≡ total (λ i. messages_at i + there_at i) (all_workers w) * (n + 1) = total_times (λ i. messages_at i + there_at i) (n + 1) (all_workers w) in
      let s : total (λ i. messages_at i + there_at i) (all_workers w) ≡ total messages_at (all_workers w) + total there_at (all_workers w) = total_sum messages_at there_at (all_workers w) in
      let y : total (client_disturbs w) (all_clients w) ≤ total (λ c. letters_at c * (n + 1)) (all_clients w) = total_at_most _ _ (all_clients w) client_stirs in
      let v : total (λ c. letters_at c * (n + 1)) (all_clients w) ≡ total letters_at (all_clients w) * (n + 1) = total_times letters_at (n + 1) (all_clients w) in
      let z : sum_of (answer_disturbs w) w.answers ≤ length w.answers * (n + 1) = sum_bound (answer_disturbs w) (n + 1) w.answers answer_stirs in
      let e : total (λ i. messages_at i + there_at i) (all_workers w) * (n + 1) ≡ (total messages_at (all_workers w) + total there_at (all_workers w)) * (n + 1) = ap (λ x. x * (n + 1)) s in
      subst (λ (z : ℕ). (total (worker_disturbs w) (all_workers w) + total (client_disturbs w) (all_clients w)) + sum_of (answer_disturbs w) w.answers ≤ (n + 1) * (z + worker_count w)) (sym under_way_is)
      (subst (λ (z : ℕ). (total (worker_disturbs w) (all_workers w) + total (client_disturbs w) (all_clients w)) + sum_of (answer_disturbs w) w.answers
      ≤ (n + 1) * ((((total messages_at (all_workers w) + total letters_at (all_clients w)) + (length w.requests + length w.answers)) + (total pairs_at (all_workers w) + total (λ c. client_pairs (w.clients c)) (all_clients w))) + z)) (sym worker_count_is)
      (sums _ _ _ _ _ _ _ _ _ (n + 1) (omega (arith, x, u, e)) (omega (arith, y, v)) z))
    where
      sums : (X Y Z x t y A R p m : ℕ) → X ≤ (x + t) * m → Y ≤ y * m → Z ≤ A * m → (X + Y) + Z ≤ m * ((((x + y) + (R + A)) + p) + t)
      sums X Y Z x t y A R p m f g h = omega arith
