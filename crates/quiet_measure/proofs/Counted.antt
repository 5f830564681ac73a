-- Each open ask has its own request or answer under way.
use Rattle.std.proofs.Common.{◌≡◌, ℕ, ◌+◌, ◌≤◌, Bool, true, false, cond, ◌&&◌, List, [], ◌∷◌, length, Some, None, refl, sym, ap, ◌∙◌, subst, arith, is_some, find, inl, inr, ◌⊎◌}
use Rattle.std.proofs.Math.Dec.{eqb}
use Rattle.std.specs.List.{range_with_len, AllByRecursion, Contains}
use Rattle.std.specs.Prelude.{nat_le}
use Rattle.cluster_rules.proofs.ChoiceLemmas.{contains_head, contains_tail}
use Rattle.cluster_rules.proofs.Members.{range_from}
use Rattle.quiet_measure.proofs.KeyByKey.{total_sum}
use Rattle.std.proofs.lemmas.Bool.{false≢true, eqb-true, eqb-false, eq-eqb, ne_eqb, and_from, le-leb}
use Rattle.small_facts.proofs.Options.{some_not_none, find_passes}
use Rattle.cluster_msgs.specs.declared.events.Asker.{Asker}
use Rattle.cluster_msgs.specs.declared.events.Asker.TheVariants.{Worker, Client}
use Rattle.cluster_rules.specs.Functions.{total}
use Rattle.cluster_rules.specs.Worker.{Ask, ask_to}
use Rattle.cluster_rules.specs.World.{World, Parcel, all_workers, all_clients, is_asker, open_ask, same_asker, is_parcel, parcel_of}
use Rattle.quiet_measure.specs.Weights.{bit, sum_of}
use Rattle.quiet_measure.specs.Turns.{asks_of, PeersDiffer}
use Rattle.quiet_measure.proofs.Sums.{total_at_most, sum_at_most, total_gain}
use Rattle.quiet_measure.proofs.Falling.{same_most}
use Rattle.quiet_measure.proofs.Fewer.{total_nothing}
use Rattle.quiet_measure.proofs.Asks.{length_sum}
use Rattle.quiet_measure.specs.Bounded.{IsBounded}

-- ## Sums that change places

sum_nothing : {A : Type 0} (xs : List A) → sum_of (λ x. 0) xs ≡ 0
sum_nothing [] = refl
sum_nothing (x ∷ xs) = let r : sum_of (λ x. 0) xs ≡ 0 = sum_nothing xs in omega arith

sum_both : {A : Type 0} (g h : A → ℕ) (xs : List A) → sum_of (λ x. g x + h x) xs ≡ sum_of g xs + sum_of h xs
sum_both g h [] = refl
sum_both g h (x ∷ xs) = let r : sum_of (λ x. g x + h x) xs ≡ sum_of g xs + sum_of h xs = sum_both g h xs in omega arith

sum_change : {A B : Type 0} (h : A → B → ℕ) (xs : List A) (ys : List B) → sum_of (λ x. sum_of (h x) ys) xs ≡ sum_of (λ y. sum_of (λ x. h x y) xs) ys
sum_change h [] ys = sym (sum_nothing ys)
sum_change h (x ∷ xs) ys =
    let r : sum_of (λ x. sum_of (h x) ys) xs ≡ sum_of (λ y. sum_of (λ x. h x y) xs) ys = sum_change h xs ys in
    let b : sum_of (λ y. h x y + sum_of (λ x. h x y) xs) ys ≡ sum_of (h x) ys + sum_of (λ y. sum_of (λ x. h x y) xs) ys = sum_both (h x) (λ y. sum_of (λ x. h x y) xs) ys in
    omega arith

total_change : {B : Type 0} (h : ℕ → B → ℕ) (xs : List ℕ) (ys : List B) → total (λ x. sum_of (h x) ys) xs ≡ sum_of (λ y. total (λ x. h x y) xs) ys
total_change h [] ys = sym (sum_nothing ys)
total_change h (x ∷ xs) ys =
    let r : total (λ x. sum_of (h x) ys) xs ≡ sum_of (λ y. total (λ x. h x y) xs) ys = total_change h xs ys in
    let b : sum_of (λ y. h x y + total (λ x. h x y) xs) ys ≡ sum_of (h x) ys + sum_of (λ y. total (λ x. h x y) xs) ys = sum_both (h x) (λ y. total (λ x. h x y) xs) ys in
    omega arith

-- ## One asker

-- a parcel of this asker and its ask's peer
abbrev is_for : Asker → Ask → Parcel → ℕ
is_for a q x = bit (same_asker x.asker a && eqb x.peer q.peer)

found_counts : (a : Asker) (q : Ask) (xs : List Parcel) → is_some (parcel_of a q.peer q.number xs) ≡ true → 1 ≤ sum_of (is_for a q) xs
found_counts a q [] e = absurd (false≢true e)
found_counts a q (x ∷ xs) e = pick (is_parcel a q.peer q.number x) refl e (found_counts a q xs)
  where
    one : (b c d : Bool) → (b && (c && d)) ≡ true → bit (b && c) ≡ 1
    one true true d e = refl
    one true false d e = absurd (false≢true e)
    one false c d e = absurd (false≢true e)

    pick : (b : Bool) → is_parcel a q.peer q.number x ≡ b → is_some (cond b (Some x) (find (is_parcel a q.peer q.number) xs)) ≡ true → (is_some (parcel_of a q.peer q.number xs) ≡ true → 1 ≤ sum_of (is_for a q) xs) → 1 ≤ is_for a q x + sum_of (is_for a q) xs
    pick true h e again = let l : is_for a q x ≡ 1 = one (same_asker x.asker a) (eqb x.peer q.peer) (eqb x.ask q.number) h in omega arith
    pick false h e again = let l : 1 ≤ sum_of (is_for a q) xs = again e in omega arith

-- where peers differ, a parcel is for one ask at most
none_for : (a : Asker) (x : Parcel) (qs : List Ask) → ask_to qs x.peer ≡ None → sum_of (λ q. is_for a q x) qs ≡ 0
none_for a x [] n = refl
none_for a x (q ∷ qs) n = pick (eqb q.peer x.peer) refl n (none_for a x qs)
  where
    right : (b : Bool) → bit (b && false) ≡ 0
    right true = refl
    right false = refl

    pick : (b : Bool) → eqb q.peer x.peer ≡ b → cond b (Some q) (ask_to qs x.peer) ≡ None → (ask_to qs x.peer ≡ None → sum_of (λ q. is_for a q x) qs ≡ 0) → is_for a q x + sum_of (λ q. is_for a q x) qs ≡ 0
    pick true e n again = absurd (some_not_none q n)
    pick false e n again =
        let z : sum_of (λ q. is_for a q x) qs ≡ 0 = again n in
        let y : is_for a q x ≡ 0 = ap (λ b. bit (same_asker x.asker a && b)) (ne_eqb x.peer q.peer (λ s. eqb-false q.peer x.peer e (sym s))) ∙ right (same_asker x.asker a) in
        omega arith

one_for : (a : Asker) (x : Parcel) (qs : List Ask) → PeersDiffer qs → sum_of (λ q. is_for a q x) qs ≤ bit (same_asker x.asker a)
one_for a x [] d = omega arith
one_for a x (q ∷ qs) d = pick (eqb x.peer q.peer) refl (one_for a x qs d.1)
  where
    at : (s : Bool) → bit (s && true) ≡ bit s
    at true = refl
    at false = refl

    right : (b : Bool) → bit (b && false) ≡ 0
    right true = refl
    right false = refl

    pick : (b : Bool) → eqb x.peer q.peer ≡ b → sum_of (λ q. is_for a q x) qs ≤ bit (same_asker x.asker a) → bit (same_asker x.asker a && b) + sum_of (λ q. is_for a q x) qs ≤ bit (same_asker x.asker a)
    pick true e l =
        let z : sum_of (λ q. is_for a q x) qs ≡ 0 = none_for a x qs (ap (ask_to qs) (eqb-true x.peer q.peer e) ∙ d.0) in
        omega (arith, z, at (same_asker x.asker a))
    pick false e l = omega (arith, l, right (same_asker x.asker a))

-- each ask is the one that is open to its peer
opens : (qs : List Ask) → PeersDiffer qs → (Q : Ask → Type 0) → ((p : ℕ) (q : Ask) → ask_to qs p ≡ Some q → Q q) → AllByRecursion Q qs
opens [] d Q h = tt
opens (q ∷ qs) d Q h = (h q.peer q (ap (λ b. cond b (Some q) (ask_to qs q.peer)) (eq-eqb q.peer q.peer refl)), opens qs d.1 Q (λ p r e. h p r (later p r e)))
  where
    later : (p : ℕ) (r : Ask) → ask_to qs p ≡ Some r → cond (eqb q.peer p) (Some q) (ask_to qs p) ≡ Some r
    later p r e = by (eqb q.peer p) refl
      where
        by : (b : Bool) → eqb q.peer p ≡ b → cond b (Some q) (ask_to qs p) ≡ Some r
        by true s = absurd (some_not_none r (sym e ∙ ap (ask_to qs) (sym (eqb-true q.peer p s)) ∙ d.0))
        by false s = e

length_where : {A : Type 0} (g : A → ℕ) (xs : List A) → AllByRecursion (λ x. 1 ≤ g x) xs → length xs ≤ sum_of g xs
length_where g [] a = omega arith
length_where g (x ∷ xs) a = let r : length xs ≤ sum_of g xs = length_where g xs a.1 in let l : 1 ≤ g x = a.0 in omega arith

module _ (w : World) (h : IsBounded w) where
  -- the parcels of an asker
  abbrev of_asker : Asker → List Parcel → ℕ
  of_asker a xs = sum_of (λ (x : Parcel). bit (same_asker x.asker a)) xs

  asks_counted : (a : Asker) → ((p : ℕ) (q : Ask) → ask_to (asks_of w a) p ≡ Some q → open_ask w a p ≡ Some q) → is_asker w a ≡ true
      → length (asks_of w a) ≤ of_asker a w.requests + of_asker a w.answers
  asks_counted a from alive =
      let l : length (asks_of w a) ≤ sum_of (λ q. sum_of (is_for a q) w.requests + sum_of (is_for a q) w.answers) (asks_of w a) = length_where _ (asks_of w a) (opens (asks_of w a) (h.differ a) _ (λ p q e. one p q e)) in
      let b : sum_of (λ q. sum_of (is_for a q) w.requests + sum_of (is_for a q) w.answers) (asks_of w a) ≡ sum_of (λ q. sum_of (is_for a q) w.requests) (asks_of w a) + sum_of (λ q. sum_of (is_for a q) w.answers) (asks_of w a) = sum_both _ _ (asks_of w a) in
      let c : sum_of (λ q. sum_of (is_for a q) w.requests) (asks_of w a) ≡ sum_of (λ x. sum_of (λ q. is_for a q x) (asks_of w a)) w.requests = sum_change (is_for a) (asks_of w a) w.requests in
      let e : sum_of (λ q. sum_of (is_for a q) w.answers) (asks_of w a) ≡ sum_of (λ x. sum_of (λ q. is_for a q x) (asks_of w a)) w.answers = sum_change (is_for a) (asks_of w a) w.answers in
      let m : sum_of (λ x. sum_of (λ q. is_for a q x) (asks_of w a)) w.requests ≤ of_asker a w.requests = sum_at_most _ _ w.requests (λ x. one_for a x (asks_of w a) (h.differ a)) in
      let n : sum_of (λ x. sum_of (λ q. is_for a q x) (asks_of w a)) w.answers ≤ of_asker a w.answers = sum_at_most _ _ w.answers (λ x. one_for a x (asks_of w a) (h.differ a)) in
      omega arith
    where
      more : (q : Ask) → (is_some (parcel_of a q.peer q.number w.requests) ≡ true) ⊎ (is_some (parcel_of a q.peer q.number w.answers) ≡ true) → 1 ≤ sum_of (is_for a q) w.requests + sum_of (is_for a q) w.answers
      more q (inl e) = let l : 1 ≤ sum_of (is_for a q) w.requests = found_counts a q w.requests e in omega arith
      more q (inr e) = let l : 1 ≤ sum_of (is_for a q) w.answers = found_counts a q w.answers e in omega arith

      one : (p : ℕ) (q : Ask) → ask_to (asks_of w a) p ≡ Some q → 1 ≤ sum_of (is_for a q) w.requests + sum_of (is_for a q) w.answers
      one p q e = more q (subst (λ n. (is_some (parcel_of a n q.number w.requests) ≡ true) ⊎ (is_some (parcel_of a n q.number w.answers) ≡ true)) (sym (eqb-true q.peer p (find_passes (λ (x : Ask). eqb x.peer p) (asks_of w a) q e)))
          (h.answered a p q alive (from p q e)))

  -- ## All askers

  once_in : (v a n : ℕ) → total (λ i. bit (eqb v i)) (range_with_len a n) ≤ 1
  once_in v a n =
      let l : total (λ i. bit (eqb v i)) (range_with_len a n) ≤ total (λ i. 0) (range_with_len a n) + 1 = total_gain (λ i. bit (eqb v i)) (λ i. 0) 1 v a n (λ y m o. same_most _ _ (ap bit (ne_eqb v y (λ s. eqb-false y v o (sym s))))) (most (eqb v v)) in
      let z : total (λ i. 0) (range_with_len a n) ≡ 0 = total_nothing (range_with_len a n) in
      omega arith
    where
      most : (b : Bool) → bit b ≤ 0 + 1
      most true = omega arith
      most false = omega arith

  once : (a : Asker) → total (λ i. bit (same_asker a (Worker i))) (all_workers w) + total (λ c. bit (same_asker a (Client c))) (all_clients w) ≤ 1
  once (Worker v) = let l : total (λ i. bit (eqb v i)) (all_workers w) ≤ 1 = once_in v 1 w.sched.last_worker in let z : total (λ c. 0) (all_clients w) ≡ 0 = total_nothing (all_clients w) in omega arith
  once (Client v) = let l : total (λ i. bit (eqb v i)) (all_clients w) ≤ 1 = once_in v 1 w.sched.setting.clients in let z : total (λ c. 0) (all_workers w) ≡ 0 = total_nothing (all_workers w) in omega arith

  all_of : (xs : List Parcel) → total (λ i. of_asker (Worker i) xs) (all_workers w) + total (λ c. of_asker (Client c) xs) (all_clients w) ≤ length xs
  all_of xs =
      let a : total (λ i. of_asker (Worker i) xs) (all_workers w) ≡ sum_of (λ (x : Parcel). total (λ i. bit (same_asker x.asker (Worker i))) (all_workers w)) xs = total_change (λ i (x : Parcel). bit (same_asker x.asker (Worker i))) (all_workers w) xs in
      let b : total (λ c. of_asker (Client c) xs) (all_clients w) ≡ sum_of (λ (x : Parcel). total (λ c. bit (same_asker x.asker (Client c))) (all_clients w)) xs = total_change (λ c (x : Parcel). bit (same_asker x.asker (Client c))) (all_clients w) xs in
      let c : sum_of (λ (x : Parcel). total (λ i. bit (same_asker x.asker (Worker i))) (all_workers w) + total (λ c. bit (same_asker x.asker (Client c))) (all_clients w)) xs
      ≡ sum_of (λ (x : Parcel). total (λ i. bit (same_asker x.asker (Worker i))) (all_workers w)) xs + sum_of (λ (x : Parcel). total (λ c. bit (same_asker x.asker (Client c))) (all_clients w)) xs = sum_both _ _ xs in
      let l : sum_of (λ (x : Parcel). total (λ i. bit (same_asker x.asker (Worker i))) (all_workers w) + total (λ c. bit (same_asker x.asker (Client c))) (all_clients w)) xs ≤ sum_of (λ x. 1) xs = sum_at_most _ _ xs (λ (x : Parcel). once x.asker) in
      omega (arith, a, b, c, l, length_sum xs)

  -- open asks of askers that are there
  pub asks_all : total (λ i. cond (w.alive i) (length (w.workers i).asks) 0) (all_workers w) + total (λ c. length (w.clients c).asks) (all_clients w) ≤ length w.requests + length w.answers
  asks_all =
      let a : total (λ i. cond (w.alive i) (length (w.workers i).asks) 0) (all_workers w) ≤ total (λ i. of_asker (Worker i) w.requests + of_asker (Worker i) w.answers) (all_workers w) = total_at_most _ _ (all_workers w) (λ i. worker i (w.alive i) refl) in
      let b : total (λ c. length (w.clients c).asks) (all_clients w) ≤ total (λ c. of_asker (Client c) w.requests + of_asker (Client c) w.answers) (all_clients w) = total_where (all_clients w) (λ c m. client c m) in
      let c : total (λ i. of_asker (Worker i) w.requests + of_asker (Worker i) w.answers) (all_workers w) ≡ total (λ i. of_asker (Worker i) w.requests) (all_workers w) + total (λ i. of_asker (Worker i) w.answers) (all_workers w) = total_sum _ _ (all_workers w) in
      let d : total (λ c. of_asker (Client c) w.requests + of_asker (Client c) w.answers) (all_clients w) ≡ total (λ c. of_asker (Client c) w.requests) (all_clients w) + total (λ c. of_asker (Client c) w.answers) (all_clients w) = total_sum _ _ (all_clients w) in
      omega (arith, a, b, c, d, all_of w.requests, all_of w.answers)
    where
      worker : (i : ℕ) (b : Bool) → w.alive i ≡ b → cond b (length (w.workers i).asks) 0 ≤ of_asker (Worker i) w.requests + of_asker (Worker i) w.answers
      worker i true e = asks_counted (Worker i) (λ p q s. s) e
      worker i false e = omega arith

      total_where : (xs : List ℕ) → ((c : ℕ) → Contains xs c → length (w.clients c).asks ≤ of_asker (Client c) w.requests + of_asker (Client c) w.answers)
          → total (λ c. length (w.clients c).asks) xs ≤ total (λ c. of_asker (Client c) w.requests + of_asker (Client c) w.answers) xs
      total_where [] t = omega arith
      total_where (x ∷ xs) t =
          let r : total (λ c. length (w.clients c).asks) xs ≤ total (λ c. of_asker (Client c) w.requests + of_asker (Client c) w.answers) xs = total_where xs (λ c m. t c (contains_tail x xs c m)) in
          let l : length (w.clients x).asks ≤ of_asker (Client x) w.requests + of_asker (Client x) w.answers = t x (contains_head x xs) in
          omega arith

      client : (c : ℕ) → Contains (all_clients w) c → length (w.clients c).asks ≤ of_asker (Client c) w.requests + of_asker (Client c) w.answers
      client c m = let r = range_from 1 w.sched.setting.clients c m in
          asks_counted (Client c) (λ p q s. s) (and_from (nat_le 1 c) (nat_le c w.sched.setting.clients) (le-leb 1 c r.0) (le-leb c w.sched.setting.clients (omega (arith, r.1))))
