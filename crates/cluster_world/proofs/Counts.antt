-- Sums over workers and clients, number by number.
use Rattle.std.proofs.Common.{◌≡◌, ℕ, ◌+◌, ◌≤◌, Bool, true, false, List, [], ◌∷◌, refl, sym, ap, ◌∙◌, arith, cond, filter, map, length}
use Rattle.std.specs.Prelude.{min}
use Rattle.std.specs.Option.{option_map}
use Rattle.std.specs.List.{range_with_len}
use Rattle.std.proofs.lemmas.List.{length-map}
use Rattle.small_facts.proofs.Ranges.{range_push}
use Rattle.cluster_msgs.specs.declared.messages.Message.{Message}
use Rattle.cluster_rules.specs.Enabled.{front}
use Rattle.cluster_rules.specs.Functions.{total}
use Rattle.cluster_rules.proofs.TotalLemmas.{total-push}

pub total_more : (f : ℕ → ℕ) (n : ℕ) → total f (range_with_len 1 (n + 1)) ≡ total f (range_with_len 1 n) + f (n + 1)
total_more f n = let e : 1 + n ≡ n + 1 = omega arith in ap (total f) (range_push 1 n) ∙ total-push f (range_with_len 1 n) (1 + n) ∙ ap (λ k. total f (range_with_len 1 n) + f k) e

-- a sum that stands at its greatest
pub more : (f : ℕ → ℕ) (n sum part next : ℕ) → sum ≡ min (total f (range_with_len 1 n)) 18446744073709551615 → part ≡ min (f (n + 1)) 18446744073709551615 → next ≡ min (sum + part) 18446744073709551615
    → next ≡ min (total f (range_with_len 1 (n + 1))) 18446744073709551615
more f n sum part next s p h = let t = total_more f n in omega (arith, t, s, p, h)

pub total_where : (f : ℕ → ℕ) (p : ℕ → Bool) (xs : List ℕ) → total f (filter p xs) ≡ total (λ x. cond (p x) (f x) 0) xs
total_where f p [] = refl
total_where f p (x ∷ xs) = pick (p x) (total_where f p xs)
  where
    pick : (b : Bool) → total f (filter p xs) ≡ total (λ x. cond (p x) (f x) 0) xs → total f (cond b (x ∷ filter p xs) (filter p xs)) ≡ cond b (f x) 0 + total (λ x. cond (p x) (f x) 0) xs
    pick true h = omega (arith, h)
    pick false h = omega (arith, h)

pub ended : (n m : ℕ) → n ≤ m → m ≤ n → n ≡ m
ended n m h k = omega arith

-- sums that stop at a greatest number
pub capped : (a b m x y r : ℕ) → x ≡ min a m → y ≡ min b m → r ≡ min (x + y) m → r ≡ min (a + b) m
capped a b m x y r h k e = omega (arith, h, k, e)

-- messages of one kind
pub kind_length : {M : Type 0} (wrap : M → Message) (ms : List M) (xs : List Message) → map wrap ms ≡ xs → length xs ≡ length ms
kind_length wrap ms xs e = sym (ap length e) ∙ length-map ms wrap

pub kind_front : {M : Type 0} (wrap : M → Message) (ms : List M) (xs : List Message) → map wrap ms ≡ xs → front xs ≡ option_map wrap (front ms)
kind_front wrap [] xs e = sym (ap front e)
kind_front wrap (m ∷ ms) xs e = sym (ap front e)
