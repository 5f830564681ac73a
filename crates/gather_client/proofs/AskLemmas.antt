-- An ask looks at the first 16 keys alone.
use Rattle.std.proofs.Common.{◌≡◌, ℕ, zero, suc, ◌+◌, ◌-◌, ◌<◌, ◌≤◌, Bool, List, [], ◌∷◌, ◌++◌, ◌||◌, Option, Some, None, refl, sym, ap, ◌∙◌, subst, arith, cond, filter, take, length}
use Rattle.std.specs.Prelude.{◌==◌, min, nat_le}
use Rattle.std.specs.List.{filter_map, cons_option, range_with_len}
use Rattle.std.proofs.lemmas.List.{append-nil, length_push, take_at, take-take, length-take}
use Rattle.std.proofs.lemmas.List.Elements.{filter-append, filter_map-append}
use Rattle.std.proofs.lemmas.List.FromFn.{length-range_with_len}
use Rattle.small_facts.proofs.Lists.{filter_fewer}
use Rattle.small_facts.proofs.Numbers.{whole_of_rest}
use Rattle.cluster_msgs.specs.Shape.{Shape}
use Rattle.cluster_rules.specs.Derived.{below}
use Rattle.cluster_rules.specs.Functions.{from_one}
use Rattle.cluster_rules.specs.Worker.{first_fit, total_bytes, ask_items}
use Rattle.cluster_rules.proofs.DerivedLemmas.{below_split}
use Rattle.gather_client.proofs.TableLemmas.{picked, picked-gap}

-- what is kept of the keys below some number is the front of what is kept of more keys
pub front_kept : {A : Type 0} (h : ℕ → Option A) (q : ℕ → Bool) (a b n : ℕ) → a ≤ b → length (filter_map h (filter q (below a))) ≡ n → filter_map h (filter q (below a)) ≡ take n (filter_map h (filter q (below b)))
front_kept {A = A} h q a b n l e = sym (ap (λ xs. take n xs) parts ∙ take_at front rest n e)
  where
    more : List ℕ
    more = range_with_len a (b - a)

    front : List A
    front = filter_map h (filter q (below a))

    rest : List A
    rest = filter_map h (filter q more)

    parts : filter_map h (filter q (below b)) ≡ front ++ rest
    parts =
        ap (λ m. filter_map h (filter q (below m))) (whole_of_rest a b l)
        ∙ ap (λ ks. filter_map h (filter q ks)) (below_split a (b - a))
        ∙ ap (filter_map h) (filter-append q (below a) more)
        ∙ filter_map-append h (filter q (below a)) (filter q more)

-- one key more was looked at, those in between being nothing
pub kept_more : {A : Type 0} (h : ℕ → Option A) (q : ℕ → Bool) (a k : ℕ) (xs ys : List A) (o : Option A) → a ≤ k → ((j : ℕ) → a ≤ j → j < k → cond (q j) (h j) None ≡ None)
    → xs ≡ filter_map h (filter q (below a)) → o ≡ cond (q k) (h k) None → ys ≡ xs ++ cons_option o [] → ys ≡ filter_map h (filter q (below (k + 1)))
kept_more h q a k xs ys o l none e i push =
    push
    ∙ ap (λ zs. zs ++ cons_option o []) (e ∙ sym (picked-gap h q a k l none))
    ∙ ap (λ v. filter_map h (filter q (below k)) ++ cons_option v []) i
    ∙ sym (picked h q k)

pub at_most_one : {A : Type 0} (xs ys : List A) (o : Option A) → ys ≡ xs ++ cons_option o [] → length ys ≤ length xs + 1
at_most_one {A = A} xs ys o e = subst (λ zs. length zs ≤ length xs + 1) (sym e) (more o)
  where
    more : (o : Option A) → length (xs ++ cons_option o []) ≤ length xs + 1
    more None = omega (arith, ap length (append-nil xs))
    more (Some x) = omega (arith, length_push xs x)

-- tests that agree on a range keep the same of it
same_kept : (p q : ℕ → Bool) (a m : ℕ) → ((n : ℕ) → n < a + m → p n ≡ q n) → filter p (range_with_len a m) ≡ filter q (range_with_len a m)
same_kept p q a zero h = refl
same_kept p q a (suc m) h = one (p a) (q a) (h a (omega arith)) (same_kept p q (a + 1) m (λ n l. h n (omega arith)))
  where
    one : (b c : Bool) → b ≡ c → filter p (range_with_len (a + 1) m) ≡ filter q (range_with_len (a + 1) m)
        → cond b (a ∷ filter p (range_with_len (a + 1) m)) (filter p (range_with_len (a + 1) m)) ≡ cond c (a ∷ filter q (range_with_len (a + 1) m)) (filter q (range_with_len (a + 1) m))
    one b c e r = λ i. cond (e i) (a ∷ r i) (r i)

-- what an ask takes of the first 16 is what it takes of all
pub ask_of_front : (g : Shape) (is : List (ℕ × ℕ)) → ask_items g (take 16 is) ≡ ask_items g is
unfolding ask_items
ask_of_front g is =
    take-take (length (filter (first_fit g (take 16 is)) (from_one (min 16 (length (take 16 is)))))) 16 is few
    ∙ ap (λ n. take (length (filter (first_fit g (take 16 is)) (from_one n))) is) count
    ∙ ap (λ ns. take (length ns) is) (same_kept (first_fit g (take 16 is)) (first_fit g is) 1 (min 16 (length is)) (λ n l. ap (λ js. n == 1 || nat_le (total_bytes g js) 67108864) (take-take n 16 is (omega arith))))
  where
    count : min 16 (length (take 16 is)) ≡ min 16 (length is)
    count = omega (arith, length-take 16 is)

    few : length (filter (first_fit g (take 16 is)) (from_one (min 16 (length (take 16 is))))) ≤ 16
    few = omega (arith, filter_fewer (first_fit g (take 16 is)) (from_one (min 16 (length (take 16 is)))), length-range_with_len 1 (min 16 (length (take 16 is))))
