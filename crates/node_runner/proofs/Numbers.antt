-- How many joins of a script are left, and how many items that take a worker away.
use Rattle.std.proofs.Common.{◌≡◌, ℕ, ◌+◌, ◌<◌, List, map, drop, length, get_or, ap, arith}
use Rattle.std.specs.Prelude.{sum}
use Rattle.std.specs.List.{fold}
use Rattle.std.proofs.lemmas.List.{drop_more, drop_all}
use Rattle.small_facts.proofs.Lists.{fold_is_sum}
use Rattle.cluster_msgs.specs.declared.events.Item.{Item}
use Rattle.node_states.specs.Order.{joins_of}
use Rattle.cluster_msgs.specs.Scripts.{removes_of}

pub joins_next : (xs : List Item) (i : ℕ) (d : Item) → i < length xs → sum (map joins_of (drop i xs)) ≡ joins_of (get_or xs i d) + sum (map joins_of (drop (i + 1) xs))
joins_next xs i d less =
    let rest : List ℕ = map joins_of (drop (i + 1) xs) in
    let whole : sum (map joins_of (drop i xs)) ≡ fold ◌+◌ (0 + joins_of (get_or xs i d)) rest = ap (λ ys. sum (map joins_of ys)) (drop_more xs i d less) in
    omega (arith, whole, fold_is_sum (0 + joins_of (get_or xs i d)) rest)

pub joins_end : (xs : List Item) (i : ℕ) → i ≡ length xs → sum (map joins_of (drop i xs)) ≡ 0
joins_end xs i e = ap (λ ys. sum (map joins_of ys)) (drop_all i xs (omega (arith, e)))

pub removals_next : (xs : List Item) (i : ℕ) (d : Item) → i < length xs → sum (map removes_of (drop i xs)) ≡ removes_of (get_or xs i d) + sum (map removes_of (drop (i + 1) xs))
removals_next xs i d less =
    let rest : List ℕ = map removes_of (drop (i + 1) xs) in
    let whole : sum (map removes_of (drop i xs)) ≡ fold ◌+◌ (0 + removes_of (get_or xs i d)) rest = ap (λ ys. sum (map removes_of ys)) (drop_more xs i d less) in
    omega (arith, whole, fold_is_sum (0 + removes_of (get_or xs i d)) rest)

pub removals_end : (xs : List Item) (i : ℕ) → i ≡ length xs → sum (map removes_of (drop i xs)) ≡ 0
removals_end xs i e = ap (λ ys. sum (map removes_of ys)) (drop_all i xs (omega (arith, e)))
