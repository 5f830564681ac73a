-- Lists of keys: rows of them, and one more in its place.
use Rattle.std.proofs.Common.{◌≡◌, ℕ, zero, suc, ◌+◌, ◌<◌, ◌≤◌, List, [], ◌∷◌, ◌++◌, length, map, take, drop, get_or, refl, ap, sym, ◌∙◌, arith}
use Rattle.std.specs.List.{range_with_len}
use Rattle.std.proofs.lemmas.List.{drop_more}
use Rattle.std.proofs.lemmas.List.FromFn.{map-range_with_len_more}
use Rattle.task_graph.specs.Orders.{with_key, ascending}
use Rattle.task_graph.proofs.Renumbered.{with-less, with-same}

-- a row that is made by `push`
pub row-more : (f : ℕ → ℕ) (own next : List ℕ) (k x : ℕ) → next ≡ own ++ x ∷ [] → own ≡ map f (range_with_len 0 k) → x ≡ f k → next ≡ map f (range_with_len 0 (k + 1))
row-more f own next k x e o h =
    e ∙ ap (λ (xs : List ℕ). xs ++ x ∷ []) o ∙ ap (λ (y : ℕ). map f (range_with_len 0 k) ++ y ∷ []) h ∙ sym (map-range_with_len_more f 0 k k (omega arith))

with-more : (k j : ℕ) (js : List ℕ) → j < k → with_key k (j ∷ js) ≡ j ∷ with_key k js
with-more k j js h = grind arith

-- a key behind the smaller ones and before a greater one
pub with-put : (k : ℕ) (js : List ℕ) (p : ℕ) → p ≤ length js → ((i : ℕ) → i < p → get_or js i 0 < k) → (p < length js → k < get_or js p 0) → with_key k js ≡ take p js ++ k ∷ drop p js
with-put k [] zero h b a = refl
with-put k [] (suc p) h b a = absurd (omega arith)
with-put k (j ∷ js) zero h b a = with-less k j js (a (omega arith))
with-put k (j ∷ js) (suc p) h b a =
    with-more k j js (b 0 (omega arith)) ∙ ap (λ ks. j ∷ ks) (with-put k js p (omega arith) (λ i l. b (suc i) (omega arith)) (λ l. a (omega arith)))

-- one that is there
pub with-there : (k : ℕ) (js : List ℕ) (p : ℕ) → p < length js → ((i : ℕ) → i < p → get_or js i 0 < k) → get_or js p 0 ≡ k → with_key k js ≡ js
with-there k [] p h b e = absurd (omega arith)
with-there k (j ∷ js) zero h b e = with-same k j js (sym e)
with-there k (j ∷ js) (suc p) h b e = with-more k j js (b 0 (omega arith)) ∙ ap (λ ks. j ∷ ks) (with-there k js p (omega arith) (λ i l. b (suc i) (omega arith)) e)

-- one key more, from the last to the first
pub ascending-more : (ks : List ℕ) (p : ℕ) → p < length ks → with_key (get_or ks p 0) (ascending (drop (p + 1) ks)) ≡ ascending (drop p ks)
ascending-more ks p h = ap ascending (sym (drop_more ks p 0 h))
