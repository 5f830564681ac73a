-- Fronts of lists: tasks, numbers, keys with their places.
use Rattle.std.proofs.Common.{◌≡◌, ℕ, zero, suc, ◌+◌, ◌<◌, ◌≤◌, List, [], ◌∷◌, ◌++◌, length, map, take, ap, sym, ◌∙◌, arith}
use Rattle.std.specs.Prelude.{slice_index_or}
use Rattle.std.specs.List.{range_with_len}
use Rattle.std.proofs.lemmas.List.{map_push, take_more}
use Rattle.small_facts.proofs.Ranges.{range_upto}
use Rattle.cluster_msgs.specs.Shape.{edge_count}
use Rattle.task_graph.specs.declared.graph.Task.{Task}
use Rattle.task_graph.specs.Graphs.{shape_of}
use Rattle.task_graph.proofs.Pushed.{more-edges}

pub edges-next : (tasks : List Task) (k : ℕ) (t : Task) → k < length tasks → t ≡ slice_index_or tasks k t → edge_count (shape_of (take (k + 1) tasks)) ≡ edge_count (shape_of (take k tasks)) + length t.deps
edges-next tasks k t lt is = ap (λ (ts : List Task). edge_count (shape_of ts)) (take_more tasks k t lt ∙ ap (λ (x : Task). take k tasks ++ x ∷ []) (sym is)) ∙ more-edges (take k tasks) t

pub edges-front : (tasks : List Task) (k : ℕ) → edge_count (shape_of (take k tasks)) ≤ edge_count (shape_of tasks)
edges-front tasks zero = omega arith
edges-front [] (suc k) = omega arith
edges-front (t ∷ tasks) (suc k) = let r : edge_count (shape_of (take k tasks)) ≤ edge_count (shape_of tasks) = edges-front tasks k in omega arith

-- the dependencies of a task, beside those of the tasks before it, are within those of all
pub edges-within : (tasks : List Task) (k : ℕ) (t : Task) → k < length tasks → t ≡ slice_index_or tasks k t → edge_count (shape_of (take k tasks)) + length t.deps ≤ edge_count (shape_of tasks)
edges-within tasks k t lt is = let a = edges-next tasks k t lt is in let b = edges-front tasks (k + 1) in omega (arith, a, b)

pub range-ends : (a n j : ℕ) → a + n ≡ j → range_with_len a (n + 1) ≡ range_with_len a n ++ j ∷ []
range-ends a zero j e = let f : a ≡ j = omega arith in ap (λ x. x ∷ []) f
range-ends a (suc n) j e = let one : suc n + 1 ≡ suc (n + 1) = omega arith in ap (range_with_len a) one ∙ ap (λ xs. a ∷ xs) (range-ends (a + 1) n j (omega arith))

-- one key more beside its place
pub record AreFront (keys : List ℕ) (k : ℕ) (pairs : List (ℕ × ℕ)) : Type 0 where
  pub keys_are : map (λ (p : ℕ × ℕ). p.0) pairs ≡ take k keys
  pub places_are : map (λ (p : ℕ × ℕ). p.1) pairs ≡ range_with_len 0 k

pub front-more : (keys : List ℕ) (k : ℕ) (pairs : List (ℕ × ℕ)) (key : ℕ) → k < length keys → key ≡ slice_index_or keys k 0 → AreFront keys k pairs → AreFront keys (k + 1) (pairs ++ (key, k) ∷ [])
front-more keys k pairs key lt is f = record {
  keys_are = map_push (λ (p : ℕ × ℕ). p.0) pairs ((key, k)) ∙ ap (λ (xs : List ℕ). xs ++ key ∷ []) f.keys_are ∙ ap (λ x. take k keys ++ x ∷ []) is ∙ sym (take_more keys k 0 lt);
  places_are = map_push (λ (p : ℕ × ℕ). p.1) pairs ((key, k)) ∙ ap (λ (xs : List ℕ). xs ++ k ∷ []) f.places_are ∙ sym (range_upto k);
}
