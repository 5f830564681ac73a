-- What a graph takes as its next key.
use Rattle.std.specs.Prelude.{◌≡◌, ℕ, ◌+◌, suc, nat_lt, not, ◌||◌, cond, List, [], ◌∷◌, ◌++◌, length, Option, Some, None, Result, Ok, Err}
use Rattle.cluster_msgs.specs.Shape.{edge_count}
use Rattle.cluster_msgs.specs.declared.shape.GraphRow.{GraphRow}
use Rattle.task_graph.specs.declared.graph.Task.{Task}
use Rattle.task_graph.specs.declared.graph.PushError.{PushError}
use Rattle.task_graph.specs.declared.graph.PushError.TheVariants.{BadDep, Limit, OutOfMemory}
use Rattle.task_graph.specs.declared.limit.Quantity.{Quantity}
use Rattle.task_graph.specs.declared.limit.Quantity.TheVariants.{Keys, Edges, BlockBytes}
use Rattle.task_graph.specs.Graphs.{shape_of}

-- the first dependency that isn't below the key, or is below `least`; after each the next has to be above it
abbrev pub first_bad : ℕ → ℕ → List ℕ → Option ℕ
first_bad key least [] = None
first_bad key least (d ∷ ds) = cond (nat_lt d least || not (nat_lt d key)) (Some d) (first_bad key (suc d) ds)

-- the first limit that a graph of so many keys and dependencies passes with one task more
abbrev pub limit_passed : ℕ → ℕ → Task → Option Quantity
limit_passed keys edges t =
    cond (nat_lt 32767 keys) (Some Keys) (cond (nat_lt 262144 (edges + length t.deps)) (Some Edges) (cond (nat_lt 134217728 t.nbytes) (Some BlockBytes) None))

-- a dependency that can't be, before a limit
abbrev pub first_refusal : Option ℕ → Option Quantity → Option PushError
first_refusal (Some d) q = Some (BadDep d)
first_refusal None (Some q) = Some (Limit q)
first_refusal None None = None

-- why a graph of so many keys and dependencies doesn't take a task
abbrev pub refusal : ℕ → ℕ → Task → Option PushError
refusal keys edges t = first_refusal (first_bad keys 0 t.deps) (limit_passed keys edges t)

abbrev pub refusal_of : List Task → Task → Option PushError
refusal_of tasks t = refusal (length tasks) (edge_count (shape_of tasks)) t

-- one key more, or the reason why not, and then the graph is as before
abbrev pub IsPushed : List Task → Task → Result ℕ PushError → List Task → Type 0
IsPushed old t (Ok key) new = (refusal_of old t ≡ None) × (key ≡ length old) × (new ≡ old ++ t ∷ [])
IsPushed old t (Err (BadDep d)) new = (refusal_of old t ≡ Some (BadDep d)) × (new ≡ old)
IsPushed old t (Err (Limit q)) new = (refusal_of old t ≡ Some (Limit q)) × (new ≡ old)
IsPushed old t (Err OutOfMemory) new = new ≡ old

-- a task as a row of the graph that the cluster sees
abbrev pub row_of : Task → GraphRow
row_of t = record { deps = t.deps; work = t.work; nbytes = t.nbytes }
