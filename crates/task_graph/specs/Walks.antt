-- Depth-first visits under way.
use Rattle.std.specs.Prelude.{◌≡◌, ℕ, suc, ◌+◌, ◌<◌, ◌≤◌, Bool, true, false, List, [], ◌∷◌, ◌++◌, map, length, drop}
use Rattle.std.specs.List.{AllByRecursion}
use Rattle.cluster_msgs.specs.Dags.{dag}
use Rattle.task_graph.specs.declared.orders.Frame.{Frame}
use Rattle.task_graph.specs.Numbers.{Numbers}
use Rattle.task_graph.specs.Orders.{is_in, visit_all, visit_within}

-- a visit of a key; no chain of dependencies below it is longer than its number
abbrev pub visit : (ℕ → List ℕ) → ℕ → List ℕ → List ℕ
visit deps k done = visit_within (suc k) deps k done

-- numbers after visits of keys in their order
abbrev pub with_visits : (ℕ → List ℕ) → List ℕ → Numbers → Numbers
with_visits deps ks n = record { keys = n.keys; order = visit_all (visit deps) ks n.order }

-- what is left of a visit: the dependencies from a place on, then the key itself
abbrev pub visit_rest : (ℕ → List ℕ) → Frame → List ℕ → List ℕ
visit_rest deps f done = visit_all (visit deps) (drop f.next (deps f.key)) done ++ f.key ∷ []

-- what is left of visits, the innermost first
abbrev pub visits_rest : (ℕ → List ℕ) → List Frame → List ℕ → List ℕ
visits_rest deps [] done = done
visits_rest deps (f ∷ fs) done = visits_rest deps fs (visit_rest deps f done)

-- a visit is begun, unless the key is numbered
abbrev pub with_visit : ℕ → Bool → List Frame → List Frame
with_visit k true fs = fs
with_visit k false fs = record { key = k; next = 0 } ∷ fs

-- ---- how long visits last at most

abbrev pub costs : List ℕ → ℕ
costs [] = 0
costs (w ∷ ws) = suc w + costs ws

abbrev pub weight_step : ℕ → List ℕ → ℕ
weight_step k ws = suc (costs ws)

-- at least the steps of a visit, where every visit goes through all that is below its key
unfoldable pub weight : (ℕ → List ℕ) → ℕ → ℕ
weight deps k = dag deps weight_step 0 k

abbrev pub frame_weight : (ℕ → List ℕ) → Frame → ℕ
frame_weight deps f = suc (costs (map (weight deps) (drop f.next (deps f.key))))

abbrev pub frames_weight : (ℕ → List ℕ) → List Frame → ℕ
frames_weight deps [] = 0
frames_weight deps (f ∷ fs) = frame_weight deps f + frames_weight deps fs

-- ---- visits that can be under way

-- a visit of a key that isn't numbered yet
pub record IsUnderWay (deps : ℕ → List ℕ) (keys : ℕ) (done : List ℕ) (f : Frame) : Type 0 where
  pub there : f.key < keys
  pub next : f.next ≤ length (deps f.key)
  pub fresh : is_in done f.key ≡ false

-- each visit was begun by the next, so that its key is smaller
abbrev pub AreUnderWay : (ℕ → List ℕ) → ℕ → List ℕ → List Frame → Type 0
AreUnderWay deps keys done [] = Unit {0}
AreUnderWay deps keys done (f ∷ fs) = IsUnderWay deps keys done f × AllByRecursion (λ (g : Frame). f.key < g.key) fs × AreUnderWay deps keys done fs

-- one step of the visits: what comes of them is the same, and less of them is left
pub record IsStep (deps : ℕ → List ℕ) (before : List Frame) (old : Numbers) (after : List Frame) (new : Numbers) : Type 0 where
  pub keys : new.keys ≡ old.keys
  pub begun : AreUnderWay deps old.keys new.order after
  pub same : visits_rest deps after new.order ≡ visits_rest deps before old.order
  pub fewer : frames_weight deps after < frames_weight deps before
