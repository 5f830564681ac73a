-- Under new numbers the inputs of each task still have the shapes that its dependencies make.
use Rattle.std.proofs.Common.{◌≡◌, ℕ, ◌<◌, List, [], ◌∷◌, ◌++◌, length, map, get_or, refl, ap, sym, subst, ◌∙◌, arith, eq-eqb}
use Rattle.std.specs.Prelude.{nat_eq, Contains}
use Rattle.std.proofs.lemmas.List.Sums.{position_or_len_is}
use Rattle.std.proofs.lemmas.List.{length-map, get_or-map}
use Rattle.small_facts.proofs.Every.{all_from_members}
use Rattle.nd_grid.specs.Grid.{kept_shape}
use Rattle.nd_grid.proofs.Turning.{position-below, position-at}
use Rattle.cluster_msgs.proofs.Dags.{map-same}
use Rattle.block_kernels.specs.Kernels.{input_shapes, result_shape}
use Rattle.block_kernels.specs.declared.spec.Spec.{Spec}
use Rattle.block_kernels.specs.declared.spec.Spec.TheVariants.{Elementwise, Where, Slice, Transpose, Assemble, Reduce, Contract, Fill, Load}
use Rattle.task_graph.specs.declared.graph.Task.{Task}
use Rattle.task_graph.specs.Graphs.{task_at}
use Rattle.task_graph.specs.Orders.{position, ascending, moved_spec, inputs_of, renumbered}
use Rattle.task_graph.specs.Numberings.{PlacesFit, AreFit, IsNumbering}
use Rattle.task_graph.proofs.Keys.{ascending-has}
use Rattle.task_graph.proofs.Renumbered.{AreOnce, ascending-from, keys-once, task-moved, contains-at}
use Rattle.task_graph.proofs.Moved.{place_now, shapes_now, place-below, shape-now}
use Rattle.lowering_laws.proofs.Fed.{dims_at}

-- the shape of the input that stood at a place
pub shape-at-now : (keys : List ℕ) (inputs : List (List ℕ)) (p : ℕ) → AreOnce keys → p < length keys → get_or (shapes_now keys inputs) (place_now keys p) [] ≡ get_or inputs p []
shape-at-now keys inputs p o h =
    let has : Contains (ascending keys) (get_or keys p 0) = ascending-has keys (get_or keys p 0) (contains-at keys p h) in
    get_or-map (λ k. get_or inputs (position keys k) []) (ascending keys) (place_now keys p) 0 [] (place-below keys p h)
    ∙ ap (λ k. get_or inputs (position keys k) []) (position-at (ascending keys) (get_or keys p 0) has) ∙ ap (λ q. get_or inputs q []) (o.at p h)

pub reduced-now : (keys : List ℕ) (inputs : List (List ℕ)) (axes : List ℕ) → length inputs ≡ length keys → ((q : ℕ) → q < length keys → kept_shape 0 (get_or inputs q []) axes ≡ kept_shape 0 (get_or inputs 0 []) axes)
    → kept_shape 0 (get_or (shapes_now keys inputs) 0 []) axes ≡ kept_shape 0 (get_or inputs 0 []) axes
reduced-now [] [] axes n same = refl
reduced-now [] (x ∷ inputs) axes n same = absurd (omega arith)
reduced-now (k ∷ keys) inputs axes n same =
    let has : Contains (ascending (k ∷ keys)) k = ascending-has (k ∷ keys) k (0, omega arith, refl) in
    shape-now (k ∷ keys) inputs axes 0 same (let b = has.1 in omega arith)

pub result-moved : (keys : List ℕ) (spec : Spec) → AreOnce keys → PlacesFit spec (length keys) → result_shape (moved_spec (place_now keys) (shapes_now keys (inputs_of spec)) spec) ≡ result_shape spec
result-moved keys (Elementwise op left right inputs shape) o h = refl
result-moved keys (Where condition first second inputs shape) o h = refl
result-moved keys (Slice steps dropped input) o h = refl
result-moved keys (Transpose axes input) o h = refl
result-moved keys (Assemble pieces inputs shape) o h = refl
result-moved keys (Reduce fold axes inputs) o h = reduced-now keys inputs axes h.0 h.1
result-moved keys (Contract left right left_axes right_axes inputs) o h =
    ap (λ ns. kept_shape 0 ns left_axes ++ kept_shape 0 (get_or (shapes_now keys inputs) (place_now keys right) []) right_axes) (shape-at-now keys inputs left o h.0)
    ∙ ap (λ ns. kept_shape 0 (get_or inputs left []) left_axes ++ kept_shape 0 ns right_axes) (shape-at-now keys inputs right o h.1)
result-moved keys (Fill dims region start step) o h = refl
result-moved keys (Load input region) o h = refl

one-now : (keys : List ℕ) (input : List ℕ) → length keys ≡ 1 → shapes_now keys (input ∷ []) ≡ input ∷ []
one-now [] input h = absurd (omega arith)
one-now (k ∷ []) input h = ap (λ p. get_or (input ∷ []) p [] ∷ []) (same k)
  where
    same : (k : ℕ) → position (k ∷ []) k ≡ 0
    same k = position_or_len_is (nat_eq k) (k ∷ []) 0 0 (omega arith) (λ j h. absurd (omega arith)) (λ h. eq-eqb k k refl)
one-now (k ∷ j ∷ keys) input h = absurd (omega arith)

none-now : (keys : List ℕ) → length keys ≡ 0 → shapes_now keys [] ≡ []
none-now [] h = refl
none-now (k ∷ keys) h = absurd (omega arith)

inputs-moved : (keys : List ℕ) (spec : Spec) → PlacesFit spec (length keys) → length keys ≡ length (input_shapes spec) → shapes_now keys (input_shapes spec) ≡ input_shapes (moved_spec (place_now keys) (shapes_now keys (inputs_of spec)) spec)
inputs-moved keys (Elementwise op left right inputs shape) h n = refl
inputs-moved keys (Where condition first second inputs shape) h n = refl
inputs-moved keys (Slice steps dropped input) h n = one-now keys input h
inputs-moved keys (Transpose axes input) h n = one-now keys input h
inputs-moved keys (Assemble pieces inputs shape) h n = refl
inputs-moved keys (Reduce fold axes inputs) h n = refl
inputs-moved keys (Contract left right left_axes right_axes inputs) h n = refl
inputs-moved keys (Fill dims region start step) h n = none-now keys n
inputs-moved keys (Load input region) h n = none-now keys n

pub number-of-keys : (tasks : List Task) (order : List ℕ) (old : ℕ) → length (task_at tasks old).deps ≡ length (map (position order) (task_at tasks old).deps)
number-of-keys tasks order old = sym (length-map (task_at tasks old).deps (position order))

-- what a key makes under its new number
pub dims-moved : (tasks : List Task) (order : List ℕ) (j : ℕ) → AreFit tasks → IsNumbering tasks order → j < length order → dims_at (renumbered tasks order) j ≡ dims_at tasks (get_or order j 0)
dims-moved tasks order j f n lt =
    let old = get_or order j 0 in
    let keys = map (position order) (task_at tasks (get_or order j 0)).deps in
    ap (λ (t : Task). result_shape t.spec) (task-moved tasks order j lt)
    ∙ result-moved keys (task_at tasks (get_or order j 0)).spec (keys-once tasks order j f n lt) (subst (PlacesFit (task_at tasks (get_or order j 0)).spec) (number-of-keys tasks order (get_or order j 0)) (f.places (get_or order j 0)))

pub fed-moved : (tasks : List Task) (order : List ℕ) (j : ℕ) → AreFit tasks → IsNumbering tasks order → ((k : ℕ) → map (dims_at tasks) (task_at tasks k).deps ≡ input_shapes (task_at tasks k).spec) → j < length order
    → map (dims_at (renumbered tasks order)) (task_at (renumbered tasks order) j).deps ≡ input_shapes (task_at (renumbered tasks order) j).spec
fed-moved tasks order j f n fed lt =
    let old = get_or order j 0 in
    let t = task_at tasks (get_or order j 0) in
    let deps = (task_at tasks (get_or order j 0)).deps in
    let keys = map (position order) (task_at tasks (get_or order j 0)).deps in
    let new = renumbered tasks order in
    let number : length deps ≡ length keys = number-of-keys tasks order (get_or order j 0) in
    let fits : PlacesFit t.spec (length keys) = subst (PlacesFit (task_at tasks (get_or order j 0)).spec) number (f.places (get_or order j 0)) in
    let count : length keys ≡ length (input_shapes t.spec) = sym number ∙ sym (length-map deps (dims_at tasks)) ∙ ap (λ (nss : List (List ℕ)). length nss) (fed (get_or order j 0)) in
    let each : map (dims_at new) (ascending keys) ≡ shapes_now keys (input_shapes t.spec) =
    map-same (dims_at new) (λ k. get_or (input_shapes t.spec) (position keys k) []) (ascending keys) (all_from_members (λ k. dims_at new k ≡ get_or (input_shapes t.spec) (position keys k) []) (ascending keys) (λ k c.
    let has : Contains keys k = ascending-from keys k c in
    let p = position keys k in
    let below : position keys k < length keys = position-below keys k has in
    let at : get_or keys (position keys k) 0 ≡ k = position-at keys k has in
    let lp : position keys k < length deps = omega arith in
    let d = get_or deps (position keys k) 0 in
    let key : get_or keys (position keys k) 0 ≡ position order (get_or deps (position keys k) 0) = get_or-map (position order) deps (position keys k) 0 0 lp in
    let there : Contains order (get_or deps (position keys k) 0) = n.there j (get_or deps (position keys k) 0) lt (contains-at deps (position keys k) lp) in
    ap (dims_at new) (sym at ∙ key)
    ∙ dims-moved tasks order (position order (get_or deps (position keys k) 0)) f n (position-below order (get_or deps (position keys k) 0) there)
    ∙ ap (dims_at tasks) (position-at order (get_or deps (position keys k) 0) there)
    ∙ sym (get_or-map (dims_at tasks) deps (position keys k) 0 [] lp)
    ∙ ap (λ nss. get_or nss (position keys k) []) (fed (get_or order j 0)))) in
    subst (λ (u : Task). map (dims_at new) u.deps ≡ input_shapes u.spec) (sym (task-moved tasks order j lt)) (each ∙ inputs-moved keys t.spec fits count)
