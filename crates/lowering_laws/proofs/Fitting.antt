-- Arrays in another layout.
use Rattle.std.proofs.Common.{◌≡◌, ℕ, cond, Bool, true, false, List, [], ◌∷◌, map, get_or, refl, ap, sym, ◌∙◌, arith, ℤ}
use Rattle.std.specs.Prelude.{nat_eq}
use Rattle.std.proofs.lemmas.List.{length-map, get_or-map}
use Rattle.std.proofs.lemmas.Bool.{and_parts, eqb-true}
use Rattle.nd_grid.specs.Grid.{Grid}
use Rattle.chunk_layout.specs.Layouts.{lengths}
use Rattle.chunk_layout.specs.Plans.{Overlap, chunks_in, parts}
use Rattle.cluster_msgs.specs.Dags.{IsEarlier}
use Rattle.cluster_msgs.specs.Shape.{deps_of}
use Rattle.task_graph.specs.declared.graph.Task.{Task}
use Rattle.task_graph.specs.Graphs.{shape_of}
use Rattle.task_graph.proofs.Making.{input-at}
use Rattle.lowering_laws.specs.Sources.{Source, Made, key_at, rechunk_task, rechunked, same_sizes, same_layout, fitted}
use Rattle.lowering_laws.specs.Law.{Carries, Stand}
use Rattle.lowering_laws.proofs.Carrying.{carries-each, input-holds}
use Rattle.lowering_laws.proofs.Pieces.{assembled-local}

abbrev dep_of : Source → List Overlap → ℕ
dep_of s os = key_at s (chunks_in os)

pub carries-rechunked : (files : ℕ → List ℕ → ℤ) (tasks : List Task) → IsEarlier (deps_of (shape_of tasks)) → (s : Source) (g : Grid) (layout : List (List ℕ)) (base : ℕ) → Carries files tasks s g → lengths layout ≡ g.shape
    → Stand tasks base (rechunked base s layout).tasks → Carries files tasks (rechunked base s layout).source g
carries-rechunked files tasks e s g layout base c shape stand =
    carries-each files tasks e base layout (rechunk_task s layout) g shape stand (λ bs h. record {
      holds = λ blocks v. assembled-local _ g s.layout layout bs (c.shape ∙ sym shape) h (λ j lt inside.
          input-holds files tasks s g (chunks_in (get_or (parts s.layout layout bs) j [])) blocks j c inside
          (input-at files tasks (map (dep_of s) (parts s.layout layout bs)) blocks j (key_at s (chunks_in (get_or (parts s.layout layout bs) j []))) v
          (omega (arith, length-map (parts s.layout layout bs) (dep_of s))) (get_or-map (dep_of s) (parts s.layout layout bs) j [] 0 lt)));
    })

-- ---- where the layouts are the same

same-sizes : (as' bs : List ℕ) → same_sizes as' bs ≡ true → as' ≡ bs
same-sizes [] [] h = refl
same-sizes [] (b ∷ bs) h = cc
same-sizes (a ∷ as') [] h = cc
same-sizes (a ∷ as') (b ∷ bs) h =
    let p = and_parts (nat_eq a b) (same_sizes as' bs) h in
    ap (λ x. x ∷ as') (eqb-true a b p.0) ∙ ap (λ xs. b ∷ xs) (same-sizes as' bs p.1)

pub same-layout : (as' bs : List (List ℕ)) → same_layout as' bs ≡ true → as' ≡ bs
same-layout [] [] h = refl
same-layout [] (b ∷ bs) h = cc
same-layout (a ∷ as') [] h = cc
same-layout (a ∷ as') (b ∷ bs) h =
    let p = and_parts (same_sizes a b) (same_layout as' bs) h in
    ap (λ x. x ∷ as') (same-sizes a b p.0) ∙ ap (λ xs. b ∷ xs) (same-layout as' bs p.1)

-- an array is in the layout that it is fitted to
pub fitted-layout : (s : Source) (layout : List (List ℕ)) (base : ℕ) → (fitted base s layout).source.layout ≡ layout
fitted-layout s layout base = in-case (same_layout s.layout layout) (same-layout s.layout layout)
  where
    in-case : (c : Bool) → (c ≡ true → s.layout ≡ layout) → (cond {A = Made} c (record { tasks = []; source = s }) (rechunked base s layout)).source.layout ≡ layout
    in-case true h = h refl
    in-case false h = refl

-- the array in this layout holds the same
pub record IsFitted (files : ℕ → List ℕ → ℤ) (tasks : List Task) (layout : List (List ℕ)) (g : Grid) (s : Source) : Type 0 where
  pub carries : Carries files tasks s g
  pub layout_is : s.layout ≡ layout

fitted-case : (files : ℕ → List ℕ → ℤ) (tasks : List Task) → IsEarlier (deps_of (shape_of tasks)) → (s : Source) (g : Grid) (layout : List (List ℕ)) (base : ℕ) (b : Bool) → Carries files tasks s g → lengths layout ≡ g.shape
    → (b ≡ true → s.layout ≡ layout) → Stand tasks base (cond b (record { tasks = []; source = s }) (rechunked base s layout)).tasks
    → IsFitted files tasks layout g (cond b (record { tasks = []; source = s }) (rechunked base s layout)).source
fitted-case files tasks e s g layout base true c shape same stand = record { carries = c; layout_is = same refl }
fitted-case files tasks e s g layout base false c shape same stand = record { carries = carries-rechunked files tasks e s g layout base c shape stand; layout_is = refl }

pub carries-fitted : (files : ℕ → List ℕ → ℤ) (tasks : List Task) → IsEarlier (deps_of (shape_of tasks)) → (s : Source) (g : Grid) (layout : List (List ℕ)) (base : ℕ) → Carries files tasks s g → lengths layout ≡ g.shape
    → Stand tasks base (fitted base s layout).tasks → IsFitted files tasks layout g (fitted base s layout).source
carries-fitted files tasks e s g layout base c shape stand = fitted-case files tasks e s g layout base (same_layout s.layout layout) c shape (same-layout s.layout layout) stand
