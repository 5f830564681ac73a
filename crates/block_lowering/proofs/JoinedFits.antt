-- Operands of a concatenation that are brought to a layout, one after another.
use Rattle.std.proofs.Common.{◌≡◌, ℕ, ◌+◌, ◌<◌, List, [], ◌∷◌, ◌++◌, length, drop, get_or, ap, sym, ◌∙◌, append_assoc, length-append}
use Rattle.std.specs.Prelude.{slice_set}
use Rattle.std.proofs.lemmas.List.{drop_more}
use Rattle.task_graph.specs.declared.graph.Task.{Task}
use Rattle.lowering_laws.specs.Sources.{Source, Made, fitted}
use Rattle.lowering_laws.specs.Stages.{Fitted, then_sources, fitted_along}
use Rattle.block_lowering.specs.Args.{AreCommon}
use Rattle.block_lowering.specs.Growing.{Refuses, IsGrown}
use Rattle.block_lowering.specs.Joining.{sizes_along}
use Rattle.block_lowering.specs.declared.error.LowerError.{LowerError}
use Rattle.block_lowering.proofs.Refusing.{refuses-more, refuses-moved}

-- what is done and what is left give all
pub record FittedTo (common : List (List ℕ)) (axis : ℕ) (sources : List Source) (old graph : List Task) (done : List Source) (k : ℕ) : Type 0 where
  pub tasks : graph ++ (fitted_along common axis (drop k sources) (length graph)).tasks ≡ old ++ (fitted_along common axis sources (length old)).tasks
  pub sources_are : done ++ (fitted_along common axis (drop k sources) (length graph)).sources ≡ (fitted_along common axis sources (length old)).sources

-- one operand in its layout
abbrev pub fitted_one : List (List ℕ) → ℕ → ℕ → Source → Made
fitted_one common axis base s = fitted base s (slice_set common axis (sizes_along axis s))

-- the axes with the operand's own cut are the common ones with that cut
pub fitted-target : (common axes : List (List ℕ)) (axis base : ℕ) (s x : Source) (target : List (List ℕ)) (own : List ℕ) → AreCommon common axis axes → target ≡ slice_set axes axis own → own ≡ sizes_along axis x → x ≡ s
    → fitted base x target ≡ fitted_one common axis base s
fitted-target common axes axis base s x target own h t o e =
    ap (fitted base x) (t ∙ ap (slice_set axes axis) o ∙ h.others (sizes_along axis x)) ∙ ap (λ (z : Source). fitted base z (slice_set common axis (sizes_along axis z))) e

-- what is left of the operands begins with the next one
next : (common : List (List ℕ)) (axis : ℕ) (sources : List Source) (graph : List Task) (k : ℕ) (s : Source) → k < length sources
    → fitted_along common axis (drop k sources) (length graph)
    ≡ then_sources (fitted_one common axis (length graph) (get_or sources k s)) (fitted_along common axis (drop (k + 1) sources)) (length graph)
next common axis sources graph k s lt = ap (λ (ss : List Source). fitted_along common axis ss (length graph)) (drop_more sources k s lt)

pub fitted-more : (common : List (List ℕ)) (axis : ℕ) (sources : List Source) (old graph new : List Task) (done : List Source) (k : ℕ) (s made : Source) → k < length sources
    → IsGrown graph (fitted_one common axis (length graph) (get_or sources k s)) new made → FittedTo common axis sources old graph done k
    → FittedTo common axis sources old new (done ++ made ∷ []) (k + 1)
fitted-more common axis sources old graph new done k s made lt grown f =
    let m : Made = fitted_one common axis (length graph) (get_or sources k s) in
    let n = next common axis sources graph k s lt in
    let count : length new ≡ length graph + length m.tasks = ap length grown.tasks ∙ length-append graph m.tasks in
    let rest = fitted_along common axis (drop (k + 1) sources) in
    record {
      tasks =
          ap (λ (ts : List Task). ts ++ (rest (length new)).tasks) grown.tasks ∙ append_assoc graph m.tasks (rest (length new)).tasks ∙ ap (λ j. graph ++ (m.tasks ++ (rest j).tasks)) count
          ∙ ap (λ (x : Fitted). graph ++ x.tasks) (sym n) ∙ f.tasks;
      sources_are =
          append_assoc done (made ∷ []) (rest (length new)).sources ∙ ap (λ (x : Source). done ++ x ∷ (rest (length new)).sources) grown.source ∙ ap (λ j. done ++ m.source ∷ (rest j).sources) count
          ∙ ap (λ (x : Fitted). done ++ x.sources) (sym n) ∙ f.sources_are;
    }

pub fitted-refused : (common : List (List ℕ)) (axis : ℕ) (sources : List Source) (old graph : List Task) (done : List Source) (k : ℕ) (s : Source) (e : LowerError) → k < length sources
    → Refuses graph (fitted_one common axis (length graph) (get_or sources k s)).tasks e → FittedTo common axis sources old graph done k
    → Refuses old (fitted_along common axis sources (length old)).tasks e
fitted-refused common axis sources old graph done k s e lt r f =
    let m : Made = fitted_one common axis (length graph) (get_or sources k s) in
    let rest = fitted_along common axis (drop (k + 1) sources) in
    refuses-moved graph (m.tasks ++ (rest (length graph + length m.tasks)).tasks) old (fitted_along common axis sources (length old)).tasks e
    (ap (λ (x : Fitted). graph ++ x.tasks) (sym (next common axis sources graph k s lt)) ∙ f.tasks) (refuses-more graph m.tasks (rest (length graph + length m.tasks)).tasks e r)
