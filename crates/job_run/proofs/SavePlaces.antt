-- The place of a save among the files, and the layout of its node.
use Rattle.std.proofs.Common.{◌≡◌, ℕ, ◌<◌, List, length, map, get_or, ap, subst, ◌∙◌, arith}
use Rattle.std.proofs.lemmas.List.{get_or-map, length-map}
use Rattle.array_expr.specs.Node.{shape_at, IsExpression}
use Rattle.chunk_layout.specs.Layouts.{lengths}
use Rattle.lowering_laws.specs.Named.{layout_of}
use Rattle.job_plan.specs.declared.job.Job.{Job}
use Rattle.job_plan.specs.declared.job.Save.{Save}
use Rattle.job_run.specs.Evaluating.{node_at}
use Rattle.job_run.specs.Jobs.{plan_of, saved_of}
use Rattle.job_run.specs.Plan.{Plan, Saved, IsRunnable, nodes_saved}
use Rattle.job_run.proofs.SavedArrays.{layout-cuts}
use Rattle.job_run.proofs.SavesList.{saved_node}

-- a save of this node stands at this place, and this is the node's layout
pub record IsPlace (p : Plan) (place node : ℕ) (layout : List (List ℕ)) : Type 0 where
  pub here : place < length p.saves
  pub node_is : node_at p place ≡ node
  pub layout_is : layout ≡ layout_of p.nodes node
  pub cut : lengths layout ≡ shape_at p.nodes node

layout-at : (p : Plan) (layouts : List (List (List ℕ))) (place : ℕ) (layout : List (List ℕ)) → layouts ≡ map (layout_of p.nodes) (nodes_saved p) → place < length p.saves → layout ≡ get_or layouts place layout → layout ≡ layout_of p.nodes (node_at p place)
layout-at p layouts place layout all here is =
    is ∙ ap (λ ls. get_or ls place layout) all ∙ get_or-map (layout_of p.nodes) (nodes_saved p) place 0 layout (omega (arith, here, length-map p.saves (λ (s : Saved). s.node)))

pub place-node : (job : Job) (saves : List Save) (place : ℕ) (save : Save) → saves ≡ job.saves.items → place < length saves → save ≡ get_or saves place save → node_at (plan_of job) place ≡ save.node
place-node job saves place save same lt is =
    saved_node job.saves.items place save (subst (λ (l : List Save). place < length l) same lt) (subst (λ (l : List Save). save ≡ get_or l place save) same is)

pub place-here : (job : Job) (saves : List Save) (place : ℕ) → saves ≡ job.saves.items → place < length saves → place < length (plan_of job).saves
place-here job saves place same lt = omega (arith, lt, ap (λ (l : List Save). length l) same, length-map job.saves.items saved_of)

pub save-place : (job : Job) (saves : List Save) (layouts : List (List (List ℕ))) (place node : ℕ) (save : Save) (layout : List (List ℕ)) → IsRunnable (plan_of job) → IsExpression job.expr → layouts ≡ map (layout_of job.expr) (nodes_saved (plan_of job))
    → saves ≡ job.saves.items → place < length saves → save ≡ get_or saves place save → save.node ≡ node → layout ≡ get_or layouts place layout → IsPlace (plan_of job) place node layout
save-place job saves layouts place node save layout runs ex all same lt is e at =
    let p = plan_of job in
    let here : place < length (plan_of job).saves = place-here job saves place same lt in
    let node-is : node_at (plan_of job) place ≡ node = place-node job saves place save same lt is ∙ e in
    let layout-is : layout ≡ layout_of job.expr node = layout-at p layouts place layout all here at ∙ ap (layout_of job.expr) node-is in
    record {
      here = here;
      node_is = node-is;
      layout_is = layout-is;
      cut = ap lengths layout-is ∙ layout-cuts job.expr node ex (subst (λ n. n < length job.expr) node-is (runs.saves place here));
    }
