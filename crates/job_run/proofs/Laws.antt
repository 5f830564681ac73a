-- What the laws of lowering ask of a plan, and how many blocks its arrays have.
use Rattle.std.proofs.Common.{◌≡◌, ℕ, ◌<◌, List, length, get_or, ap, sym, subst, ◌∙◌, arith}
use Rattle.std.specs.Prelude.{All}
use Rattle.std.proofs.lemmas.Grind.{get_or_default_zero}
use Rattle.std.proofs.lemmas.List.{get_or-map, length-map}
use Rattle.array_expr.specs.declared.expr.Node.{Node}
use Rattle.array_expr.specs.Node.{IsExpression}
use Rattle.chunk_layout.specs.Layouts.{counts}
use Rattle.lowering_laws.specs.Sources.{Source}
use Rattle.lowering_laws.specs.Stages.{no_source}
use Rattle.lowering_laws.specs.Lowered.{lowering}
use Rattle.lowering_laws.specs.Named.{layout_of}
use Rattle.block_lowering.proofs.Ready.{sources-all}
use Rattle.job_run.specs.Lowering.{counts_made}
use Rattle.job_run.specs.Plan.{Plan, Saved, IsRunnable, nodes_saved}

-- the nodes that are saved are there
pub saves-there : (p : Plan) → IsRunnable p → All (λ n. n < length p.nodes) (nodes_saved p)
saves-there p runs k d lt =
    subst (λ n. n < length p.nodes) (sym (get_or_default_zero (nodes_saved p) k d lt)) (runs.saves k (omega (arith, lt, length-map p.saves (λ (s : Saved). s.node))))

pub count-there : (nodes : List Node) (blocks : List (List ℕ)) (node : ℕ) → IsExpression nodes → blocks ≡ counts_made nodes → node < length nodes → node < length blocks
count-there nodes blocks node ex all lt = omega (arith, lt, ap (λ (l : List (List ℕ)). length l) all, length-map (lowering nodes).sources (λ (s : Source). counts s.layout), sources-all nodes ex)

pub count-at : (nodes : List Node) (blocks : List (List ℕ)) (node : ℕ) (block : List ℕ) → IsExpression nodes → blocks ≡ counts_made nodes → node < length nodes → block ≡ get_or blocks node block → block ≡ counts (layout_of nodes node)
count-at nodes blocks node block ex all lt is =
    is ∙ ap (λ ls. get_or ls node block) all ∙ get_or-map (λ (s : Source). counts s.layout) (lowering nodes).sources node no_source block (omega (arith, lt, sources-all nodes ex))
