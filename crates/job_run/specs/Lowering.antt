-- The graph of a plan, made.
use Rattle.std.specs.Prelude.{◌≡◌, ◌<◌, ℕ, List, length, map, Option, Some, None}
use Rattle.array_expr.specs.declared.expr.Node.{Node}
use Rattle.chunk_layout.specs.Layouts.{counts, blocks}
use Rattle.lowering_laws.specs.Sources.{Source}
use Rattle.lowering_laws.specs.Lowered.{lowered, lowering, limit_of}
use Rattle.lowering_laws.specs.Named.{layout_of}
use Rattle.block_lowering.specs.declared.finish.Lowered.{Lowered}
use Rattle.job_run.specs.declared.ends.Ended.{Ended}
use Rattle.job_run.specs.declared.ends.Ended.TheVariants.{Limit, OutOfMemory}
use Rattle.job_run.specs.Plan.{Plan, nodes_saved}
use Rattle.job_run.specs.Runs.{IsSmall}

-- how many chunks each node's array has on each axis
abbrev pub counts_made : List Node → List (List ℕ)
counts_made nodes = map (λ (s : Source). counts s.layout) (lowering nodes).sources

-- the name is a block's, where there is one
abbrev pub HasBlock : List Node → Option (ℕ × ℕ) → Type 0
HasBlock nodes None = Unit {0}
HasBlock nodes (Some x) = (x.0 < length nodes) × (x.1 < blocks (layout_of nodes x.0))

-- these are the tasks, the names and the saved keys of a plan that passes no limit
pub record IsGraphOf (p : Plan) (l : Lowered) : Type 0 where
  pub small : IsSmall p
  pub tasks : l.graph ≡ (lowered p.nodes (nodes_saved p)).tasks
  pub names : l.names ≡ (lowered p.nodes (nodes_saved p)).names
  pub saved : l.saved ≡ (lowered p.nodes (nodes_saved p)).saved
  pub layouts : l.layouts ≡ map (layout_of p.nodes) (nodes_saved p)
  pub blocks : l.blocks ≡ counts_made p.nodes

-- why there is no graph
abbrev pub LowerCause : Plan → Ended → Type 0
LowerCause p (Limit quantity) = limit_of p.nodes ≡ Some quantity
LowerCause p OutOfMemory = Unit {0}
LowerCause p end = ⊥
