-- A graph passes no limit, and refuses a task for the limit that is passed with it.
use Rattle.std.proofs.Common.{◌≡◌, ℕ, suc, ◌+◌, ◌≤◌, cond, Bool, true, false, List, [], ◌∷◌, length, map, get_or, refl, ap, ◌∙◌, append_assoc, arith, Option, Some, None}
use Rattle.std.specs.Prelude.{nat_lt}
use Rattle.std.proofs.lemmas.List.{length-map}
use Rattle.std.proofs.lemmas.Bool.{le-ltb}
use Rattle.cluster_msgs.specs.Shape.{IsShape, edge_count}
use Rattle.task_graph.specs.declared.graph.Task.{Task}
use Rattle.task_graph.specs.declared.graph.PushError.TheVariants as pushing
use Rattle.task_graph.specs.declared.limit.Quantity.{Quantity}
use Rattle.task_graph.specs.declared.limit.Quantity.TheVariants.{Keys, Edges, BlockBytes}
use Rattle.task_graph.specs.Graphs.{shape_of}
use Rattle.task_graph.specs.Pushes.{first_bad, limit_passed, first_refusal, refusal_of}
use Rattle.lowering_laws.specs.Growth.{edges_of, LawOfRefusal}
use Rattle.lowering_laws.specs.Lowered.{limit_from}
use Rattle.lowering_laws.proofs.Growing.{refusal-law}
use Rattle.block_lowering.specs.Growing.{Refuses}
use Rattle.block_lowering.specs.declared.error.LowerError.TheVariants.{Limit}

-- none of three tests holds
passes : (a b c : Bool) (x y z : Quantity) (more : Option Quantity) → a ≡ false → b ≡ false → c ≡ false → cond a (Some x) (cond b (Some y) (cond c (Some z) more)) ≡ more
passes true b c x y z more h i j = absurd cc
passes false true c x y z more h i j = absurd cc
passes false false true x y z more h i j = absurd cc
passes false false false x y z more h i j = refl

within-from : (tasks : List Task) (keys edges : ℕ) → keys + length tasks ≤ 32768 → edges + edges_of tasks ≤ 262144 → ((k : ℕ) → get_or (map (λ (t : Task). t.nbytes) tasks) k 0 ≤ 134217728) → limit_from keys edges tasks ≡ None
within-from [] keys edges few few_edges small = refl
within-from (t ∷ ts) keys edges few few_edges small =
    passes (nat_lt 32767 keys) (nat_lt 262144 (edges + length t.deps)) (nat_lt 134217728 t.nbytes) Keys Edges BlockBytes (limit_from (suc keys) (edges + length t.deps) ts)
    (le-ltb 32767 keys (omega arith)) (le-ltb 262144 (edges + length t.deps) (omega arith)) (le-ltb 134217728 t.nbytes (small 0))
    ∙ within-from ts (suc keys) (edges + length t.deps) (omega arith) (omega arith) (λ k. small (suc k))

pub within : (tasks : List Task) → IsShape (shape_of tasks) → limit_from 0 0 tasks ≡ None
within tasks s =
    let few : length tasks ≤ 32768 = omega (arith, length-map tasks (λ (t : Task). t.deps), s.few) in
    within-from tasks 0 0 (omega arith) (omega (arith, s.few_edges)) s.small

-- the limit, where a graph refuses for one
limit-of : (d : Option ℕ) (p : Option Quantity) (q : Quantity) → first_refusal d p ≡ Some (pushing.Limit q) → p ≡ Some q
limit-of (Some d) p q h = absurd cc
limit-of None (Some p) q h = cc
limit-of None None q h = absurd cc

pub refuses-limit : (old : List Task) (t : Task) (q : Quantity) → IsShape (shape_of old) → refusal_of old t ≡ Some (pushing.Limit q) → Refuses old (t ∷ []) (Limit q)
refuses-limit old t q s h =
    let law : LawOfRefusal old t = refusal-law old t in
    λ rest. ap (limit_from 0 0) (append_assoc old (t ∷ []) rest)
    ∙ law.refused q rest (within old s) (limit-of (first_bad (length old) 0 t.deps) (limit_passed (length old) (edge_count (shape_of old)) t) q h)
