-- Nodes are lowered one after another, and limits are met in the order of making.
use Rattle.std.proofs.Common.{◌≡◌, ℕ, suc, ◌+◌, ◌<◌, cond, Bool, true, false, List, [], ◌∷◌, ◌++◌, length, take, drop, get_or, refl, ap, sym, ◌∙◌, arith, Some, None}
use Rattle.std.specs.Prelude.{nat_lt, slice_get, Option}
use Rattle.std.proofs.lemmas.List.{take_more, take_all, length-take-le, take-append-drop}
use Rattle.std.proofs.lemmas.Option.{slice_get_within, get_or_from_slice_get}
use Rattle.array_expr.specs.declared.expr.Node.{Node}
use Rattle.task_graph.specs.declared.graph.Task.{Task}
use Rattle.task_graph.specs.declared.limit.Quantity.{Quantity}
use Rattle.task_graph.specs.declared.limit.Quantity.TheVariants.{Keys, Edges, BlockBytes}
use Rattle.lowering_laws.specs.Lowered.{no_node, lower_op, Lowering, with_made, lower_from, lowering, limit_from}
use Rattle.lowering_laws.specs.Growth.{lowering_to, edges_of, IsFront, LawOfGrowth, LawOfRefusal}
use Rattle.lowering_laws.proofs.Lowering.{lower-extends}

-- ---- nodes

lower-append : (nodes xs ys : List Node) (n : ℕ) (l : Lowering) → lower_from nodes n l (xs ++ ys) ≡ lower_from nodes (n + length xs) (lower_from nodes n l xs) ys
lower-append nodes [] ys n l = let z : n + 0 ≡ n = omega arith in ap (λ k. lower_from nodes k l ys) (sym z)
lower-append nodes (x ∷ xs) ys n l =
    let z : suc n + length xs ≡ n + suc (length xs) = omega arith in
    let l' = with_made l n (lower_op nodes l.sources n x.taken x.shape x.op (length l.tasks)) in
    lower-append nodes xs ys (suc n) (with_made l n (lower_op nodes l.sources n x.taken x.shape x.op (length l.tasks)))
    ∙ ap (λ k. lower_from nodes k (lower_from nodes (suc n) (with_made l n (lower_op nodes l.sources n x.taken x.shape x.op (length l.tasks))) xs) ys) z

abbrev none-lowered : Lowering
none-lowered = record { tasks = []; names = []; sources = [] }

next-node : (nodes : List Node) (n : ℕ) (x : Node) → slice_get nodes n ≡ Some x
    → lowering_to nodes (n + 1) ≡ with_made (lowering_to nodes n) n (lower_op nodes (lowering_to nodes n).sources n x.taken x.shape x.op (length (lowering_to nodes n).tasks))
next-node nodes n x is =
    let lt : n < length nodes = slice_get_within nodes n x is in
    let more : take (n + 1) nodes ≡ take n nodes ++ get_or nodes n no_node ∷ [] = take_more nodes n no_node lt in
    let at : get_or nodes n no_node ≡ x = get_or_from_slice_get nodes n x no_node is in
    let count : 0 + length (take n nodes) ≡ n = omega (arith, length-take-le n nodes (omega arith)) in
    ap (λ xs. lower_from nodes 0 none-lowered xs) (more ∙ ap (λ (y : Node). take n nodes ++ y ∷ []) at)
    ∙ lower-append nodes (take n nodes) (x ∷ []) 0 none-lowered
    ∙ ap (λ k. lower_from nodes k (lowering_to nodes n) (x ∷ [])) count

front-of : (nodes : List Node) (n : ℕ) → IsFront (lowering_to nodes n).tasks (lowering nodes).tasks
front-of nodes n =
    let whole : take n nodes ++ drop n nodes ≡ nodes = take-append-drop n nodes in
    let split : lowering nodes ≡ lower_from nodes (0 + length (take n nodes)) (lowering_to nodes n) (drop n nodes) =
    ap (λ xs. lower_from nodes 0 none-lowered xs) (sym whole) ∙ lower-append nodes (take n nodes) (drop n nodes) 0 none-lowered in
    let e = lower-extends nodes (0 + length (take n nodes)) (lowering_to nodes n) (drop n nodes) in
    record { rest = e.tasks; all_is = ap (λ (l : Lowering). l.tasks) split ∙ e.tasks_are }

pub growth-law : (nodes : List Node) → LawOfGrowth nodes
growth-law nodes = record {
  next = next-node nodes;
  end = ap (λ xs. lower_from nodes 0 none-lowered xs) (take_all (length nodes) nodes (omega arith));
  front = λ n h. front-of nodes n;
}

-- ---- limits

-- none of three tests holds, so that what follows decides
passed : (a b c : Bool) (x y z : Quantity) (more other : Option Quantity) → cond a (Some x) (cond b (Some y) (cond c (Some z) more)) ≡ None
    → (more ≡ None) × (cond a (Some x) (cond b (Some y) (cond c (Some z) other)) ≡ other)
passed true b c x y z more other h = absurd cc
passed false true c x y z more other h = absurd cc
passed false false true x y z more other h = absurd cc
passed false false false x y z more other h = (h, refl)

-- behind tasks that pass no limit, what follows decides
limit-behind : (xs ys : List Task) (keys edges : ℕ) → limit_from keys edges xs ≡ None → limit_from keys edges (xs ++ ys) ≡ limit_from (keys + length xs) (edges + edges_of xs) ys
limit-behind [] ys keys edges h =
    let a : keys + 0 ≡ keys = omega arith in
    let b : edges + 0 ≡ edges = omega arith in
    ap (λ k. limit_from k edges ys) (sym a) ∙ ap (λ e. limit_from (keys + 0) e ys) (sym b)
limit-behind (t ∷ xs) ys keys edges h =
    let p = passed (nat_lt 32767 keys) (nat_lt 262144 (edges + length t.deps)) (nat_lt 134217728 t.nbytes) Keys Edges BlockBytes
    (limit_from (suc keys) (edges + length t.deps) xs) (limit_from (suc keys) (edges + length t.deps) (xs ++ ys)) h in
    let a : suc keys + length xs ≡ keys + suc (length xs) = omega arith in
    let b : edges + length t.deps + edges_of xs ≡ edges + (length t.deps + edges_of xs) = omega arith in
    p.1 ∙ limit-behind xs ys (suc keys) (edges + length t.deps) p.0
    ∙ ap (λ k. limit_from k (edges + length t.deps + edges_of xs) ys) a ∙ ap (λ e. limit_from (keys + suc (length xs)) e ys) b

-- a limit that the first passes is the answer
found : (a b c : Bool) (x y z q : Quantity) (more : Option Quantity) → cond a (Some x) (cond b (Some y) (cond c (Some z) None)) ≡ Some q → cond a (Some x) (cond b (Some y) (cond c (Some z) more)) ≡ Some q
found true b c x y z q more h = h
found false true c x y z q more h = h
found false false true x y z q more h = h
found false false false x y z q more h = absurd cc

from-none : (tasks rest : List Task) → limit_from 0 0 tasks ≡ None → limit_from 0 0 (tasks ++ rest) ≡ limit_from (length tasks) (edges_of tasks) rest
from-none tasks rest h =
    let a : 0 + length tasks ≡ length tasks = omega arith in
    let b : 0 + edges_of tasks ≡ edges_of tasks = omega arith in
    limit-behind tasks rest 0 0 h ∙ ap (λ k. limit_from k (0 + edges_of tasks) rest) a ∙ ap (λ e. limit_from (length tasks) e rest) b

pub refusal-law : (tasks : List Task) (t : Task) → LawOfRefusal tasks t
refusal-law tasks t = record {
  taken = λ h n. from-none tasks (t ∷ []) h ∙ n;
  refused = λ q rest h r. from-none tasks (t ∷ rest) h
      ∙ found (nat_lt 32767 (length tasks)) (nat_lt 262144 (edges_of tasks + length t.deps)) (nat_lt 134217728 t.nbytes) Keys Edges BlockBytes q (limit_from (suc (length tasks)) (edges_of tasks + length t.deps) rest) r;
}
