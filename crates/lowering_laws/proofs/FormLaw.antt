-- Each operation that nodes are lowered to is well formed, before culling and in the graph that is run.
use Rattle.std.proofs.Common.{◌≡◌, ℕ, suc, ◌<◌, List, [], ◌∷◌, ◌++◌, length, map, drop, take, get_or, refl, ap, sym, subst, ◌∙◌, arith, inl, inr, ℤ, pos}
use Rattle.std.specs.Prelude.{All, slice_get, Some}
use Rattle.std.proofs.lemmas.Bool.{cases_lt}
use Rattle.std.proofs.lemmas.List.{length-map, length-take-le, get_or_append_left, get_or_push}
use Rattle.std.proofs.lemmas.Option.{slice_get_within, get_or_from_slice_get}
use Rattle.small_facts.proofs.Every.{all_join, all_below_at}
use Rattle.nd_shape.specs.Shape.{IsShape}
use Rattle.array_expr.specs.Elem.{is_input}
use Rattle.array_expr.specs.declared.expr.Node.{Node}
use Rattle.array_expr.specs.Node.{shape_at, NamesEarlier, IsExpression}
use Rattle.chunk_layout.specs.Layouts.{lengths}
use Rattle.cluster_msgs.specs.Shape.{deps_of}
use Rattle.task_graph.specs.declared.graph.Task.{Task}
use Rattle.task_graph.specs.Graphs.{task_at, shape_of}
use Rattle.task_graph.specs.Orders.{position, moved_task, renumbered}
use Rattle.task_graph.proofs.Visits.{numbering}
use Rattle.lowering_laws.specs.Sources.{Source}
use Rattle.lowering_laws.specs.Stages.{no_source}
use Rattle.lowering_laws.specs.Lowered.{no_node, source_at, lower_op, Lowering, with_made, lower_from, lowering, lowered}
use Rattle.lowering_laws.specs.Law.{Stand}
use Rattle.lowering_laws.specs.Whole.{LawOfOrder}
use Rattle.lowering_laws.specs.Formed.{LawOfForm}
use Rattle.lowering_laws.proofs.Lowering.{shape-is, drop-head, lower-extends, Stand-here}
use Rattle.lowering_laws.proofs.Good.{none-good}
use Rattle.lowering_laws.proofs.Order.{IsInOrder, HaveGraph, graph-of, one-node}
use Rattle.lowering_laws.proofs.Own.{at-place}
use Rattle.lowering_laws.proofs.Fed.{IsShaped, IsCut}
use Rattle.lowering_laws.proofs.Shapes.{AllShaped, op-cut}
use Rattle.lowering_laws.proofs.Tight.{IsTight}
use Rattle.lowering_laws.proofs.TightNodes.{AllTight, op-tight}
use Rattle.lowering_laws.proofs.Runs.{Ordering, run-order, order-law}
use Rattle.lowering_laws.proofs.Formed.{IsFormed, AreFormed}
use Rattle.lowering_laws.proofs.FormedMoved.{formed-moved}
use Rattle.lowering_laws.proofs.FormedNodes.{IsAt, node-shape, op-formed}

-- what holds of each array holds with one more
all-pushed : (P : Source → Type 0) (sources : List Source) (s : Source) (n : ℕ) → length sources ≡ n → ((k : ℕ) → k < n → P (source_at sources k)) → P s → (k : ℕ) → k < suc n → P (source_at (sources ++ s ∷ []) k)
all-pushed P sources s n count h p k lt = elim (cases_lt k n) [
  | inl a ↦ subst P (sym (get_or_append_left sources (s ∷ []) no_source k (omega arith))) (h k a)
  | inr a ↦ let same : n ≡ k = omega arith in subst (λ j. P (source_at (sources ++ s ∷ []) j)) same (subst P (sym (get_or_push sources s no_source n count)) p)
]

-- the arrays of the nodes that were lowered, and their tasks
record AreSound (all : List Task) (nodes : List Node) (n : ℕ) (l : Lowering) : Type 0 where
  order : IsInOrder nodes n l
  shaped : AllShaped all l.sources n
  tight : AllTight l.sources n
  formed : AreFormed nodes l.tasks

one-more : (all : List Task) (nodes : List Node) (n : ℕ) (l : Lowering) (x : Node) → IsExpression nodes → slice_get nodes n ≡ Some x → AreSound all nodes n l → Stand all (length l.tasks) (lower_op nodes l.sources n x.taken x.shape x.op (length l.tasks)).tasks
    → AreSound all nodes (suc n) (with_made l n (lower_op nodes l.sources n x.taken x.shape x.op (length l.tasks)))
one-more all nodes n l x ex is o stand =
    let files : ℕ → List ℕ → ℤ = λ f i. pos 0 in
    let base = length l.tasks in
    let m = lower_op nodes l.sources n x.taken x.shape x.op (length l.tasks) in
    let le : n < length nodes = slice_get_within nodes n x is in
    let node = ex.each n x is in
    let few : length (take n nodes) ≡ n = length-take-le n nodes (omega arith) in
    let names : NamesEarlier x.op n = subst (NamesEarlier x.op) few node.names.there in
    let own : get_or nodes n no_node ≡ x = get_or_from_slice_get nodes n x no_node is in
    let shape : x.shape ≡ shape_at nodes n = sym (shape-is nodes n ∙ ap (λ (y : Node). y.shape) own) in
    let graph : HaveGraph files nodes l.sources n = graph-of files nodes l.sources n base o.order.known in
    let cut : IsCut all m = op-cut all nodes l.sources n x.op x.taken x.shape base (omega arith) names node.makes o.order.known o.shaped stand in
    let next : IsInOrder nodes (suc n) (with_made l n m) = one-node nodes n l x ex is o.order in
    let last : source_at (l.sources ++ m.source ∷ []) n ≡ m.source = get_or_push l.sources m.source no_source n o.order.count in
    let new : lengths m.source.layout ≡ shape_at nodes n = ap (λ (s : Source). lengths s.layout) (sym last) ∙ (next.known n (omega arith)).cut in
    let at : IsAt all nodes l.sources n base = record { expression = ex; there = le; known = o.order.known; shaped = o.shaped; tight = o.tight } in
    record {
      order = next;
      shaped = all-pushed (IsShaped all) l.sources m.source n o.order.count o.shaped cut.shaped;
      tight = all-pushed (λ (s : Source). IsTight s.layout) l.sources m.source n o.order.count o.tight (op-tight files graph.tasks nodes l.sources n x.op x.taken x.shape base ex (omega arith) names node.makes graph.held o.tight);
      formed = all_join (IsFormed nodes) l.tasks m.tasks o.formed
          (op-formed files graph.tasks all nodes l.sources n x.op x.taken x.shape base at graph.held (ap (λ (y : Node). is_input y.op) (sym own)) shape names node.makes (subst IsShape (sym new) (node-shape nodes n ex le)) stand);
    }

forms-from : (all : List Task) (nodes : List Node) → IsExpression nodes → (n : ℕ) (l : Lowering) (rest : List Node) → drop n nodes ≡ rest → (lower_from nodes n l rest).tasks ≡ all → AreSound all nodes n l → AreFormed nodes (lower_from nodes n l rest).tasks
forms-from all nodes ex n l [] at is o = o.formed
forms-from all nodes ex n l (x ∷ rest) at is o =
    let d = drop-head nodes rest n x at in
    let m = lower_op nodes l.sources n x.taken x.shape x.op (length l.tasks) in
    let more = lower-extends nodes (suc n) (with_made l n m) rest in
    let stand : Stand all (length l.tasks) m.tasks = Stand-here all l.tasks m.tasks more.tasks (sym is ∙ more.tasks_are) in
    forms-from all nodes ex (suc n) (with_made l n m) rest d.1 is (one-more all nodes n l x ex d.0 o stand)

lowering-forms : (nodes : List Node) → IsExpression nodes → AreFormed nodes (lowering nodes).tasks
lowering-forms nodes ex = forms-from (lowering nodes).tasks nodes ex 0 _ nodes refl refl (record {
  order = record { good = none-good 0; known = λ k h. absurd (omega arith); count = refl };
  shaped = λ k h. absurd (omega arith);
  tight = λ k h. absurd (omega arith);
  formed = tt;
})

pub form-law : (nodes : List Node) (saves : List ℕ) → IsExpression nodes → All (λ n. n < length nodes) saves → LawOfForm nodes saves
form-law nodes saves ex inside =
    let tasks = (lowering nodes).tasks in
    let o : Ordering nodes saves = run-order nodes saves ex inside in
    let law : LawOfOrder nodes saves = order-law nodes saves ex inside in
    let made : (k : ℕ) → k < length (lowering nodes).tasks → IsFormed nodes (task_at (lowering nodes).tasks k) = λ k h. at-place (IsFormed nodes) tasks k (lowering-forms nodes ex) h in
    let count : length (renumbered (lowering nodes).tasks o.order) ≡ length o.order = length-map o.order (λ old. moved_task (map (position o.order) (deps_of (shape_of tasks) old)) (task_at tasks old)) in
    let run : (k : ℕ) → k < length (lowered nodes saves).tasks → IsFormed nodes (task_at (lowered nodes saves).tasks k) = subst (λ (ts : List Task). (k : ℕ) → k < length ts → IsFormed nodes (task_at ts k)) o.run_is (λ k h.
    let lt : k < length o.order = omega arith in
    formed-moved nodes tasks o.order k law.fit (numbering tasks o.order o.behind) law.fed.each lt (made (get_or o.order k 0) (all_below_at o.order (length tasks) k o.small lt))) in
    record { made = λ k h. (made k h).made; loads = λ k h. (made k h).loads; run = λ k h. (run k h).made; run_loads = λ k h. (run k h).loads }
