-- What is known before each node is lowered, and why nodes aren't.
use Rattle.std.proofs.Common.{◌≡◌, ℕ, zero, suc, ◌+◌, ◌-◌, ◌<◌, ◌≤◌, Bool, true, false, cond, List, [], ◌∷◌, ◌++◌, length, take, map, get_or, refl, ap, sym, subst, ◌∙◌, arith, length-append, Some}
use Rattle.std.specs.Prelude.{slice_get}
use Rattle.std.specs.List.{range_with_len}
use Rattle.std.proofs.lemmas.List.{length-take-le}
use Rattle.std.proofs.lemmas.List.FromFn.{length-map-range_with_len}
use Rattle.std.proofs.lemmas.List.Sums.{count_by_more_no, count_by_more_yes, count_by-le-length}
use Rattle.std.proofs.lemmas.Option.{slice_get-get_or, slice_get_within, get_or_from_slice_get}
use Rattle.array_expr.specs.declared.expr.Node.{Node}
use Rattle.array_expr.specs.Node.{IsExpression}
use Rattle.array_expr.specs.Elem.{is_input}
use Rattle.expr_laws.specs.Formulas.{inputs_before}
use Rattle.task_graph.specs.declared.graph.Task.{Task}
use Rattle.lowering_laws.specs.Sources.{Source, Made}
use Rattle.lowering_laws.specs.Growth.{lowering_to, IsFront, LawOfGrowth}
use Rattle.lowering_laws.specs.Lowered.{no_node, name_at, lower_op, Lowering, with_made, lower_from, lowering, limit_from}
use Rattle.lowering_laws.proofs.Good.{none-good}
use Rattle.lowering_laws.proofs.Growing.{growth-law}
use Rattle.lowering_laws.proofs.Order.{IsInOrder, one-node}
use Rattle.block_lowering.specs.Growing.{Refuses, IsCause}
use Rattle.block_lowering.specs.Ready.{IsReady}
use Rattle.block_lowering.specs.declared.error.LowerError.{LowerError}
use Rattle.block_lowering.specs.declared.error.LowerError.TheVariants.{Limit, OutOfMemory}

-- ---- the nodes so far

-- what the tasks of node n are, behind those of the nodes before it
abbrev pub made_by : List Node → ℕ → Node → Made
made_by nodes n x = lower_op nodes (lowering_to nodes n).sources n x.taken x.shape x.op (length (lowering_to nodes n).tasks)

pub in-order : (nodes : List Node) (n : ℕ) → IsExpression nodes → n ≤ length nodes → IsInOrder nodes n (lowering_to nodes n)
in-order nodes zero ex le = record { good = none-good 0; known = λ k h. absurd (omega arith); count = refl }
in-order nodes (suc n) ex le =
    let x = get_or nodes n no_node in
    let lt : n < length nodes = omega arith in
    let is : slice_get nodes n ≡ Some (get_or nodes n no_node) = slice_get-get_or nodes n no_node lt in
    let next : n + 1 ≡ suc n = omega arith in
    let law : LawOfGrowth nodes = growth-law nodes in
    let more : lowering_to nodes (suc n) ≡ with_made (lowering_to nodes n) n (made_by nodes n (get_or nodes n no_node)) = ap (lowering_to nodes) (sym next) ∙ law.next n (get_or nodes n no_node) is in
    subst (IsInOrder nodes (suc n)) (sym more) (one-node nodes n (lowering_to nodes n) (get_or nodes n no_node) ex is (in-order nodes n ex (omega arith)))

-- as many names as tasks
pub names-count : (nodes : List Node) (n : ℕ) (l : Lowering) (rest : List Node) → length l.names ≡ length l.tasks → length (lower_from nodes n l rest).names ≡ length (lower_from nodes n l rest).tasks
names-count nodes n l [] h = h
names-count nodes n l (x ∷ rest) h =
    let m = lower_op nodes l.sources n x.taken x.shape x.op (length l.tasks) in
    let new : length (map (name_at m.source n) (range_with_len (length l.tasks) (length m.tasks))) ≡ length m.tasks = length-map-range_with_len (name_at m.source n) (length l.tasks) (length m.tasks) in
    names-count nodes (suc n) (with_made l n m) rest
    (omega (arith, length-append l.names (map (name_at m.source n) (range_with_len (length l.tasks) (length m.tasks))), length-append l.tasks m.tasks))

-- what a loop over nodes knows: the first n are lowered, and so many of them are inputs
pub record IsLoweredTo (nodes : List Node) (n : ℕ) (l : Lowering) (inputs : ℕ) : Type 0 where
  pub made : l ≡ lowering_to nodes n
  pub inputs_are : inputs ≡ inputs_before nodes n

pub none-lowered : (nodes : List Node) (l : Lowering) → l ≡ record { tasks = []; names = []; sources = [] } → IsLoweredTo nodes 0 l 0
none-lowered nodes l h = record { made = h; inputs_are = refl }

pub sources-count : (nodes : List Node) (n : ℕ) (l : Lowering) (inputs : ℕ) → IsExpression nodes → n ≤ length nodes → IsLoweredTo nodes n l inputs → length l.sources ≡ n
sources-count nodes n l inputs ex le o =
    let order : IsInOrder nodes n (lowering_to nodes n) = in-order nodes n ex le in
    ap (λ (m : Lowering). length m.sources) o.made ∙ order.count

pub ready : (nodes : List Node) (n : ℕ) (l : Lowering) (inputs : ℕ) → IsExpression nodes → n < length nodes → IsLoweredTo nodes n l inputs → IsReady nodes (length l.sources) l.sources
ready nodes n l inputs ex lt o =
    let order : IsInOrder nodes n (lowering_to nodes n) = in-order nodes n ex (omega arith) in
    let count : length l.sources ≡ n = sources-count nodes n l inputs ex (omega arith) o in
    let r : IsReady nodes n (lowering_to nodes n).sources = record { here = lt; count = order.count; shapes = λ k h. (order.known k h).cut } in
    subst (λ k. IsReady nodes k l.sources) (sym count) (subst (λ (m : Lowering). IsReady nodes n m.sources) (sym o.made) r)

pub inputs-are : (nodes : List Node) (n : ℕ) (l : Lowering) (inputs : ℕ) → IsExpression nodes → n ≤ length nodes → IsLoweredTo nodes n l inputs → inputs ≡ inputs_before nodes (length l.sources)
inputs-are nodes n l inputs ex le o = o.inputs_are ∙ ap (inputs_before nodes) (sym (sources-count nodes n l inputs ex le o))

pub named : (nodes : List Node) (n : ℕ) (l : Lowering) (inputs : ℕ) → IsLoweredTo nodes n l inputs → length l.names ≡ length l.tasks
named nodes n l inputs o =
    subst (λ (m : Lowering). length m.names ≡ length m.tasks) (sym o.made) (names-count nodes 0 (record { tasks = []; names = []; sources = [] }) (take n nodes) refl)

pub inputs-few : (nodes : List Node) (n inputs : ℕ) → n ≤ length nodes → inputs ≡ inputs_before nodes n → inputs ≤ n
inputs-few nodes n inputs le h = omega (arith, count_by-le-length (λ (m : Node). is_input m.op) (take n nodes), length-take-le n nodes le)

-- one more
inputs-more : (nodes : List Node) (n : ℕ) (x : Node) (b : Bool) → slice_get nodes n ≡ Some x → is_input x.op ≡ b → cond b (inputs_before nodes n + 1) (inputs_before nodes n) ≡ inputs_before nodes (n + 1)
inputs-more nodes n x true is h =
    sym (count_by_more_yes (λ (m : Node). is_input m.op) nodes n x (slice_get_within nodes n x is) (ap (λ (m : Node). is_input m.op) (get_or_from_slice_get nodes n x x is) ∙ h))
inputs-more nodes n x false is h =
    sym (count_by_more_no (λ (m : Node). is_input m.op) nodes n x (slice_get_within nodes n x is) (ap (λ (m : Node). is_input m.op) (get_or_from_slice_get nodes n x x is) ∙ h))

pub node-lowered : (nodes : List Node) (n : ℕ) (l new : Lowering) (inputs more : ℕ) (x : Node) → IsExpression nodes → slice_get nodes n ≡ Some x → IsLoweredTo nodes n l inputs
    → new ≡ with_made l (length l.sources) (lower_op nodes l.sources (length l.sources) x.taken x.shape x.op (length l.tasks)) → more ≡ cond (is_input x.op) (inputs + 1) inputs → IsLoweredTo nodes (n + 1) new more
node-lowered nodes n l new inputs more x ex is o made next =
    let lt : n < length nodes = slice_get_within nodes n x is in
    let law : LawOfGrowth nodes = growth-law nodes in
    let count : length l.sources ≡ n = sources-count nodes n l inputs ex (omega arith) o in
    record {
      made = made ∙ ap (λ k. with_made l k (lower_op nodes l.sources k x.taken x.shape x.op (length l.tasks))) count
          ∙ ap (λ (m : Lowering). with_made m n (lower_op nodes m.sources n x.taken x.shape x.op (length m.tasks))) o.made ∙ sym (law.next n x is);
      inputs_are = next ∙ ap (λ k. cond (is_input x.op) (k + 1) k) o.inputs_are ∙ inputs-more nodes n x (is_input x.op) is refl;
    }

pub all-lowered : (nodes : List Node) (n : ℕ) (l : Lowering) (inputs : ℕ) → length nodes ≤ n → n ≤ length nodes → IsLoweredTo nodes n l inputs → l ≡ lowering nodes
all-lowered nodes n l inputs ge le o =
    let whole : n ≡ length nodes = omega arith in
    let law : LawOfGrowth nodes = growth-law nodes in
    o.made ∙ ap (lowering_to nodes) whole ∙ law.end

-- ---- refusals

-- a node that isn't lowered, behind those before it
pub cause : (nodes : List Node) (n : ℕ) (x : Node) (e : LowerError) → slice_get nodes n ≡ Some x → Refuses (lowering_to nodes n).tasks (made_by nodes n x).tasks e → IsCause nodes e
cause nodes n x OutOfMemory is r = tt
cause nodes n x (Limit q) is r =
    let lt : n < length nodes = slice_get_within nodes n x is in
    let law : LawOfGrowth nodes = growth-law nodes in
    let f : IsFront (lowering_to nodes (n + 1)).tasks (lowering nodes).tasks = law.front (n + 1) (omega arith) in
    let all : (lowering nodes).tasks ≡ (lowering_to nodes n).tasks ++ (made_by nodes n x).tasks ++ f.rest = f.all_is ∙ ap (λ (l : Lowering). l.tasks ++ f.rest) (law.next n x is) in
    ap (limit_from 0 0) all ∙ r f.rest

pub node-cause : (nodes : List Node) (n : ℕ) (l : Lowering) (inputs : ℕ) (x : Node) (e : LowerError) → IsExpression nodes → slice_get nodes n ≡ Some x → IsLoweredTo nodes n l inputs
    → Refuses l.tasks (lower_op nodes l.sources (length l.sources) x.taken x.shape x.op (length l.tasks)).tasks e → IsCause nodes e
node-cause nodes n l inputs x e ex is o r =
    let lt : n < length nodes = slice_get_within nodes n x is in
    let count : length l.sources ≡ n = sources-count nodes n l inputs ex (omega arith) o in
    cause nodes n x e is (subst (λ (m : Lowering). Refuses m.tasks (lower_op nodes m.sources n x.taken x.shape x.op (length m.tasks)).tasks e) o.made
    (subst (λ k. Refuses l.tasks (lower_op nodes l.sources k x.taken x.shape x.op (length l.tasks)).tasks e) count r))

-- ---- the steps of a loop over nodes

-- every node has its array
pub sources-all : (nodes : List Node) → IsExpression nodes → length (lowering nodes).sources ≡ length nodes
sources-all nodes ex =
    let law : LawOfGrowth nodes = growth-law nodes in
    let order : IsInOrder nodes (length nodes) (lowering_to nodes (length nodes)) = in-order nodes (length nodes) ex (omega arith) in
    ap (λ (l : Lowering). length l.sources) (sym law.end) ∙ order.count

pub same-node : (nodes : List Node) (k number : ℕ) (node x : Node) → number ≡ k → node ≡ get_or nodes number node → slice_get nodes k ≡ Some x → node ≡ x
same-node nodes k number node x e read is = read ∙ ap (λ j. get_or nodes j node) e ∙ get_or_from_slice_get nodes k x node is

-- the refusal of a node, in other words
pub refuses-node : (nodes : List Node) (s t : List Source) (old new : List Task) (x y : Node) (e : LowerError) → s ≡ t → old ≡ new → x ≡ y
    → Refuses old (lower_op nodes s (length s) x.taken x.shape x.op (length old)).tasks e → Refuses new (lower_op nodes t (length t) y.taken y.shape y.op (length new)).tasks e
refuses-node nodes s t old new x y e same grown node r =
    subst (λ (z : Node). Refuses new (lower_op nodes t (length t) z.taken z.shape z.op (length new)).tasks e) node
    (subst (λ (ts : List Task). Refuses ts (lower_op nodes t (length t) x.taken x.shape x.op (length ts)).tasks e) grown
    (subst (λ (ss : List Source). Refuses old (lower_op nodes ss (length ss) x.taken x.shape x.op (length old)).tasks e) same r))

-- a node more, in its three lists
pub with-made-is : (l new : Lowering) (n node first end : ℕ) (m : Made) (s : Source) → new.tasks ≡ l.tasks ++ m.tasks → s ≡ m.source → node ≡ n → first ≡ length l.tasks → end ≡ length new.tasks
    → new.names ≡ l.names ++ map (name_at s node) (range_with_len first (end - first)) → new.sources ≡ l.sources ++ s ∷ [] → new ≡ with_made l n m
with-made-is l new n node first end m s tasks source number begins ends names sources =
    let count : end - first ≡ length m.tasks = omega (arith, ap (λ (ts : List Task). length ts) tasks, length-append l.tasks m.tasks) in
    let named : new.names ≡ l.names ++ map (name_at m.source n) (range_with_len (length l.tasks) (length m.tasks)) = names
    ∙ ap (λ (z : Source). l.names ++ map (name_at z node) (range_with_len first (end - first))) source
    ∙ ap (λ k. l.names ++ map (name_at m.source k) (range_with_len first (end - first))) number
    ∙ ap (λ k. l.names ++ map (name_at m.source n) (range_with_len k (end - first))) begins
    ∙ ap (λ k. l.names ++ map (name_at m.source n) (range_with_len (length l.tasks) k)) count in
    let held : new.sources ≡ l.sources ++ m.source ∷ [] = sources ∙ ap (λ (z : Source). l.sources ++ z ∷ []) source in
    λ i. record { tasks = tasks i; names = named i; sources = held i }
