-- A text is one job, and is not refused then.
use Rattle.std.proofs.Common.{◌≡◌, ℕ, zero, suc, ℤ, pos, List, [], ◌∷◌, ◌++◌, length, Some, refl, ap, sym, subst, ◌∙◌, arith, append_assoc}
use Rattle.std.specs.Prelude.{slice_get, unwrap_or}
use Rattle.std.proofs.lemmas.Option.{none-some}
use Rattle.std.proofs.lemmas.List.{append-nil}
use Rattle.small_facts.proofs.Numbers.{same_pos}
use Rattle.nd_shape.specs.declared.slice.Part.{Part}
use Rattle.nd_shape.specs.declared.slice.Part.TheVariants.{At, Range}
use Rattle.nd_shape.specs.declared.slice.Steps.{Steps}
use Rattle.nd_shape.specs.Slice.{Resolves, IsRange, first_index, end_index}
use Rattle.nd_grid.specs.Grid.{sliced_shape}
use Rattle.array_expr.specs.declared.op.Op.{Op}
use Rattle.array_expr.specs.declared.op.Op.TheVariants.{Input, Full, Ramp, Negate, Elementwise, Where, Slice, Transpose, Rechunk, Concatenate, Reduce, Tensordot}
use Rattle.array_expr.specs.declared.expr.Node.{Node}
use Rattle.array_expr.specs.declared.error.NodeError.{NodeError}
use Rattle.array_expr.specs.declared.error.NodeError.TheVariants as NodeErrors
use Rattle.array_expr.specs.declared.error.Quantity.TheVariants as NodeQuantities
use Rattle.array_expr.specs.Node.{shape_at, part_on, Takes, dropped, Makes, IsExpression, Adds}
use Rattle.array_expr.specs.Refusal.{Refuses}
use Rattle.job_steps.specs.Found.{Found}
use Rattle.job_script.specs.declared.asked.Placed.{Placed}
use Rattle.job_script.specs.Drafts.{empty_draft}
use Rattle.job_script.specs.Scripts.{Scripted, run, refusal_at, first_of, IsScript}
use Rattle.job_text.specs.declared.error.JobError.{JobError}
use Rattle.job_text.specs.declared.error.JobKind.{JobKind}
use Rattle.job_text.specs.declared.error.JobKind.TheVariants as Kinds
use Rattle.job_text.specs.declared.error.Quantity.TheVariants as Quantities
use Rattle.job_text.specs.Nodes.{op_of, Builds, RefusesAsked}
use Rattle.job_text.specs.Jobs.{Parts, spans_of, IsJob, IsNodeRefused, IsTextRefused, IsRefused, too_long, node, behind, no_memory}
use Rattle.job_laws.proofs.OneReading.{one-reading}
use Rattle.expr_laws.proofs.Elements.{front-expression}
use Rattle.expr_laws.proofs.Excluded.{range-count}

-- ---- what a slice takes

steps-same : (s t : Steps) → s.start ≡ t.start → s.step ≡ t.step → s.count ≡ t.count → s ≡ t
steps-same s t a b c =
    ap (λ x. record { start = x; step = s.step; count = s.count }) a
    ∙ (ap (λ x. record { start = t.start; step = x; count = s.count }) b ∙ ap (λ x. record { start = t.start; step = t.step; count = x }) c)

range-same : (first end step : ℤ) (s t : Steps) → IsRange first end step s → IsRange first end step t → s ≡ t
range-same first end step s t a b = steps-same s t (by-count s.count refl) (a.step_is ∙ sym b.step_is) count
  where
    count : s.count ≡ t.count
    count = range-count first end step s t a b

    by-count : (c : ℕ) → s.count ≡ c → s.start ≡ t.start
    by-count zero e = a.empty e ∙ sym (b.empty (sym count ∙ e))
    by-count (suc c) e = same_pos s.start t.start (a.start_is (omega (arith, e)) ∙ sym (b.start_is (omega (arith, e, count))))

resolves-same : (n : ℕ) (part : Part) (s t : Steps) → Resolves n part s → Resolves n part t → s ≡ t
resolves-same n (At i) s t a b = steps-same s t (same_pos s.start t.start (a.start_is ∙ sym b.start_is)) (a.step_is ∙ sym b.step_is) (a.count_is ∙ sym b.count_is)
resolves-same n (Range start stop step) s t a b = range-same (first_index n (unwrap_or step (pos 1)) start) (end_index n (unwrap_or step (pos 1)) stop) (unwrap_or step (pos 1)) s t a.1 b.1

list-same : (ts us : List Steps) → length ts ≡ length us → ((k : ℕ) (s t : Steps) → slice_get ts k ≡ Some s → slice_get us k ≡ Some t → s ≡ t) → ts ≡ us
list-same [] [] e f = refl
list-same [] (u ∷ us) e f = absurd (omega (arith, e))
list-same (t ∷ ts) [] e f = absurd (omega (arith, e))
list-same (t ∷ ts) (u ∷ us) e f = ap (λ x. x ∷ ts) (f zero t u refl refl) ∙ ap (λ w. u ∷ w) (list-same ts us (omega (arith, e)) (λ k s v a b. f (suc k) s v a b))

takes-same : (dims : List ℕ) (parts : List Part) (ts us : List Steps) → Takes dims parts ts → Takes dims parts us → ts ≡ us
takes-same dims parts ts us a b = list-same ts us (a.axes ∙ sym b.axes) (λ k s t p q. resolves-same _ (part_on parts k) s t (a.first.each k s p) (b.first.each k t q))

-- ---- nodes

makes-same : (nodes : List Node) (op : Op) (ts us : List Steps) (sh th : List ℕ) → Makes nodes op ts sh → Makes nodes op us th → (ts ≡ us) × (sh ≡ th)
makes-same nodes (Input dims chunks) ts us sh th a b = (a.2 ∙ sym b.2, a.1 ∙ sym b.1)
makes-same nodes (Full dims value chunks) ts us sh th a b = (a.2 ∙ sym b.2, a.1 ∙ sym b.1)
makes-same nodes (Ramp dims start step chunks) ts us sh th a b = (a.2 ∙ sym b.2, a.1 ∙ sym b.1)
makes-same nodes (Negate of) ts us sh th a b = (a.1 ∙ sym b.1, a.0 ∙ sym b.0)
makes-same nodes (Elementwise op left right) ts us sh th a b = (a.2 ∙ sym b.2, a.1 ∙ sym b.1)
makes-same nodes (Where condition first second) ts us sh th a b = (a.2 ∙ sym b.2, a.1 ∙ sym b.1)
makes-same nodes (Slice of parts) ts us sh th a b =
    let e = takes-same (shape_at nodes of) parts ts us a.0 b.0 in
    (e, a.1 ∙ (ap (λ x. sliced_shape 0 x (dropped parts)) e ∙ sym b.1))
makes-same nodes (Transpose of axes) ts us sh th a b = (a.3 ∙ sym b.3, a.2 ∙ sym b.2)
makes-same nodes (Rechunk of chunks) ts us sh th a b = (a.2 ∙ sym b.2, a.1 ∙ sym b.1)
makes-same nodes (Concatenate of axis) ts us sh th a b = (a.2 ∙ sym b.2, a.1 ∙ sym b.1)
makes-same nodes (Reduce fold of axes split) ts us sh th a b = (a.2 ∙ sym b.2, a.1 ∙ sym b.1)
makes-same nodes (Tensordot left right left_axes right_axes) ts us sh th a b = (a.2 ∙ sym b.2, a.1 ∙ sym b.1)

node-same : (m n : Node) → m.op ≡ n.op → m.shape ≡ n.shape → m.taken ≡ n.taken → m ≡ n
node-same m n a b c =
    ap (λ x. record { op = x; shape = m.shape; taken = m.taken }) a
    ∙ (ap (λ x. record { op = n.op; shape = x; taken = m.taken }) b ∙ ap (λ x. record { op = n.op; shape = n.shape; taken = x }) c)

adds-same : (nodes : List Node) (op : Op) (a b : List Node) → Adds nodes op a → Adds nodes op b → a ≡ b
adds-same nodes op a b p q =
    let m = p.node in
    let n = q.node in
    let made = makes-same nodes op m.taken n.taken m.shape n.shape (subst (λ x. Makes nodes x m.taken m.shape) p.op_is p.fits.makes) (subst (λ x. Makes nodes x n.taken n.shape) q.op_is q.fits.makes) in
    p.more_is ∙ (ap (λ x. nodes ++ x ∷ []) (node-same m n (p.op_is ∙ sym q.op_is) made.1 made.0) ∙ sym q.more_is)

pub builds-same : (nodes : List Node) (ps : List Placed) (a b : List Node) → Builds nodes ps a → Builds nodes ps b → a ≡ b
builds-same nodes [] a b p q = p ∙ sym q
builds-same nodes (x ∷ ps) a b p q = builds-same p.0 ps a b p.2 (subst (λ y. Builds y ps b) (sym (adds-same nodes (op_of nodes x.asked) p.0 q.0 p.1 q.1)) q.2)

-- a job's nodes, cut at an operation
pub record Cut (before : List Placed) (here : Placed) (later : List Placed) (all : List Node) : Type 0 where
  pub nodes : List Node
  pub builds : Builds [] before nodes
  pub more : List Node
  pub adds : Adds nodes (op_of nodes here.asked) more
  pub rest : Builds more later all

cut-from : (start : List Node) (before : List Placed) (here : Placed) (later : List Placed) (all : List Node) → Builds start (before ++ here ∷ later) all
    → (nodes : List Node) × Builds start before nodes × ((more : List Node) × Adds nodes (op_of nodes here.asked) more × Builds more later all)
cut-from start [] here later all b = (start, refl, (b.0, b.1, b.2))
cut-from start (p ∷ before) here later all b = let x = cut-from b.0 before here later all b.2 in (x.0, (b.0, b.1, x.1), x.2)

pub cut-at : (before : List Placed) (here : Placed) (later : List Placed) (all : List Node) → Builds [] (before ++ here ∷ later) all → Cut before here later all
cut-at before here later all b =
    let x = cut-from [] before here later all b in
    record { nodes = x.0; builds = x.1; more = x.2.0; adds = x.2.1; rest = x.2.2 }

pub builds-front : (nodes : List Node) (ps : List Placed) (all : List Node) → Builds nodes ps all → (rest : List Node) × (all ≡ nodes ++ rest)
builds-front nodes [] all b = ([], b ∙ sym (append-nil nodes))
builds-front nodes (p ∷ ps) all b =
    let x = builds-front b.0 ps all b.2 in
    (b.1.node ∷ x.0, x.1 ∙ (ap (λ w. w ++ x.0) b.1.more_is ∙ append_assoc nodes (b.1.node ∷ []) x.0))

-- ---- refusals

-- what fits is refused for want of memory alone
abbrev pub Fitting : Type 0
Fitting = (nodes more : List Node) (op : Op) (e : NodeError) → IsExpression more → Adds nodes op more → Refuses nodes op e → e ≡ NodeErrors.OutOfMemory

pub asked-excluded : Fitting → (nodes more : List Node) (op : Op) (kind : JobKind) → IsExpression more → Adds nodes op more → RefusesAsked nodes op kind → kind ≡ Kinds.OutOfMemory
asked-excluded law nodes more op Kinds.Token x a r = absurd r
asked-excluded law nodes more op Kinds.Grammar x a r = absurd r
asked-excluded law nodes more op Kinds.UnknownName x a r = absurd r
asked-excluded law nodes more op Kinds.Repeated x a r = absurd r
asked-excluded law nodes more op (Kinds.Shape e) x a r = absurd (no (law nodes more op (NodeErrors.Shape e) x a r))
  where
    no : NodeErrors.Shape e ≡ NodeErrors.OutOfMemory → ⊥
    no q = cc
asked-excluded law nodes more op (Kinds.Chunks e) x a r = absurd (no (law nodes more op (NodeErrors.Chunks e) x a r))
  where
    no : NodeErrors.Chunks e ≡ NodeErrors.OutOfMemory → ⊥
    no q = cc
asked-excluded law nodes more op (Kinds.Limit Quantities.JobBytes) x a r = absurd r
asked-excluded law nodes more op (Kinds.Limit Quantities.Statements) x a r = absurd r
asked-excluded law nodes more op (Kinds.Limit Quantities.Depth) x a r = absurd r
asked-excluded law nodes more op (Kinds.Limit Quantities.Number) x a r = absurd r
asked-excluded law nodes more op (Kinds.Limit Quantities.Nodes) x a r = absurd (no (law nodes more op (NodeErrors.Limit NodeQuantities.Nodes) x a r))
  where
    no : NodeErrors.Limit NodeQuantities.Nodes ≡ NodeErrors.OutOfMemory → ⊥
    no q = cc
asked-excluded law nodes more op (Kinds.Limit Quantities.Axes) x a r = absurd (no (law nodes more op (NodeErrors.Limit NodeQuantities.Axes) x a r))
  where
    no : NodeErrors.Limit NodeQuantities.Axes ≡ NodeErrors.OutOfMemory → ⊥
    no q = cc
asked-excluded law nodes more op (Kinds.Limit Quantities.Elements) x a r = absurd (no (law nodes more op (NodeErrors.Limit NodeQuantities.Elements) x a r))
  where
    no : NodeErrors.Limit NodeQuantities.Elements ≡ NodeErrors.OutOfMemory → ⊥
    no q = cc
asked-excluded law nodes more op Kinds.OutOfMemory x a r = refl

-- a text asks for one list of operations, and is refused at one step at most
pub one-script : (text : List ℕ) (s t : Scripted) → IsScript text s → IsScript text t → (s.asked ≡ t.asked) × (s.refusal ≡ t.refusal)
one-script text s t a b =
    let f : a.found ≡ b.found = one-reading text a.found b.found a.read b.read in (
      a.asked ∙ (ap (λ (x : Found). (run text x.steps empty_draft).draft.asked) f ∙ sym b.asked),
      a.refusal ∙ (ap (λ (x : Found). first_of (run text x.steps empty_draft).refusal (refusal_at text x.ending (run text x.steps empty_draft).draft)) f ∙ sym b.refusal),
    )

node-excluded : Fitting → (text : List ℕ) (job : Parts) (e : JobError) → IsJob text job → IsExpression job.nodes → IsNodeRefused text e → e.kind ≡ Kinds.OutOfMemory
node-excluded law text job e j x n =
    let o = n.one in
    let asked : j.script.asked ≡ o.before ++ o.here ∷ o.later = (one-script text j.script n.script j.is_script n.is_script).0 ∙ o.asked_are in
    let c = cut-at o.before o.here o.later job.nodes (subst (λ w. Builds [] w job.nodes) asked j.built.builds) in
    let same : o.nodes ≡ c.nodes = builds-same [] o.before o.nodes c.nodes o.builds c.builds in
    let front = builds-front c.more o.later job.nodes c.rest in
    let expression : IsExpression c.more = front-expression c.more front.0 (subst IsExpression front.1 x) in
    asked-excluded law c.nodes c.more (op_of c.nodes o.here.asked) e.kind expression c.adds (subst (λ w. RefusesAsked w (op_of w o.here.asked) e.kind) same o.refused.cause)

text-excluded : (text : List ℕ) (job : Parts) (e : JobError) → IsJob text job → IsTextRefused text e → ⊥
text-excluded text job e j n = none-some n.refusal (sym j.whole ∙ ((one-script text j.script n.script j.is_script n.is_script).1 ∙ n.is_refused))

pub job-excluded : Fitting → (text : List ℕ) (job : Parts) (e : JobError) → IsJob text job → IsExpression job.nodes → IsRefused text e → e.kind ≡ Kinds.OutOfMemory
job-excluded law text job e j x (too_long t) = absurd (omega (arith, t.long, j.short))
job-excluded law text job e j x (node n) = node-excluded law text job e j x n
job-excluded law text job e j x (behind n) = absurd (text-excluded text job e j n)
job-excluded law text job e j x (no_memory m) = m

parts-same : (a b : Parts) → a.nodes ≡ b.nodes → a.inputs ≡ b.inputs → a.saves ≡ b.saves → a.spans ≡ b.spans → a ≡ b
parts-same a b p q r s =
    ap (λ x. record { nodes = x; inputs = a.inputs; saves = a.saves; spans = a.spans }) p
    ∙ (ap (λ x. record { nodes = b.nodes; inputs = x; saves = a.saves; spans = a.spans }) q
    ∙ (ap (λ x. record { nodes = b.nodes; inputs = b.inputs; saves = x; spans = a.spans }) r
    ∙ ap (λ x. record { nodes = b.nodes; inputs = b.inputs; saves = b.saves; spans = x }) s))

pub one-job : (text : List ℕ) (a b : Parts) → IsJob text a → IsJob text b → a ≡ b
one-job text a b i j =
    let scripts = one-script text i.script j.script i.is_script j.is_script in
    let f : i.is_script.found ≡ j.is_script.found = one-reading text i.is_script.found j.is_script.found i.is_script.read j.is_script.read in
    parts-same a b
    (builds-same [] j.script.asked a.nodes b.nodes (subst (λ w. Builds [] w a.nodes) scripts.0 i.built.builds) j.built.builds)
    (i.inputs_are ∙ (i.is_script.inputs i.whole ∙ (ap (λ (x : Found). (run text x.steps empty_draft).draft.scoped.inputs) f ∙ sym (j.inputs_are ∙ j.is_script.inputs j.whole))))
    (i.saves_are ∙ (i.is_script.saves i.whole ∙ (ap (λ (x : Found). (run text x.steps empty_draft).draft.scoped.saves) f ∙ sym (j.saves_are ∙ j.is_script.saves j.whole))))
    (i.built.spans_are ∙ (ap (spans_of text) scripts.0 ∙ sym j.built.spans_are))
