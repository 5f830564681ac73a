-- The files that are read are those of the inputs that a text asks for, in their order.
use Rattle.std.proofs.Common.{◌≡◌, ℕ, suc, ◌+◌, ◌-◌, ◌^◌, Bool, true, false, cond, ◌||◌, nat_lt, nat_le, List, [], ◌∷◌, ◌++◌, length, map, Some, None, Ok, Err, refl, ap, sym, subst, ◌∙◌, arith, length-append}
use Rattle.std.specs.Prelude.{Option, Result, slice_index_or, pos}
use Rattle.std.proofs.Math.Nat.{zero-add}
use Rattle.small_facts.proofs.Lists.{cond_cons_append}
use Rattle.array_expr.specs.declared.op.Op.{Op}
use Rattle.array_expr.specs.declared.op.Op.TheVariants as OpVariants
use Rattle.array_expr.specs.Elem.{is_input}
use Rattle.job_tokens.specs.declared.token.Token.{Token}
use Rattle.job_grammar.specs.declared.action.Action.{Action}
use Rattle.job_grammar.specs.declared.action.Action.TheVariants.{Begin, Declare, InputFile, AddInput, Define, SavedName, SaveFile, OpenDims, Dim, OpenChunks, Even, OpenSizes, Size, Sizes, Mark, Combine, Negate, Literal, NegativeLiteral, Refer, Enter, Leave, OpenParts, AddSlice, ReverseAxes, OpenPart, Positive, Negative, Index, Bound, Range, PlainFold, FoldAxes, FoldSplit, Reduce, Choose, AddTranspose, AddRechunk, OpenList, ListAxis, AddConcatenate, LeftAxes, AddTensordot, Value, Step, AddFull, AddRamp}
use Rattle.job_steps.specs.declared.step.Step.{Step as OneStep}
use Rattle.job_script.specs.declared.asked.Asked.{Asked}
use Rattle.job_script.specs.declared.asked.Asked.TheVariants as AskedVariants
use Rattle.job_script.specs.declared.asked.Placed.{Placed}
use Rattle.job_script.specs.declared.asked.Refusal.{Refusal}
use Rattle.job_script.specs.declared.asked.Why.TheVariants.{Nodes, Number, UnknownName, Repeated, Statements}
use Rattle.job_script.specs.Words.{bytes_of, number_at, file_at, negative}
use Rattle.job_script.specs.Names.{Called, node_called}
use Rattle.job_script.specs.Scopes.{Scoped, is_there}
use Rattle.job_script.specs.Operands.{top_node, top_mark, with_node, without_node, without_mark}
use Rattle.job_script.specs.Drafts.{Drafted, empty_draft, with_scoped, with_waiting, with_mark, asking, asking_op, or_refused, named_input, literal, refer}
use Rattle.job_script.specs.Meanings.{after}
use Rattle.job_script.specs.Scripts.{going_on, run}
use Rattle.job_script.specs.Earlier.{asks_input, inputs_from}

-- ---- lists

pub last-end : (us : List ℕ) (x e : ℕ) → slice_index_or (us ++ x ∷ []) (length us) e ≡ x
last-end [] x e = refl
last-end (u ∷ us) x e = last-end us x e

top-pushed : (us : List ℕ) (x : ℕ) → slice_index_or (us ++ x ∷ []) (length (us ++ x ∷ []) - 1) 0 ≡ x
top-pushed us x =
    let at : length (us ++ x ∷ []) - 1 ≡ length us = omega (arith, length-append us (x ∷ [])) in
    ap (λ k. slice_index_or (us ++ x ∷ []) k 0) at ∙ last-end us x 0

nodes-pushed : (list : List Called) (n : Called) → map (λ m. m.node) (list ++ n ∷ []) ≡ map (λ m. m.node) list ++ n.node ∷ []
nodes-pushed [] n = refl
nodes-pushed (m ∷ list) n = ap (λ w. m.node ∷ w) (nodes-pushed list n)

none-more : (k : ℕ) (asked : List Placed) (p : Placed) → asks_input p.asked ≡ false → inputs_from k (asked ++ p ∷ []) ≡ inputs_from k asked
none-more k [] p e = ap (λ b. cond b (k ∷ []) []) e
none-more k (q ∷ asked) p e = ap (λ x. cond (asks_input q.asked) (k ∷ x) x) (none-more (suc k) asked p e)

one-more : (k : ℕ) (asked : List Placed) (p : Placed) → asks_input p.asked ≡ true → inputs_from k (asked ++ p ∷ []) ≡ inputs_from k asked ++ (k + length asked) ∷ []
one-more k [] p e =
    let here : k ≡ k + 0 = omega arith in
    ap (λ b. cond b (k ∷ []) []) e ∙ ap (λ j. j ∷ []) here
one-more k (q ∷ asked) p e =
    let at : suc k + length asked ≡ k + suc (length asked) = omega arith in
    ap (λ x. cond (asks_input q.asked) (k ∷ x) x) (one-more (suc k) asked p e)
    ∙ (cond_cons_append (asks_input q.asked) k (inputs_from (suc k) asked) ((suc k + length asked) ∷ [])
    ∙ ap (λ j. cond (asks_input q.asked) (k ∷ inputs_from (suc k) asked) (inputs_from (suc k) asked) ++ j ∷ []) at)

-- ---- what is kept, and what steps leave

abbrev Fit : Drafted → Type 0
Fit d = map (λ n. n.node) d.scoped.inputs ≡ inputs_from 0 d.asked

abbrev Leaves : Result Drafted Refusal → Type 0
Leaves r = (e : Drafted) → r ≡ Ok e → Fit e

ok-leaves : (x : Drafted) → Fit x → Leaves (Ok x)
ok-leaves x f = λ e q. subst (λ y. Fit y) (same e (Ok x) refl q) f
  where
    same : (e : Drafted) (r : Result Drafted Refusal) → r ≡ Ok x → r ≡ Ok e → x ≡ e
    same e r p q = cc

refused-leaves : (r : Refusal) → Leaves (Err r)
refused-leaves r = λ e q. absurd (never e q)
  where
    never : (e : Drafted) → Err r ≡ Ok e → ⊥
    never e q = cc

if-leaves : (b : Bool) (r q : Result Drafted Refusal) → Leaves r → Leaves q → Leaves (cond b r q)
if-leaves true r q x y = x
if-leaves false r q x y = y

number-leaves : (b : Bool) (x : Drafted) (r : Refusal) (f : Drafted → Result Drafted Refusal) → Leaves (f x) → Leaves (or_refused (cond b (Ok x) (Err r)) f)
number-leaves true x r f l = l
number-leaves false x r f l = refused-leaves r

scoped-leaves : (b : Bool) (s : Scoped) (r : Refusal) (d : Drafted) → Fit (record d { scoped = s }) → Leaves (with_scoped (cond b (Ok s) (Err r)) d)
scoped-leaves true s r d h = ok-leaves (record d { scoped = s }) h
scoped-leaves false s r d h = refused-leaves r

kept-leaves : (b : Bool) (s : Scoped) (r : Refusal) (d : Drafted) → Fit (record d { scoped = s }) → Leaves (with_scoped (cond b (Err r) (Ok s)) d)
kept-leaves true s r d h = refused-leaves r
kept-leaves false s r d h = ok-leaves (record d { scoped = s }) h

asking-leaves : (a : Asked) (at : ℕ) (d : Drafted) → asks_input a ≡ false → Fit d → Leaves (asking a at d)
asking-leaves a at d n f =
    let p : Placed = record { asked = a; at = at } in
    if-leaves (nat_lt (length d.asked) 65536) _ _ (ok-leaves (record d { asked = d.asked ++ p ∷ []; waiting = with_node (length d.asked) d.waiting }) (f ∙ sym (none-more 0 d.asked p n))) (refused-leaves (record { at = at; why = Nodes }))

refer-leaves : (o : Option ℕ) (at : ℕ) (d : Drafted) → Fit d → Leaves (refer o at d)
refer-leaves None at d f = refused-leaves (record { at = at; why = UnknownName })
refer-leaves (Some node) at d f = ok-leaves (record d { waiting = with_node node d.waiting }) f

input-leaves : (op : Op) (at : ℕ) (d : Drafted) → is_input op ≡ true → Fit d → Leaves (or_refused (asking_op op at d) (λ e. Ok (named_input e)))
input-leaves op at d i f =
    let p : Placed = record { asked = AskedVariants.Op op; at = at } in
    let x : Drafted = record d { asked = d.asked ++ p ∷ []; waiting = with_node (length d.asked) d.waiting } in
    let fit : Fit (named_input x) =
    nodes-pushed d.scoped.inputs (record { name = d.scoped.file; node = top_node x.waiting })
    ∙ (ap (λ k. map (λ n. n.node) d.scoped.inputs ++ k ∷ []) (top-pushed d.waiting.nodes (length d.asked))
    ∙ (ap (λ w. w ++ length d.asked ∷ []) f ∙ sym (one-more 0 d.asked p i ∙ ap (λ k. inputs_from 0 d.asked ++ k ∷ []) (zero-add (length d.asked))))) in
    number-leaves (nat_lt (length d.asked) 65536) x (record { at = at; why = Nodes }) (λ e. Ok (named_input e)) (ok-leaves (named_input x) fit)

-- ---- each step

act-leaves : (text : List ℕ) (a : Action) (t : Token) (d : Drafted) → Fit d → Leaves (after text a t d)
act-leaves text Begin t d f = scoped-leaves (nat_lt d.scoped.statements 1024) (record d.scoped { statements = d.scoped.statements + 1 }) (record { at = t.start; why = Statements }) (with_mark t d) f
act-leaves text Declare t d f = kept-leaves (is_there d.scoped.names (bytes_of text t)) (record d.scoped { name = bytes_of text t }) (record { at = t.start; why = Repeated }) d f
act-leaves text InputFile t d f = kept-leaves (is_there d.scoped.saves (file_at text t)) (record d.scoped { file = file_at text t }) (record { at = t.start; why = Repeated }) d f
act-leaves text AddInput t d f = input-leaves (OpVariants.Input d.given.dims d.given.chunks) (top_mark d.waiting).start (record d { waiting = without_mark d.waiting; given = record d.given { dims = []; chunks = [] } }) refl f
act-leaves text Define t d f = ok-leaves _ f
act-leaves text SavedName t d f = refer-leaves (node_called d.scoped.names (bytes_of text t)) t.start d f
act-leaves text SaveFile t d f = kept-leaves (is_there d.scoped.saves (file_at text t) || is_there d.scoped.inputs (file_at text t)) (record d.scoped { saves = d.scoped.saves ++ record { name = file_at text t; node = top_node d.waiting } ∷ [] }) (record { at = t.start; why = Repeated }) (with_waiting (without_mark (without_node d.waiting)) d) f
act-leaves text OpenDims t d f = ok-leaves _ f
act-leaves text Dim t d f = if-leaves (nat_lt (number_at text t) (2 ^ 63)) _ _ (ok-leaves _ f) (refused-leaves _)
act-leaves text OpenChunks t d f = ok-leaves _ f
act-leaves text Even t d f = if-leaves (nat_lt (number_at text t) (2 ^ 63)) _ _ (ok-leaves _ f) (refused-leaves _)
act-leaves text OpenSizes t d f = ok-leaves _ f
act-leaves text Size t d f = if-leaves (nat_lt (number_at text t) (2 ^ 63)) _ _ (ok-leaves _ f) (refused-leaves _)
act-leaves text Sizes t d f = ok-leaves _ f
act-leaves text Mark t d f = ok-leaves _ f
act-leaves text Combine t d f = asking-leaves _ _ _ refl f
act-leaves text Negate t d f = asking-leaves _ _ _ refl f
act-leaves text Literal t d f = number-leaves (nat_lt (number_at text t) (2 ^ 63)) d (record { at = t.start; why = Number }) (λ e. asking_op (literal (pos (number_at text t))) t.start e) (asking-leaves (AskedVariants.Op (literal (pos (number_at text t)))) t.start d refl f)
act-leaves text NegativeLiteral t d f = number-leaves (nat_le (number_at text t) (2 ^ 63)) d (record { at = t.start; why = Number }) (λ e. asking_op (literal (negative (number_at text t))) (top_mark e.waiting).start (with_waiting (without_mark e.waiting) e)) (asking-leaves (AskedVariants.Op (literal (negative (number_at text t)))) (top_mark d.waiting).start (with_waiting (without_mark d.waiting) d) refl f)
act-leaves text Refer t d f = refer-leaves (node_called d.scoped.names (bytes_of text t)) t.start d f
act-leaves text Enter t d f = if-leaves (nat_lt d.waiting.depth 127) _ _ (ok-leaves _ f) (refused-leaves _)
act-leaves text Leave t d f = ok-leaves _ f
act-leaves text OpenParts t d f = ok-leaves _ f
act-leaves text AddSlice t d f = asking-leaves _ _ _ refl f
act-leaves text ReverseAxes t d f = asking-leaves _ _ _ refl f
act-leaves text OpenPart t d f = ok-leaves _ f
act-leaves text Positive t d f = if-leaves (nat_lt (number_at text t) (2 ^ 63)) _ _ (ok-leaves _ f) (refused-leaves _)
act-leaves text Negative t d f = if-leaves (nat_le (number_at text t) (2 ^ 63)) _ _ (ok-leaves _ f) (refused-leaves _)
act-leaves text Index t d f = ok-leaves _ f
act-leaves text Bound t d f = ok-leaves _ f
act-leaves text Range t d f = ok-leaves _ f
act-leaves text PlainFold t d f = ok-leaves _ f
act-leaves text FoldAxes t d f = ok-leaves _ f
act-leaves text FoldSplit t d f = if-leaves (nat_lt (number_at text t) (2 ^ 63)) _ _ (ok-leaves _ f) (refused-leaves _)
act-leaves text Reduce t d f = asking-leaves _ _ _ refl f
act-leaves text Choose t d f = asking-leaves _ _ _ refl f
act-leaves text AddTranspose t d f = asking-leaves _ _ _ refl f
act-leaves text AddRechunk t d f = asking-leaves _ _ _ refl f
act-leaves text OpenList t d f = ok-leaves _ f
act-leaves text ListAxis t d f = if-leaves (nat_lt (number_at text t) (2 ^ 63)) _ _ (ok-leaves _ f) (refused-leaves _)
act-leaves text AddConcatenate t d f = asking-leaves _ _ _ refl f
act-leaves text LeftAxes t d f = ok-leaves _ f
act-leaves text AddTensordot t d f = asking-leaves _ _ _ refl f
act-leaves text Value t d f = ok-leaves _ f
act-leaves text Step t d f = ok-leaves _ f
act-leaves text AddFull t d f = asking-leaves _ _ _ refl f
act-leaves text AddRamp t d f = asking-leaves _ _ _ refl f

run-fits : (text : List ℕ) (steps : List OneStep) (d : Drafted) → Fit d → Fit (run text steps d).draft
run-fits text [] d f = f
run-fits text (x ∷ steps) d f = by-result (after text x.action x.token d) (act-leaves text x.action x.token d f) (λ e g. run-fits text steps e g)
  where
    by-result : (r : Result Drafted Refusal) → Leaves r → ((e : Drafted) → Fit e → Fit (run text steps e).draft) → Fit (going_on r d (λ e. run text steps e)).draft
    by-result (Ok e) l more = more e (l e refl)
    by-result (Err r) l more = f

pub inputs-fit : (text : List ℕ) (steps : List OneStep) → map (λ n. n.node) (run text steps empty_draft).draft.scoped.inputs ≡ inputs_from 0 (run text steps empty_draft).draft.asked
inputs-fit text steps = run-fits text steps empty_draft refl
