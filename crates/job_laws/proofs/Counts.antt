-- A text asks for 65,536 operations at most.
use Rattle.std.proofs.Common.{◌≡◌, ℕ, ◌+◌, ◌^◌, ◌<◌, ◌≤◌, Bool, true, false, cond, ◌||◌, nat_lt, nat_le, List, [], ◌∷◌, ◌++◌, length, Some, None, Ok, Err, refl, sym, subst, arith, length-append}
use Rattle.std.specs.Prelude.{Option, Result, pos}
use Rattle.std.proofs.lemmas.Bool.Decides.{nat_tests}
use Rattle.array_expr.specs.declared.op.Op.TheVariants as OpVariants
use Rattle.job_tokens.specs.declared.token.Token.{Token}
use Rattle.job_grammar.specs.declared.action.Action.{Action}
use Rattle.job_grammar.specs.declared.action.Action.TheVariants.{Begin, Declare, InputFile, AddInput, Define, SavedName, SaveFile, OpenDims, Dim, OpenChunks, Even, OpenSizes, Size, Sizes, Mark, Combine, Negate, Literal, NegativeLiteral, Refer, Enter, Leave, OpenParts, AddSlice, ReverseAxes, OpenPart, Positive, Negative, Index, Bound, Range, PlainFold, FoldAxes, FoldSplit, Reduce, Choose, AddTranspose, AddRechunk, OpenList, ListAxis, AddConcatenate, LeftAxes, AddTensordot, Value, Step, AddFull, AddRamp}
use Rattle.job_steps.specs.declared.step.Step.{Step as OneStep}
use Rattle.job_script.specs.declared.asked.Asked.{Asked}
use Rattle.job_script.specs.declared.asked.Asked.TheVariants as AskedVariants
use Rattle.job_script.specs.declared.asked.Placed.{Placed}
use Rattle.job_script.specs.declared.asked.Refusal.{Refusal}
use Rattle.job_script.specs.declared.asked.Why.TheVariants.{Nodes, Number, UnknownName, Repeated, Statements}
use Rattle.job_script.specs.Words.{bytes_of, number_at, file_at, negative}
use Rattle.job_script.specs.Names.{node_called}
use Rattle.job_script.specs.Scopes.{Scoped, is_there}
use Rattle.job_script.specs.Operands.{top_node, top_mark, with_node, without_node, without_mark}
use Rattle.job_script.specs.Drafts.{Drafted, empty_draft, with_scoped, with_waiting, with_mark, asking, asking_op, or_refused, named_input, literal, refer}
use Rattle.job_script.specs.Meanings.{after}
use Rattle.job_script.specs.Scripts.{Scripted, going_on, run, IsScript}

abbrev Few : Drafted → Type 0
Few d = length d.asked ≤ 65536

abbrev Leaves : Result Drafted Refusal → Type 0
Leaves r = (e : Drafted) → r ≡ Ok e → Few e

ok-leaves : (x : Drafted) → Few x → Leaves (Ok x)
ok-leaves x f = λ e q. subst (λ y. Few y) (same e (Ok x) refl q) f
  where
    same : (e : Drafted) (r : Result Drafted Refusal) → r ≡ Ok x → r ≡ Ok e → x ≡ e
    same e r p q = cc

refused-leaves : (r : Refusal) → Leaves (Err r)
refused-leaves r = λ e q. absurd (never e q)
  where
    never : (e : Drafted) → Err r ≡ Ok e → ⊥
    never e q = cc

if-leaves : (b : Bool) (r q : Result Drafted Refusal) → Leaves r → Leaves q → Leaves (cond b r q)
if-leaves true r q x y = x
if-leaves false r q x y = y

number-leaves : (b : Bool) (x : Drafted) (r : Refusal) (f : Drafted → Result Drafted Refusal) → Leaves (f x) → Leaves (or_refused (cond b (Ok x) (Err r)) f)
number-leaves true x r f l = l
number-leaves false x r f l = refused-leaves r

scoped-leaves : (b : Bool) (s : Scoped) (r : Refusal) (d : Drafted) → Few d → Leaves (with_scoped (cond b (Ok s) (Err r)) d)
scoped-leaves true s r d h = ok-leaves (record d { scoped = s }) h
scoped-leaves false s r d h = refused-leaves r

kept-leaves : (b : Bool) (s : Scoped) (r : Refusal) (d : Drafted) → Few d → Leaves (with_scoped (cond b (Err r) (Ok s)) d)
kept-leaves true s r d h = refused-leaves r
kept-leaves false s r d h = ok-leaves (record d { scoped = s }) h

below : (n : ℕ) → nat_lt n 65536 ≡ true → n < 65536
below n e = grind (arith, nat_tests)

asking-leaves : (a : Asked) (at : ℕ) (d : Drafted) → Leaves (asking a at d)
asking-leaves a at d = by-test (nat_lt (length d.asked) 65536) refl
  where
    p : Placed
    p = record { asked = a; at = at }

    x : Drafted
    x = record d { asked = d.asked ++ p ∷ []; waiting = with_node (length d.asked) d.waiting }

    by-test : (b : Bool) → nat_lt (length d.asked) 65536 ≡ b → Leaves (cond b (Ok x) (Err (record { at = at; why = Nodes })))
    by-test true e = let h : length d.asked < 65536 = below (length d.asked) e in ok-leaves x (omega (arith, length-append d.asked (p ∷ [])))
    by-test false e = refused-leaves (record { at = at; why = Nodes })

then-leaves : (r : Result Drafted Refusal) → Leaves r → Leaves (or_refused r (λ e. Ok (named_input e)))
then-leaves (Ok x) l = ok-leaves (named_input x) (l x refl)
then-leaves (Err r) l = refused-leaves r

refer-leaves : (o : Option ℕ) (at : ℕ) (d : Drafted) → Few d → Leaves (refer o at d)
refer-leaves None at d f = refused-leaves (record { at = at; why = UnknownName })
refer-leaves (Some node) at d f = ok-leaves (record d { waiting = with_node node d.waiting }) f

act-leaves : (text : List ℕ) (a : Action) (t : Token) (d : Drafted) → Few d → Leaves (after text a t d)
act-leaves text Begin t d f = scoped-leaves (nat_lt d.scoped.statements 1024) (record d.scoped { statements = d.scoped.statements + 1 }) (record { at = t.start; why = Statements }) (with_mark t d) f
act-leaves text Declare t d f = kept-leaves (is_there d.scoped.names (bytes_of text t)) (record d.scoped { name = bytes_of text t }) (record { at = t.start; why = Repeated }) d f
act-leaves text InputFile t d f = kept-leaves (is_there d.scoped.saves (file_at text t)) (record d.scoped { file = file_at text t }) (record { at = t.start; why = Repeated }) d f
act-leaves text AddInput t d f = then-leaves (asking_op (OpVariants.Input d.given.dims d.given.chunks) (top_mark d.waiting).start (record d { waiting = without_mark d.waiting; given = record d.given { dims = []; chunks = [] } })) (asking-leaves (AskedVariants.Op (OpVariants.Input d.given.dims d.given.chunks)) (top_mark d.waiting).start (record d { waiting = without_mark d.waiting; given = record d.given { dims = []; chunks = [] } }))
act-leaves text Define t d f = ok-leaves _ f
act-leaves text SavedName t d f = refer-leaves (node_called d.scoped.names (bytes_of text t)) t.start d f
act-leaves text SaveFile t d f = kept-leaves (is_there d.scoped.saves (file_at text t) || is_there d.scoped.inputs (file_at text t)) (record d.scoped { saves = d.scoped.saves ++ record { name = file_at text t; node = top_node d.waiting } ∷ [] }) (record { at = t.start; why = Repeated }) (with_waiting (without_mark (without_node d.waiting)) d) f
act-leaves text OpenDims t d f = ok-leaves _ f
act-leaves text Dim t d f = if-leaves (nat_lt (number_at text t) (2 ^ 63)) _ _ (ok-leaves _ f) (refused-leaves _)
act-leaves text OpenChunks t d f = ok-leaves _ f
act-leaves text Even t d f = if-leaves (nat_lt (number_at text t) (2 ^ 63)) _ _ (ok-leaves _ f) (refused-leaves _)
act-leaves text OpenSizes t d f = ok-leaves _ f
act-leaves text Size t d f = if-leaves (nat_lt (number_at text t) (2 ^ 63)) _ _ (ok-leaves _ f) (refused-leaves _)
act-leaves text Sizes t d f = ok-leaves _ f
act-leaves text Mark t d f = ok-leaves _ f
act-leaves text Combine t d f = asking-leaves _ _ _
act-leaves text Negate t d f = asking-leaves _ _ _
act-leaves text Literal t d f = number-leaves (nat_lt (number_at text t) (2 ^ 63)) d (record { at = t.start; why = Number }) (λ e. asking_op (literal (pos (number_at text t))) t.start e) (asking-leaves (AskedVariants.Op (literal (pos (number_at text t)))) t.start d)
act-leaves text NegativeLiteral t d f = number-leaves (nat_le (number_at text t) (2 ^ 63)) d (record { at = t.start; why = Number }) (λ e. asking_op (literal (negative (number_at text t))) (top_mark e.waiting).start (with_waiting (without_mark e.waiting) e)) (asking-leaves (AskedVariants.Op (literal (negative (number_at text t)))) (top_mark d.waiting).start (with_waiting (without_mark d.waiting) d))
act-leaves text Refer t d f = refer-leaves (node_called d.scoped.names (bytes_of text t)) t.start d f
act-leaves text Enter t d f = if-leaves (nat_lt d.waiting.depth 127) _ _ (ok-leaves _ f) (refused-leaves _)
act-leaves text Leave t d f = ok-leaves _ f
act-leaves text OpenParts t d f = ok-leaves _ f
act-leaves text AddSlice t d f = asking-leaves _ _ _
act-leaves text ReverseAxes t d f = asking-leaves _ _ _
act-leaves text OpenPart t d f = ok-leaves _ f
act-leaves text Positive t d f = if-leaves (nat_lt (number_at text t) (2 ^ 63)) _ _ (ok-leaves _ f) (refused-leaves _)
act-leaves text Negative t d f = if-leaves (nat_le (number_at text t) (2 ^ 63)) _ _ (ok-leaves _ f) (refused-leaves _)
act-leaves text Index t d f = ok-leaves _ f
act-leaves text Bound t d f = ok-leaves _ f
act-leaves text Range t d f = ok-leaves _ f
act-leaves text PlainFold t d f = ok-leaves _ f
act-leaves text FoldAxes t d f = ok-leaves _ f
act-leaves text FoldSplit t d f = if-leaves (nat_lt (number_at text t) (2 ^ 63)) _ _ (ok-leaves _ f) (refused-leaves _)
act-leaves text Reduce t d f = asking-leaves _ _ _
act-leaves text Choose t d f = asking-leaves _ _ _
act-leaves text AddTranspose t d f = asking-leaves _ _ _
act-leaves text AddRechunk t d f = asking-leaves _ _ _
act-leaves text OpenList t d f = ok-leaves _ f
act-leaves text ListAxis t d f = if-leaves (nat_lt (number_at text t) (2 ^ 63)) _ _ (ok-leaves _ f) (refused-leaves _)
act-leaves text AddConcatenate t d f = asking-leaves _ _ _
act-leaves text LeftAxes t d f = ok-leaves _ f
act-leaves text AddTensordot t d f = asking-leaves _ _ _
act-leaves text Value t d f = ok-leaves _ f
act-leaves text Step t d f = ok-leaves _ f
act-leaves text AddFull t d f = asking-leaves _ _ _
act-leaves text AddRamp t d f = asking-leaves _ _ _

run-few : (text : List ℕ) (steps : List OneStep) (d : Drafted) → Few d → Few (run text steps d).draft
run-few text [] d f = f
run-few text (x ∷ steps) d f = by-result (after text x.action x.token d) (act-leaves text x.action x.token d f) (λ e g. run-few text steps e g)
  where
    by-result : (r : Result Drafted Refusal) → Leaves r → ((e : Drafted) → Few e → Few (run text steps e).draft) → Few (going_on r d (λ e. run text steps e)).draft
    by-result (Ok e) l more = more e (l e refl)
    by-result (Err r) l more = f

pub few-asked : (text : List ℕ) (s : Scripted) → IsScript text s → length s.asked ≤ 65536
few-asked text s i = subst (λ w. length w ≤ 65536) (sym i.asked) (run-few text i.found.steps empty_draft (omega arith))
