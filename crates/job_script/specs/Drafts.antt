-- What a text has asked for so far, and what each step of it does.
use Rattle.std.specs.Prelude.{ℕ, ◌+◌, ◌^◌, ℤ, cond, nat_le, nat_lt, List, [], ◌∷◌, ◌++◌, length, take, drop, Option, Some, None, Result, Ok, Err}
use Rattle.array_expr.specs.declared.op.Op.{Op}
use Rattle.array_expr.specs.declared.op.Op.TheVariants as OpVariants
use Rattle.job_tokens.specs.declared.token.Token.{Token}
use Rattle.job_script.specs.declared.asked.Asked.{Asked}
use Rattle.job_script.specs.declared.asked.Asked.TheVariants as AskedVariants
use Rattle.job_script.specs.declared.asked.Placed.{Placed}
use Rattle.job_script.specs.declared.asked.Refusal.{Refusal}
use Rattle.job_script.specs.declared.asked.Why.TheVariants.{Nodes, Depth, Number, UnknownName}
use Rattle.job_script.specs.Words.{number_at, binary_of, fold_of}
use Rattle.job_script.specs.Arguments.{Given, nothing_given}
use Rattle.job_script.specs.Operands.{Waiting, nothing_waits, without_last, top_node, top_mark, top_list, with_node, without_node, without_mark}
use Rattle.job_script.specs.Scopes.{Scoped, nothing_known, refused, defined, with_input}

pub record Drafted : Type 0 where
  pub given : Given
  pub waiting : Waiting
  pub scoped : Scoped
  pub asked : List Placed

abbrev pub empty_draft : Drafted
empty_draft = record { given = nothing_given; waiting = nothing_waits; scoped = nothing_known; asked = [] }

-- ---- parts of a draft changed

abbrev pub with_given : Given → Drafted → Drafted
with_given g d = record d { given = g }

abbrev pub with_waiting : Waiting → Drafted → Drafted
with_waiting w d = record d { waiting = w }

abbrev pub with_mark : Token → Drafted → Drafted
with_mark t d = record d { waiting = record d.waiting { marks = d.waiting.marks ++ t ∷ [] } }

abbrev pub with_scoped : Result Scoped Refusal → Drafted → Result Drafted Refusal
with_scoped (Ok s) d = Ok (record d { scoped = s })
with_scoped (Err r) d = Err r

-- One more operation, whose node waits as an operand; at most 65,536.
abbrev pub asking : Asked → ℕ → Drafted → Result Drafted Refusal
asking a at d =
    cond (nat_lt (length d.asked) 65536)
    (Ok (record d { asked = d.asked ++ record { asked = a; at = at } ∷ []; waiting = with_node (length d.asked) d.waiting }))
    (refused at Nodes)

abbrev pub asking_op : Op → ℕ → Drafted → Result Drafted Refusal
asking_op op at d = asking (AskedVariants.Op op) at d

-- a number of at most 2^63 - 1
abbrev pub with_number : List ℕ → Token → (ℕ → Drafted) → Result Drafted Refusal
with_number text t then = cond (nat_lt (number_at text t) (2 ^ 63)) (Ok (then (number_at text t))) (refused t.start Number)

-- a number of at most 2^63, behind a minus sign
abbrev pub with_negative : List ℕ → Token → (ℕ → Drafted) → Result Drafted Refusal
with_negative text t then = cond (nat_le (number_at text t) (2 ^ 63)) (Ok (then (number_at text t))) (refused t.start Number)

-- what is asked for once a number is known
abbrev pub or_refused : {A B : Type 0} → Result A Refusal → (A → Result B Refusal) → Result B Refusal
or_refused (Ok a) then = then a
or_refused (Err r) then = Err r

-- ---- the steps

-- an input or a let gives its node a name
abbrev pub named_input : Drafted → Drafted
named_input d = record d { scoped = with_input (top_node d.waiting) d.scoped; waiting = without_node d.waiting }

abbrev pub named_let : Drafted → Drafted
named_let d = record d { scoped = defined (top_node d.waiting) d.scoped; waiting = without_mark (without_node d.waiting) }

-- a literal is an array without axes
abbrev pub literal : ℤ → Op
literal z = OpVariants.Full [] z []

abbrev pub combine : Drafted → Result Drafted Refusal
combine d =
    let m = top_mark d.waiting in
    let right = top_node d.waiting in
    let below = without_node d.waiting in
    asking_op (OpVariants.Elementwise (binary_of m.kind) (top_node below) right) m.start (record d { waiting = without_mark (without_node below) })

abbrev pub negate : Drafted → Result Drafted Refusal
negate d = asking_op (OpVariants.Negate (top_node d.waiting)) (top_mark d.waiting).start (record d { waiting = without_mark (without_node d.waiting) })

abbrev pub slice : Drafted → Result Drafted Refusal
slice d = asking_op (OpVariants.Slice (top_node d.waiting) d.given.parts) (top_mark d.waiting).start (record d { waiting = without_mark (without_node d.waiting); given = record d.given { parts = [] } })

abbrev pub reduce : Drafted → Result Drafted Refusal
reduce d =
    let m = top_mark d.waiting in
    asking_op (OpVariants.Reduce (fold_of m.kind) (top_node d.waiting) d.given.axes d.given.split) m.start (record d { waiting = without_mark (without_node d.waiting); given = record d.given { axes = None } })

abbrev pub choose : Drafted → Result Drafted Refusal
choose d =
    let w1 = without_node d.waiting in
    let w2 = without_node w1 in
    asking_op (OpVariants.Where (top_node w2) (top_node w1) (top_node d.waiting)) (top_mark d.waiting).start (record d { waiting = without_mark (without_node w2) })

abbrev pub transpose : Drafted → Result Drafted Refusal
transpose d = asking_op (OpVariants.Transpose (top_node d.waiting) d.given.dims) (top_mark d.waiting).start (record d { waiting = without_mark (without_node d.waiting); given = record d.given { dims = [] } })

abbrev pub rechunk : Drafted → Result Drafted Refusal
rechunk d = asking_op (OpVariants.Rechunk (top_node d.waiting) d.given.chunks) (top_mark d.waiting).start (record d { waiting = without_mark (without_node d.waiting); given = record d.given { chunks = [] } })

abbrev pub concatenate : Drafted → Result Drafted Refusal
concatenate d =
    let w = d.waiting in
    asking_op (OpVariants.Concatenate (drop (top_list w) w.nodes) d.given.axis) (top_mark w).start (record d { waiting = record w { nodes = take (top_list w) w.nodes; lists = without_last w.lists; marks = without_last w.marks } })

abbrev pub tensordot : Drafted → Result Drafted Refusal
tensordot d =
    let right = top_node d.waiting in
    let below = without_node d.waiting in
    asking_op (OpVariants.Tensordot (top_node below) right d.given.left_axes d.given.dims) (top_mark d.waiting).start (record d { waiting = without_mark (without_node below); given = record d.given { dims = []; left_axes = [] } })

abbrev pub full : Drafted → Result Drafted Refusal
full d = asking_op (OpVariants.Full d.given.dims d.given.value d.given.chunks) (top_mark d.waiting).start (record d { waiting = without_mark d.waiting; given = record d.given { dims = []; chunks = [] } })

abbrev pub ramp : Drafted → Result Drafted Refusal
ramp d = asking_op (OpVariants.Ramp d.given.dims d.given.value d.given.step d.given.chunks) (top_mark d.waiting).start (record d { waiting = without_mark d.waiting; given = record d.given { dims = []; chunks = [] } })

abbrev pub input : Drafted → Result Drafted Refusal
input d =
    or_refused (asking_op (OpVariants.Input d.given.dims d.given.chunks) (top_mark d.waiting).start (record d { waiting = without_mark d.waiting; given = record d.given { dims = []; chunks = [] } }))
    (λ e. Ok (named_input e))

abbrev pub refer : Option ℕ → ℕ → Drafted → Result Drafted Refusal
refer None at d = refused at UnknownName
refer (Some node) at d = Ok (record d { waiting = with_node node d.waiting })

-- at most 127 are open at once
abbrev pub enter : ℕ → Drafted → Result Drafted Refusal
enter at d = cond (nat_lt d.waiting.depth 127) (Ok (record d { waiting = record d.waiting { depth = d.waiting.depth + 1 } })) (refused at Depth)
