-- Statements, names and files.
use Rattle.std.specs.Prelude.{ℕ, ◌+◌, Bool, ◌||◌, is_some, cond, nat_lt, List, [], ◌∷◌, ◌++◌, Result, Ok, Err}
use Rattle.job_script.specs.declared.asked.Refusal.{Refusal}
use Rattle.job_script.specs.declared.asked.Why.TheVariants.{Statements, Repeated}
use Rattle.job_script.specs.Names.{Called, node_called}

pub record Scoped : Type 0 where
  pub names : List Called
  pub inputs : List Called
  pub saves : List Called
  pub statements : ℕ
  -- the name and the file that the statement gives that is read
  pub name : List ℕ
  pub file : List ℕ

abbrev pub nothing_known : Scoped
nothing_known = record { names = []; inputs = []; saves = []; statements = 0; name = []; file = [] }

abbrev pub is_there : List Called → List ℕ → Bool
is_there list name = is_some (node_called list name)

abbrev pub refused : {A : Type 0} → ℕ → Rattle.job_script.specs.declared.asked.Why.Why → Result A Refusal
refused at why = Err (record { at = at; why = why })

abbrev pub begun : ℕ → Scoped → Result Scoped Refusal
begun at s = cond (nat_lt s.statements 1024) (Ok (record s { statements = s.statements + 1 })) (refused at Statements)

abbrev pub declared : List ℕ → ℕ → Scoped → Result Scoped Refusal
declared name at s = cond (is_there s.names name) (refused at Repeated) (Ok (record s { name = name }))

abbrev pub with_file : List ℕ → ℕ → Scoped → Result Scoped Refusal
with_file file at s = cond (is_there s.saves file) (refused at Repeated) (Ok (record s { file = file }))

abbrev pub defined : ℕ → Scoped → Scoped
defined node s = record s { names = s.names ++ record { name = s.name; node = node } ∷ [] }

-- an input: its node is defined, and takes the file that waits
abbrev pub with_input : ℕ → Scoped → Scoped
with_input node s = record (defined node s) { inputs = s.inputs ++ record { name = s.file; node = node } ∷ []; file = [] }

abbrev pub saved : List ℕ → ℕ → ℕ → Scoped → Result Scoped Refusal
saved file node at s = cond (is_there s.saves file || is_there s.inputs file) (refused at Repeated) (Ok (record s { saves = s.saves ++ record { name = file; node = node } ∷ [] }))
