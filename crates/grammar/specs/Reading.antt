-- What a reader is seen as, and what its calls make of it.
use Rattle.std.specs.Prelude.{◌≡◌, ℕ, List, [], ◌∷◌, ◌++◌, Option, Some, None}
use Rattle.grammar.specs.declared.symbol.Symbol.{Symbol}
use Rattle.grammar.specs.declared.reply.Reply.{Reply}
use Rattle.grammar.specs.declared.reply.Reply.TheVariants.{Taken, Refused}
use Rattle.grammar.specs.Grammars.{Move, takes, does, turns, stops, ends, Step, taken, refused}
use Rattle.grammar.specs.Tables.{Rows}

-- what is left of the text, and the actions of the last step
pub record Reading : Type 0 where
  pub table : Rows
  pub left : List Symbol
  pub actions : List ℕ

-- the step that a reply tells of
abbrev pub step_of : Reply → List ℕ → List Symbol → Step
step_of Taken actions left = taken actions left
step_of Refused actions left = refused actions

-- actions that were done before a step
abbrev pub after_actions : List ℕ → Step → Step
after_actions before (taken actions left) = taken (before ++ actions) left
after_actions before (refused actions) = refused (before ++ actions)

-- what one move leaves: no reply where more moves follow
abbrev pub Moved : Move → Option Reply → List Symbol → List ℕ → List ℕ → Type 0
Moved (takes s) (Some Taken) left old new = (left ≡ s) × (new ≡ old)
Moved (takes s) (Some Refused) left old new = ⊥
Moved (takes s) None left old new = ⊥
Moved (does a s) (Some r) left old new = ⊥
Moved (does a s) None left old new = (left ≡ s) × (new ≡ old ++ a ∷ [])
Moved (turns s) (Some r) left old new = ⊥
Moved (turns s) None left old new = (left ≡ s) × (new ≡ old)
Moved stops (Some Taken) left old new = ⊥
Moved stops (Some Refused) left old new = new ≡ old
Moved stops None left old new = ⊥
Moved ends (Some Taken) left old new = (left ≡ []) × (new ≡ old)
Moved ends (Some Refused) left old new = ⊥
Moved ends None left old new = ⊥
