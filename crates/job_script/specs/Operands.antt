-- Operands that wait for their operation, and operations that wait for their operands.
use Rattle.std.specs.Prelude.{ℕ, ◌-◌, List, [], ◌∷◌, ◌++◌, take, length, slice_index_or}
use Rattle.job_tokens.specs.declared.token.Token.{Token}
use Rattle.job_steps.specs.Steps.{nothing_yet}

-- The last ones stand at the end.
pub record Waiting : Type 0 where
  pub nodes : List ℕ
  pub marks : List Token
  -- how many nodes stood below each list that is open
  pub lists : List ℕ
  -- how many parentheses, calls and lists are open
  pub depth : ℕ

abbrev pub nothing_waits : Waiting
nothing_waits = record { nodes = []; marks = []; lists = []; depth = 0 }

abbrev pub last_or : {X : Type 0} → X → List X → X
last_or d xs = slice_index_or xs (length xs - 1) d

abbrev pub without_last : {X : Type 0} → List X → List X
without_last xs = take (length xs - 1) xs

-- the node on top, and 0 where there is none
abbrev pub top_node : Waiting → ℕ
top_node w = last_or 0 w.nodes

abbrev pub top_mark : Waiting → Token
top_mark w = last_or nothing_yet w.marks

abbrev pub top_list : Waiting → ℕ
top_list w = last_or 0 w.lists

abbrev pub with_node : ℕ → Waiting → Waiting
with_node n w = record w { nodes = w.nodes ++ n ∷ [] }

abbrev pub without_node : Waiting → Waiting
without_node w = record w { nodes = without_last w.nodes }

abbrev pub without_mark : Waiting → Waiting
without_mark w = record w { marks = without_last w.marks }
