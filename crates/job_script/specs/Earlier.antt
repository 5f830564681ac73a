-- Operations name earlier ones.
use Rattle.std.specs.Prelude.{◌≡◌, ℕ, suc, ◌<◌, Bool, false, cond, List, [], ◌∷◌, length, map, slice_get, All, Some, None}
use Rattle.array_expr.specs.Elem.{is_input}
use Rattle.array_expr.specs.Node.{NamesNodes}
use Rattle.job_script.specs.declared.asked.Asked.{Asked}
use Rattle.job_script.specs.declared.asked.Asked.TheVariants as AskedVariants
use Rattle.job_script.specs.declared.asked.Placed.{Placed}
use Rattle.job_script.specs.Names.{Called}
use Rattle.job_script.specs.Scripts.{Scripted}

-- the operation names nodes among the first so many, as many as it needs
abbrev pub NamesEarlier : Asked → ℕ → Type 0
NamesEarlier (AskedVariants.Op op) count = NamesNodes op count
NamesEarlier (AskedVariants.ReverseAxes of) count = of < count

abbrev pub AreEarlier : List Placed → Type 0
AreEarlier asked = (k : ℕ) (p : Placed) → slice_get asked k ≡ Some p → NamesEarlier p.asked k

abbrev pub AreAsked : List Called → ℕ → Type 0
AreAsked list count = All (λ n. n.node < count) list

abbrev pub asks_input : Asked → Bool
asks_input (AskedVariants.Op op) = is_input op
asks_input (AskedVariants.ReverseAxes of) = false

-- the numbers of the inputs among these operations, the first of which has the number k
abbrev pub inputs_from : ℕ → List Placed → List ℕ
inputs_from k [] = []
inputs_from k (p ∷ rest) = cond (asks_input p.asked) (k ∷ inputs_from (suc k) rest) (inputs_from (suc k) rest)

-- Each operation names earlier ones, the inputs have a file each, in their order, and each save has a node.
pub record IsSound (s : Scripted) : Type 0 where
  pub asked_are : AreEarlier s.asked
  pub inputs_are : s.refusal ≡ None → map (λ n. n.node) s.inputs ≡ inputs_from 0 s.asked
  pub saves_are : s.refusal ≡ None → AreAsked s.saves (length s.asked)
