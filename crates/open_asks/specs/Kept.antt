-- The open asks as they are kept.
use Rattle.std.specs.Prelude.{ℕ, ◌==◌, List, [], ◌∷◌, Option, Some, None, cond}
use Rattle.cluster_rules.specs.Worker.{Ask}

-- how many keys there are, and the asks, ascending by peer
pub record Kept : Type 0 where
  pub wide : ℕ
  pub asks : List Ask

-- the items of an ask, where it has this number
abbrev pub asked_items : Option Ask → ℕ → Option (List (ℕ × ℕ))
asked_items None n = None
asked_items (Some a) n = cond (a.number == n) (Some a.items) None

-- without the first ask to this peer
abbrev pub without_first : List Ask → ℕ → List Ask
without_first [] p = []
without_first (a ∷ bs) p = cond (a.peer == p) bs (a ∷ without_first bs p)
