-- Histories: lists of entries in the order in which they were made.
use Rattle.std.specs.Prelude.{◌≡◌, ℕ, ◌+◌, ◌<◌, List, [], ◌∷◌, ◌++◌}
use Rattle.cluster_msgs.specs.declared.events.Entry.{Entry}

-- log begins with seen
abbrev pub StartsWith : List Entry → List Entry → Type 0
StartsWith log seen = (rest : List Entry) × (log ≡ seen ++ rest)

abbrev pub weigh : (Entry → ℕ) → List Entry → ℕ
weigh h [] = 0
weigh h (e ∷ es) = h e + weigh h es

-- all stamps of the list are above this one
abbrev pub AllAbove : ℕ → List Entry → Type 0
AllAbove n [] = Unit {0}
AllAbove n (e ∷ es) = (n < e.stamp) × AllAbove n es

-- the stamps are strictly ascending
abbrev pub Ascending : List Entry → Type 0
Ascending [] = Unit {0}
Ascending (e ∷ es) = AllAbove e.stamp es × Ascending es

-- the entries lead from the first core to the second, each by one step
module _ {C : Type 0} (steps : C → Entry → C → Type 0) where
  abbrev pub Replays : C → List Entry → C → Type 0
  Replays c [] d = c ≡ d
  Replays c (e ∷ es) d = (m : C) × steps c e m × Replays m es d
