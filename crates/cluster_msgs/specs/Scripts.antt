-- What the items of a script do.
use Rattle.std.specs.Prelude.{ℕ, ◌+◌, List, [], ◌∷◌}
use Rattle.cluster_msgs.specs.declared.events.Item.{Item}
use Rattle.cluster_msgs.specs.declared.events.Item.TheVariants.{Lose, Suspect, Join}

-- how many workers an item takes away
abbrev pub removes_of : Item → ℕ
removes_of (Lose worker at) = 1
removes_of (Suspect worker at) = 1
removes_of (Join at) = 0

-- and how many the items of a script
abbrev pub removes_in : List Item → ℕ
removes_in [] = 0
removes_in (item ∷ items) = removes_of item + removes_in items
