-- The tree that folds partial results: groups of so many, the last of a level maybe smaller, until one is left.
use Rattle.std.specs.Prelude.{ℕ, zero, suc, cond, nat_lt, List, [], ◌∷◌, length}
use Rattle.nd_shape.specs.Chunk.{even_chunks}

abbrev pub levels_within : ℕ → ℕ → ℕ → List (List ℕ)
levels_within zero n split = []
levels_within (suc f) n split = cond (nat_lt n 2) [] (even_chunks n split ∷ levels_within f (length (even_chunks n split)) split)

-- the sizes of the groups of each level
abbrev pub tree : ℕ → ℕ → List (List ℕ)
tree n split = levels_within n n split
