-- What a `KeySet` keeps.
use Rattle.key_sets.specs.Marked.{IsMarked}
use Rattle.key_sets.specs.declared.set.KeySet.TheInside.{Inside}

abbrev pub IsKept : Inside → Type 0
IsKept s = IsMarked s.words.items s.full
