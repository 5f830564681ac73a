-- The kinds of tokens that a grammar speaks of.
use Rattle.std.specs.Prelude.{ℕ, Bool, true, ◌&&◌, nat_lt, List, [], ◌∷◌}
use Rattle.job_grammar.specs.Phrases.{Phrase, token, action, named, nothing, then, or, many}

abbrev pub kinds_below : ℕ → Phrase → Bool
kinds_below m (token k) = nat_lt k m
kinds_below m (action a) = true
kinds_below m (named p) = true
kinds_below m nothing = true
kinds_below m (then a b) = kinds_below m a && kinds_below m b
kinds_below m (or a b) = kinds_below m a && kinds_below m b
kinds_below m (many a) = kinds_below m a

abbrev pub all_kinds_below : ℕ → List Phrase → Bool
all_kinds_below m [] = true
all_kinds_below m (x ∷ s) = kinds_below m x && all_kinds_below m s
