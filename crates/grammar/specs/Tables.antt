-- The grammar of a table: for each part and kind of token the number of a rule.
use Rattle.std.specs.Prelude.{ℕ, ◌+◌, Bool, true, cond, ◌&&◌, nat_lt, nat_le, List, [], ◌∷◌, Option, Some, None, reverse, length, slice_get, slice_index_or, slice_range}
use Rattle.grammar.specs.declared.symbol.Symbol.{Symbol}
use Rattle.grammar.specs.declared.symbol.Rule.{Rule}
use Rattle.grammar.specs.Grammars.{Grammar, cost}

-- For each part: by kind the number of the rule for what follows a token of that kind, the number of its other rule, and
-- more than the moves that it takes before a token is looked at.
pub record Rows : Type 0 where
  pub on : List (List (Option ℕ))
  pub other : List (Option ℕ)
  pub moves : List ℕ
  pub rules : List Rule
  pub symbols : List Symbol

-- a rule's symbols stand in the list in reverse
abbrev pub rule_of : Rows → Option Rule → Option (List Symbol)
rule_of r None = None
rule_of r (Some x) = cond (nat_le x.start x.end && nat_le x.end (length r.symbols)) (Some (reverse (slice_range r.symbols x.start x.end))) None

abbrev pub rule_maybe : Rows → Option ℕ → Option (List Symbol)
rule_maybe r None = None
rule_maybe r (Some i) = rule_of r (slice_get r.rules i)

-- an entry that may be missing
abbrev pub entry_rule : Rows → Option (Option ℕ) → Option (List Symbol)
entry_rule r None = None
entry_rule r (Some o) = rule_maybe r o

abbrev pub on_row : Rows → ℕ → Option (List (Option ℕ)) → Option (List Symbol)
on_row r k None = None
on_row r k (Some row) = entry_rule r (slice_get row k)

abbrev pub grammar_of : Rows → Grammar
grammar_of r = record {
  on = λ p k. on_row r k (slice_get r.on p);
  other = λ p. entry_rule r (slice_get r.other p);
  moves = λ p. slice_index_or r.moves p 0;
}

-- ---- the test that a reader of the table needs: each other rule costs less than its part, so the moves before a token end

-- each element passes at its number
abbrev pub all_at : {X : Type 0} → (ℕ → X → Bool) → ℕ → List X → Bool
all_at test i [] = true
all_at test i (x ∷ xs) = test i x && all_at test (i + 1) xs

abbrev pub costs_less : Rows → ℕ → Option (List Symbol) → Bool
costs_less r moves None = true
costs_less r moves (Some rule) = nat_lt (cost (grammar_of r) rule) moves

abbrev pub moves_end : Rows → Bool
moves_end r = all_at (λ p o. costs_less r (slice_index_or r.moves p 0) (rule_maybe r o)) 0 r.other
