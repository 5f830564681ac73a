-- A test that the rows of a table derive what a grammar derives: what each part of the rows stands for begins in the same ways as
-- its rules.
use Rattle.std.specs.Prelude.{ℕ, zero, suc, ◌+◌, Bool, true, false, cond, ◌&&◌, nat_eq, is_some, List, [], ◌∷◌, ◌++◌, map, Option, Some, None, slice_get}
use Rattle.grammar.specs.declared.symbol.Symbol.{Symbol}
use Rattle.grammar.specs.declared.symbol.Symbol.TheVariants.{Token, Part, Action}
use Rattle.grammar.specs.Tables.{Rows, rule_maybe, entry_rule, all_at}
use Rattle.job_grammar.specs.Phrases.{Phrase, token, action, named, nothing, then, or, many}

-- ---- phrases that are the same

abbrev pub same : Phrase → Phrase → Bool
same (token j) (token k) = nat_eq j k
same (action a) (action b) = nat_eq a b
same (named p) (named q) = nat_eq p q
same nothing nothing = true
same (then a b) (then c d) = same a c && same b d
same (or a b) (or c d) = same a c && same b d
same (many a) (many b) = same a b
same _ _ = false

abbrev pub same_all : List Phrase → List Phrase → Bool
same_all [] [] = true
same_all [] (y ∷ ys) = false
same_all (x ∷ xs) [] = false
same_all (x ∷ xs) (y ∷ ys) = same x y && same_all xs ys

abbrev pub is_among : List Phrase → List (List Phrase) → Bool
is_among x [] = false
is_among x (y ∷ ys) = cond (same_all x y) true (is_among x ys)

abbrev pub are_among : List (List Phrase) → List (List Phrase) → Bool
are_among [] ys = true
are_among (x ∷ xs) ys = is_among x ys && are_among xs ys

abbrev pub same_sets : List (List Phrase) → List (List Phrase) → Bool
same_sets xs ys = are_among xs ys && are_among ys xs

-- ---- the ways in which phrases begin: actions, then a token or the end

-- without sequences at the top
abbrev pub flat_before : Phrase → List Phrase → List Phrase
flat_before nothing s = s
flat_before (then a b) s = flat_before a (flat_before b s)
flat_before (token k) s = token k ∷ s
flat_before (action a) s = action a ∷ s
flat_before (named p) s = named p ∷ s
flat_before (or a b) s = or a b ∷ s
flat_before (many a) s = many a ∷ s

abbrev pub flat : List Phrase → List Phrase
flat [] = []
flat (x ∷ s) = flat_before x (flat s)

abbrev pub joined : Option (List (List Phrase)) → Option (List (List Phrase)) → Option (List (List Phrase))
joined None ys = None
joined (Some xs) None = None
joined (Some xs) (Some ys) = Some (xs ++ ys)

abbrev pub each_behind : Phrase → Option (List (List Phrase)) → Option (List (List Phrase))
each_behind x None = None
each_behind x (Some ys) = Some (map (λ y. x ∷ y) ys)

-- None where more steps are needed
unfoldable pub heads : (ℕ → Phrase) → ℕ → List Phrase → Option (List (List Phrase))
heads rule zero s = None
heads rule (suc n) [] = Some ([] ∷ [])
heads rule (suc n) (token k ∷ s) = Some ((token k ∷ flat s) ∷ [])
heads rule (suc n) (action a ∷ s) = each_behind (action a) (heads rule n s)
heads rule (suc n) (named p ∷ s) = heads rule n (rule p ∷ s)
heads rule (suc n) (nothing ∷ s) = heads rule n s
heads rule (suc n) (then a b ∷ s) = heads rule n (a ∷ b ∷ s)
heads rule (suc n) (or a b ∷ s) = joined (heads rule n (a ∷ s)) (heads rule n (b ∷ s))
heads rule (suc n) (many a ∷ s) = joined (heads rule n s) (heads rule n (a ∷ many a ∷ s))

-- ---- the test

-- what symbols stand for
abbrev pub phrases : (ℕ → List Phrase) → List Symbol → List Phrase
phrases meaning [] = []
phrases meaning (Token k ∷ s) = token k ∷ phrases meaning s
phrases meaning (Part p ∷ s) = meaning p ++ phrases meaning s
phrases meaning (Action a ∷ s) = action a ∷ phrases meaning s

-- the kind of the token with which a way begins
abbrev pub begins_with : List Phrase → Option ℕ
begins_with [] = None
begins_with (token k ∷ s) = Some k
begins_with (action a ∷ s) = None
begins_with (named p ∷ s) = None
begins_with (nothing ∷ s) = None
begins_with (then a b ∷ s) = None
begins_with (or a b ∷ s) = None
begins_with (many a ∷ s) = None

abbrev pub is_kind : Option ℕ → ℕ → Bool
is_kind None k = false
is_kind (Some j) k = nat_eq j k

abbrev pub rest : List Phrase → List Phrase
rest [] = []
rest (x ∷ s) = s

-- what follows a token of this kind, in the ways that begin with one
abbrev pub behind_token : ℕ → List (List Phrase) → List (List Phrase)
behind_token k [] = []
behind_token k (w ∷ ways) = cond (is_kind (begins_with w) k) (rest w ∷ behind_token k ways) (behind_token k ways)

-- whether a row has a rule of its own for the token with which a way begins
abbrev pub has_rule : Rows → List (Option ℕ) → Option ℕ → Bool
has_rule r row None = false
has_rule r row (Some k) = is_some (entry_rule r (slice_get row k))

abbrev pub not_taken : Rows → List (Option ℕ) → List (List Phrase) → List (List Phrase)
not_taken r row [] = []
not_taken r row (w ∷ ways) = cond (has_rule r row (begins_with w)) (not_taken r row ways) (w ∷ not_taken r row ways)

abbrev pub all_heads : (ℕ → Phrase) → ℕ → List (List Phrase) → Option (List (List Phrase))
all_heads rule n [] = Some []
all_heads rule n (s ∷ ss) = joined (heads rule n s) (all_heads rule n ss)

abbrev pub same_ways : Option (List (List Phrase)) → Option (List (List Phrase)) → Bool
same_ways None ys = false
same_ways (Some xs) None = false
same_ways (Some xs) (Some ys) = same_sets xs ys

-- a rule for what follows a token of kind k stands for what follows one in these ways
abbrev pub same_on : (ℕ → Phrase) → ℕ → (ℕ → List Phrase) → List (List Phrase) → ℕ → Option (List Symbol) → Bool
same_on rule n meaning ways k None = true
same_on rule n meaning ways k (Some s) = same_ways (all_heads rule n (behind_token k ways)) (heads rule n (phrases meaning s))

-- the other rule stands for these ways
abbrev pub same_other : (ℕ → Phrase) → ℕ → (ℕ → List Phrase) → List (List Phrase) → Option (List Symbol) → Bool
same_other rule n meaning ways None = same_ways (Some ways) (Some [])
same_other rule n meaning ways (Some s) = same_ways (Some ways) (heads rule n (phrases meaning s))

abbrev pub row_same : (ℕ → Phrase) → ℕ → (ℕ → List Phrase) → Rows → ℕ → List (Option ℕ) → Option (List (List Phrase)) → Bool
row_same rule n meaning r p row None = false
row_same rule n meaning r p row (Some ways) =
    all_at (λ k o. same_on rule n meaning ways k (rule_maybe r o)) 0 row
    && same_other rule n meaning (not_taken r row ways) (entry_rule r (slice_get r.other p))

-- each part of the rows begins as what it stands for begins, in n steps at most
abbrev pub rows_same : (ℕ → Phrase) → ℕ → (ℕ → List Phrase) → Rows → Bool
rows_same rule n meaning r = all_at (λ p row. row_same rule n meaning r p row (heads rule n (meaning p))) 0 r.on
