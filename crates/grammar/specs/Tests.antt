-- A test that the next token decides in a table, and that each part stands for some text.
use Rattle.std.specs.Prelude.{ℕ, ◌+◌, ◌^◌, Bool, true, false, cond, ◌&&◌, ◌||◌, not, nat_eq, nat_lt, is_some, List, [], ◌∷◌, Option, Some, None, length, slice_get, slice_index_or, bit_and, bit_or}
use Rattle.grammar.specs.declared.symbol.Symbol.{Symbol}
use Rattle.grammar.specs.declared.symbol.Symbol.TheVariants.{Token, Part, Action}
use Rattle.grammar.specs.Tables.{Rows, rule_maybe, entry_rule, all_at}

-- For each part: the kinds that may begin it and those that may follow it, as sets of bits, whether it may be empty, and a
-- rank that is above those of all parts of one of its rules. Kinds are the numbers below `kinds`.
pub record Certificate : Type 0 where
  pub kinds : ℕ
  pub starts : List ℕ
  pub empty : List Bool
  pub follow : List ℕ
  pub ranks : List ℕ

abbrev pub mask_at : List ℕ → ℕ → ℕ
mask_at ms p = slice_index_or ms p 0

abbrev pub flag_at : List Bool → ℕ → Bool
flag_at bs p = slice_index_or bs p false

-- the kinds that may begin symbols
abbrev pub begin_mask : Certificate → List Symbol → ℕ
begin_mask c [] = 0
begin_mask c (Token k ∷ s) = 2 ^ k
begin_mask c (Action a ∷ s) = begin_mask c s
begin_mask c (Part p ∷ s) = bit_or (mask_at c.starts p) (cond (flag_at c.empty p) (begin_mask c s) 0)

abbrev pub may_be_empty : Certificate → List Symbol → Bool
may_be_empty c [] = true
may_be_empty c (Token k ∷ s) = false
may_be_empty c (Action a ∷ s) = may_be_empty c s
may_be_empty c (Part p ∷ s) = flag_at c.empty p && may_be_empty c s

abbrev pub within : ℕ → ℕ → Bool
within a b = nat_eq (bit_or a b) b

-- what may follow each part of the symbols is among what may follow that part
abbrev pub followed : Certificate → ℕ → List Symbol → Bool
followed c after [] = true
followed c after (Token k ∷ s) = followed c after s
followed c after (Action a ∷ s) = followed c after s
followed c after (Part p ∷ s) = within (bit_or (begin_mask c s) (cond (may_be_empty c s) after 0)) (mask_at c.follow p) && followed c after s

-- the symbols name kinds and parts that there are
abbrev pub named : ℕ → ℕ → List Symbol → Bool
named kinds parts [] = true
named kinds parts (Token k ∷ s) = nat_lt k kinds && named kinds parts s
named kinds parts (Action a ∷ s) = named kinds parts s
named kinds parts (Part p ∷ s) = nat_lt p parts && named kinds parts s

-- the symbols' parts have ranks below this one
abbrev pub ranked : Certificate → ℕ → List Symbol → Bool
ranked c rank [] = true
ranked c rank (Token k ∷ s) = ranked c rank s
ranked c rank (Action a ∷ s) = ranked c rank s
ranked c rank (Part p ∷ s) = nat_lt (mask_at c.ranks p) rank && ranked c rank s

abbrev pub on_passes : Rows → Certificate → ℕ → ℕ → Option (List Symbol) → Bool
on_passes r c p k None = true
on_passes r c p k (Some s) = (nat_lt k c.kinds && named c.kinds (length r.on) s) && (within (2 ^ k) (mask_at c.starts p) && followed c (mask_at c.follow p) s)

-- the kinds for which there is a rule
abbrev pub on_mask : Rows → ℕ → List (Option ℕ) → ℕ
on_mask r k [] = 0
on_mask r k (o ∷ os) = bit_or (cond (is_some (rule_maybe r o)) (2 ^ k) 0) (on_mask r (k + 1) os)

abbrev pub other_passes : Rows → Certificate → ℕ → List (Option ℕ) → Option (List Symbol) → Bool
other_passes r c p on None = true
other_passes r c p on (Some s) =
    within (begin_mask c s) (mask_at c.starts p)
    && ((not (may_be_empty c s) || flag_at c.empty p)
    && (followed c (mask_at c.follow p) s
    && (nat_eq (bit_and (on_mask r 0 on) (begin_mask c s)) 0
    && ((not (may_be_empty c s) || nat_eq (bit_and (on_mask r 0 on) (mask_at c.follow p)) 0)
    && named c.kinds (length r.on) s))))

abbrev pub lower_rule : Certificate → ℕ → Option (List Symbol) → Bool
lower_rule c rank None = false
lower_rule c rank (Some s) = ranked c rank s

abbrev pub lower_on : Rows → Certificate → ℕ → List (Option ℕ) → Bool
lower_on r c rank [] = false
lower_on r c rank (o ∷ os) = lower_rule c rank (rule_maybe r o) || lower_on r c rank os

abbrev pub row_of : Rows → ℕ → List (Option ℕ)
row_of r p = slice_index_or r.on p []

abbrev pub row_passes : Rows → Certificate → ℕ → List (Option ℕ) → Bool
row_passes r c p row =
    all_at (λ k o. on_passes r c p k (rule_maybe r o)) 0 row
    && (lower_rule c (mask_at c.ranks p) (entry_rule r (slice_get r.other p)) || lower_on r c (mask_at c.ranks p) row)

abbrev pub is_ll1 : Rows → Certificate → Bool
is_ll1 r c =
    all_at (λ p row. row_passes r c p row) 0 r.on
    && all_at (λ p o. other_passes r c p (row_of r p) (rule_maybe r o)) 0 r.other
