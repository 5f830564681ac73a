-- The rows of the code are the rules of the named parts, and pass the tests of the crate grammar.
use Rattle.std.proofs.Common.{◌≡◌, ℕ, zero, suc, ◌+◌, Bool, true, false, List, [], ◌∷◌, map, Some, None, refl}
use Rattle.std.specs.Prelude.{Option, slice_index_or}
use Rattle.grammar.specs.declared.symbol.Symbol.{Symbol}
use Rattle.grammar.specs.declared.symbol.Symbol.TheVariants.{Token, Part, Action}
use Rattle.grammar.specs.Tables.{rule_maybe, moves_end}
use Rattle.grammar.specs.Tests.{is_ll1}
use Rattle.npy_header.specs.HeaderRows.{narrow_rows, wide_rows, rows_of, narrow_certificate, wide_certificate, certificate_of}
use Rattle.npy_header.specs.Typed.{HPart, start, HSym, letter, sub, act, on_part, other_part, parts}

abbrev pub part_at : ℕ → HPart
part_at p = slice_index_or parts p start

abbrev pub typed : List Symbol → List HSym
typed [] = []
typed (Token k ∷ s) = letter k ∷ typed s
typed (Part p ∷ s) = sub (part_at p) ∷ typed s
typed (Action a ∷ s) = act a ∷ typed s

abbrev pub typed_maybe : Option (List Symbol) → Option (List HSym)
typed_maybe None = None
typed_maybe (Some s) = Some (typed s)

abbrev pub numbers : ℕ → ℕ → List ℕ
numbers zero i = []
numbers (suc n) i = i ∷ numbers n (i + 1)

pub same_on : (wide : Bool) → map (λ (row : List (Option ℕ)). map (λ o. typed_maybe (rule_maybe (rows_of wide) o)) row) (rows_of wide).on ≡ map (λ p. map (λ k. on_part wide p k) (numbers 48 0)) parts
unfolding narrow_rows wide_rows parts
same_on false = refl
same_on true = refl

pub same_other : (wide : Bool) → map (λ o. typed_maybe (rule_maybe (rows_of wide) o)) (rows_of wide).other ≡ map other_part parts
unfolding narrow_rows wide_rows parts
same_other false = refl
same_other true = refl

pub header_ll1 : (wide : Bool) → is_ll1 (rows_of wide) (certificate_of wide) ≡ true
unfolding narrow_rows wide_rows narrow_certificate wide_certificate
header_ll1 false = refl
header_ll1 true = refl

pub header_moves : (wide : Bool) → moves_end (rows_of wide) ≡ true
unfolding narrow_rows wide_rows
header_moves false = refl
header_moves true = refl
