-- What an operation leaves of elements. Nothing stands for a zero divisor, and for what was made of one.
use Rattle.std.specs.Prelude.{List, [], ◌∷◌, Bool, true, false, cond, zero, suc, ℤ, pos, negsuc, ◌+ℤ◌, ◌-ℤ◌, ◌*ℤ◌}
use Rattle.std.specs.Prelude.{Option, Some, None}
use Rattle.std.specs.Int.{int_min, int_max}
use Rattle.nd_grid.specs.declared.operation.Binary.{Binary}
use Rattle.nd_grid.specs.declared.operation.Binary.TheVariants.{Add, Sub, Mul, FloorDiv, Rem, Minimum, Maximum}
use Rattle.nd_grid.specs.declared.operation.Fold.{Fold}
use Rattle.nd_grid.specs.declared.operation.Fold.TheVariants.{Sum, Prod, Min, Max}
use Rattle.nd_grid.specs.Int64.{wrap, floor_div, floor_rem}

abbrev pub is_zero : ℤ → Bool
is_zero (pos zero) = true
is_zero (pos (suc n)) = false
is_zero (negsuc n) = false

abbrev pub apply : Binary → ℤ → ℤ → Option ℤ
apply Add a b = Some (wrap (a +ℤ b))
apply Sub a b = Some (wrap (a -ℤ b))
apply Mul a b = Some (wrap (a *ℤ b))
apply FloorDiv a b = cond (is_zero b) None (Some (wrap (floor_div a b)))
apply Rem a b = cond (is_zero b) None (Some (wrap (floor_rem a b)))
apply Minimum a b = Some (int_min a b)
apply Maximum a b = Some (int_max a b)

abbrev pub combine : Binary → Option ℤ → Option ℤ → Option ℤ
combine op None y = None
combine op (Some a) None = None
combine op (Some a) (Some b) = apply op a b

-- the second where the first isn't 0, else the third
abbrev pub pick : ℤ → ℤ → ℤ → ℤ
pick c a b = cond (is_zero c) b a

-- all three are used
abbrev pub pick_all : Option ℤ → Option ℤ → Option ℤ → Option ℤ
pick_all None y z = None
pick_all (Some c) None z = None
pick_all (Some c) (Some a) None = None
pick_all (Some c) (Some a) (Some b) = Some (pick c a b)

abbrev pub negated_element : Option ℤ → Option ℤ
negated_element None = None
negated_element (Some a) = Some (wrap (pos 0 -ℤ a))

-- where a fold begins; it changes nothing
abbrev pub neutral : Fold → ℤ
neutral Sum = pos 0
neutral Prod = pos 1
neutral Min = pos 9223372036854775807
neutral Max = negsuc 9223372036854775807

abbrev pub fold_two : Fold → ℤ → ℤ → ℤ
fold_two Sum a b = wrap (a +ℤ b)
fold_two Prod a b = wrap (a *ℤ b)
fold_two Min a b = int_min a b
fold_two Max a b = int_max a b

abbrev pub combine_two : Fold → Option ℤ → Option ℤ → Option ℤ
combine_two fold None y = None
combine_two fold (Some a) None = None
combine_two fold (Some a) (Some b) = Some (fold_two fold a b)

-- all elements folded, from the first on
abbrev pub folded_from : Fold → Option ℤ → List (Option ℤ) → Option ℤ
folded_from fold x [] = x
folded_from fold x (y ∷ ys) = folded_from fold (combine_two fold x y) ys

abbrev pub folded : Fold → List (Option ℤ) → Option ℤ
folded fold ys = folded_from fold (Some (neutral fold)) ys
