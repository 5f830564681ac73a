-- The bytes of words, numbers and file names.
use Rattle.std.specs.Prelude.{ℕ, ◌+◌, ◌-◌, ◌*◌, ◌^◌, min, Bool, ◌&&◌, ◌||◌, not, nat_eq, nat_le, List, [], ◌∷◌}

abbrev pub is_digit : ℕ → Bool
is_digit b = nat_le 48 b && nat_le b 57

abbrev pub is_letter : ℕ → Bool
is_letter b = (nat_le 65 b && nat_le b 90) || ((nat_le 97 b && nat_le b 122) || nat_eq b 95)

abbrev pub is_word : ℕ → Bool
is_word b = is_letter b || is_digit b

-- 32 to 126, neither the double quote nor the backslash
abbrev pub is_file_byte : ℕ → Bool
is_file_byte b = (nat_le 32 b && nat_le b 126) && (not (nat_eq b 34) && not (nat_eq b 92))

-- the number that digits say behind those that said `so_far`
abbrev pub decimal_from : ℕ → List ℕ → ℕ
decimal_from so_far [] = so_far
decimal_from so_far (b ∷ w) = decimal_from (10 * so_far + (b - 48)) w

abbrev pub decimal : List ℕ → ℕ
decimal w = decimal_from 0 w

-- a number of any size in 64 bits
abbrev pub capped : ℕ → ℕ
capped n = min n (2 ^ 64 - 1)
