-- The kind of a byte of a header: bytes that stand in a token of their own, or in a word, have a kind each.
use Rattle.std.specs.Prelude.{ℕ, ◌+◌, cond, ◌&&◌, not, nat_eq, nat_le, List, [], ◌∷◌}

-- space, newline, braces, parentheses, colon, comma, quotes, the letters of the words, and 0
abbrev pub singles : List ℕ
singles = 32 ∷ 10 ∷ 123 ∷ 125 ∷ 40 ∷ 41 ∷ 58 ∷ 44 ∷ 39 ∷ 34 ∷ 100 ∷ 101 ∷ 115 ∷ 99 ∷ 114 ∷ 102 ∷ 111 ∷ 116 ∷ 97 ∷ 110 ∷ 95 ∷ 104 ∷ 112 ∷ 84 ∷ 117 ∷ 70 ∷ 108 ∷ 48 ∷ []

-- A byte past ASCII, by its part in UTF-8: 80 to 8F, 90 to 9F, A0 to BF; the first of two bytes; E0, another first of three, ED;
-- F0, F1 to F3, F4; or none of these.
abbrev pub kind_past : ℕ → ℕ
kind_past b =
    cond (nat_le b 127) 40 (cond (nat_le b 143) 30 (cond (nat_le b 159) 31 (cond (nat_le b 191) 32
    (cond (nat_le b 193) 40 (cond (nat_le b 223) 33 (cond (nat_le b 224) 34 (cond (nat_le b 236) 35 (cond (nat_le b 237) 36 (cond (nat_le b 239) 35
    (cond (nat_le b 240) 37 (cond (nat_le b 243) 38 (cond (nat_le b 244) 39 40))))))))))))

-- another digit, another byte that a string may hold, a byte past ASCII, or none of these
abbrev pub kind_of_rest : ℕ → ℕ
kind_of_rest b = cond (nat_le 49 b && nat_le b 57) 28 (cond ((nat_le 32 b && nat_le b 126) && not (nat_eq b 92)) 29 (kind_past b))

abbrev pub kind_from : ℕ → List ℕ → ℕ → ℕ
kind_from b [] i = kind_of_rest b
kind_from b (x ∷ xs) i = cond (nat_eq b x) i (kind_from b xs (i + 1))

unfoldable pub kind_of : ℕ → ℕ
kind_of b = kind_from b singles 0
