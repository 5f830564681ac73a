-- The rows of the code, and the tables by which they pass the tests of the crate grammar. Those of a wide header differ within
-- strings alone.
use Rattle.std.specs.Prelude.{Bool, true, false, [], ◌∷◌}
use Rattle.grammar.specs.Tables.{Rows}
use Rattle.grammar.specs.Tests.{Certificate}
use Rattle.npy_header.specs.declared.rows.TheConstants.{ON, ON_WIDE, OTHER, MOVES}
use Rattle.npy_header.specs.declared.rules.TheConstants.{RULES, SYMBOLS}

unfoldable pub narrow_rows : Rows
narrow_rows = record { on = ON; other = OTHER; moves = MOVES; rules = RULES; symbols = SYMBOLS }

unfoldable pub wide_rows : Rows
wide_rows = record { on = ON_WIDE; other = OTHER; moves = MOVES; rules = RULES; symbols = SYMBOLS }

abbrev pub rows_of : Bool → Rows
rows_of false = narrow_rows
rows_of true = wide_rows

unfoldable pub narrow_certificate : Certificate
narrow_certificate = record {
  kinds = 41;
  starts = 4 ∷ 3 ∷ 1 ∷ 768 ∷ 41943040 ∷ 16 ∷ 1073741565 ∷ 1073741309 ∷ 402653216 ∷ 402653216 ∷ 160 ∷ 402653184 ∷ 768 ∷ 768 ∷ 768 ∷ 768 ∷ 768 ∷ 768 ∷ 768 ∷ 37888 ∷ 37888 ∷ 33792 ∷ 33792 ∷ 5120 ∷ 5120 ∷ 1024 ∷ 1024 ∷ 36864 ∷ 36864 ∷ 32768 ∷ 32768 ∷ 4096 ∷ 4096 ∷ 128 ∷ 128 ∷ 128 ∷ 128 ∷ 128 ∷ 128 ∷ 128 ∷ 7516192768 ∷ 3221225472 ∷ 6442450944 ∷ 4294967296 ∷ 1073741824 ∷ [];
  empty = false ∷ false ∷ true ∷ false ∷ false ∷ false ∷ true ∷ true ∷ false ∷ false ∷ false ∷ true ∷ false ∷ false ∷ false ∷ false ∷ false ∷ false ∷ false ∷ false ∷ false ∷ false ∷ false ∷ false ∷ false ∷ false ∷ false ∷ false ∷ false ∷ false ∷ false ∷ false ∷ false ∷ false ∷ false ∷ false ∷ false ∷ false ∷ false ∷ true ∷ false ∷ false ∷ false ∷ false ∷ false ∷ [];
  follow = 0 ∷ 0 ∷ 444597240 ∷ 137 ∷ 137 ∷ 137 ∷ 256 ∷ 512 ∷ 137 ∷ 137 ∷ 137 ∷ 161 ∷ 8 ∷ 8 ∷ 8 ∷ 8 ∷ 8 ∷ 8 ∷ 8 ∷ 8 ∷ 8 ∷ 8 ∷ 8 ∷ 8 ∷ 8 ∷ 8 ∷ 8 ∷ 8 ∷ 8 ∷ 8 ∷ 8 ∷ 8 ∷ 8 ∷ 8 ∷ 8 ∷ 8 ∷ 8 ∷ 8 ∷ 8 ∷ 8 ∷ 0 ∷ 0 ∷ 0 ∷ 0 ∷ 0 ∷ [];
  ranks = 9 ∷ 0 ∷ 0 ∷ 1 ∷ 0 ∷ 1 ∷ 0 ∷ 0 ∷ 0 ∷ 0 ∷ 0 ∷ 0 ∷ 8 ∷ 5 ∷ 6 ∷ 3 ∷ 5 ∷ 2 ∷ 3 ∷ 7 ∷ 7 ∷ 4 ∷ 4 ∷ 5 ∷ 5 ∷ 2 ∷ 2 ∷ 4 ∷ 4 ∷ 1 ∷ 1 ∷ 2 ∷ 2 ∷ 6 ∷ 7 ∷ 4 ∷ 6 ∷ 3 ∷ 4 ∷ 0 ∷ 0 ∷ 0 ∷ 0 ∷ 0 ∷ 0 ∷ [];
}

unfoldable pub wide_certificate : Certificate
wide_certificate = record {
  kinds = 41;
  starts = 4 ∷ 3 ∷ 1 ∷ 768 ∷ 41943040 ∷ 16 ∷ 1091995434749 ∷ 1091995434493 ∷ 402653216 ∷ 402653216 ∷ 160 ∷ 402653184 ∷ 768 ∷ 768 ∷ 768 ∷ 768 ∷ 768 ∷ 768 ∷ 768 ∷ 37888 ∷ 37888 ∷ 33792 ∷ 33792 ∷ 5120 ∷ 5120 ∷ 1024 ∷ 1024 ∷ 36864 ∷ 36864 ∷ 32768 ∷ 32768 ∷ 4096 ∷ 4096 ∷ 128 ∷ 128 ∷ 128 ∷ 128 ∷ 128 ∷ 128 ∷ 128 ∷ 7516192768 ∷ 3221225472 ∷ 6442450944 ∷ 4294967296 ∷ 1073741824 ∷ [];
  empty = false ∷ false ∷ true ∷ false ∷ false ∷ false ∷ true ∷ true ∷ false ∷ false ∷ false ∷ true ∷ false ∷ false ∷ false ∷ false ∷ false ∷ false ∷ false ∷ false ∷ false ∷ false ∷ false ∷ false ∷ false ∷ false ∷ false ∷ false ∷ false ∷ false ∷ false ∷ false ∷ false ∷ false ∷ false ∷ false ∷ false ∷ false ∷ false ∷ true ∷ false ∷ false ∷ false ∷ false ∷ false ∷ [];
  follow = 0 ∷ 0 ∷ 444597240 ∷ 137 ∷ 137 ∷ 137 ∷ 256 ∷ 512 ∷ 137 ∷ 137 ∷ 137 ∷ 161 ∷ 8 ∷ 8 ∷ 8 ∷ 8 ∷ 8 ∷ 8 ∷ 8 ∷ 8 ∷ 8 ∷ 8 ∷ 8 ∷ 8 ∷ 8 ∷ 8 ∷ 8 ∷ 8 ∷ 8 ∷ 8 ∷ 8 ∷ 8 ∷ 8 ∷ 8 ∷ 8 ∷ 8 ∷ 8 ∷ 8 ∷ 8 ∷ 8 ∷ 1099511627773 ∷ 7516192768 ∷ 7516192768 ∷ 7516192768 ∷ 7516192768 ∷ [];
  ranks = 9 ∷ 0 ∷ 0 ∷ 1 ∷ 0 ∷ 1 ∷ 0 ∷ 0 ∷ 0 ∷ 0 ∷ 0 ∷ 0 ∷ 8 ∷ 5 ∷ 6 ∷ 3 ∷ 5 ∷ 2 ∷ 3 ∷ 7 ∷ 7 ∷ 4 ∷ 4 ∷ 5 ∷ 5 ∷ 2 ∷ 2 ∷ 4 ∷ 4 ∷ 1 ∷ 1 ∷ 2 ∷ 2 ∷ 6 ∷ 7 ∷ 4 ∷ 6 ∷ 3 ∷ 4 ∷ 0 ∷ 0 ∷ 0 ∷ 0 ∷ 0 ∷ 0 ∷ [];
}

abbrev pub certificate_of : Bool → Certificate
certificate_of false = narrow_certificate
certificate_of true = wide_certificate
