-- The line and the column of a byte, from 1. The column counts the bytes behind the last newline.
use Rattle.std.specs.Prelude.{ℕ, ◌+◌, ◌==◌, Bool, not, List, take, count_by}
use Rattle.std.specs.List.{suffix_len}

abbrev pub is_no_newline : ℕ → Bool
is_no_newline b = not (b == 10)

abbrev pub line_of : List ℕ → ℕ → ℕ
line_of text at = count_by (λ b. b == 10) (take at text) + 1

abbrev pub column_of : List ℕ → ℕ → ℕ
column_of text at = suffix_len is_no_newline (take at text) + 1
