-- The text of the job that a number makes.
use Rattle.std.specs.Prelude.{ℕ, List, ◌+◌, ◌/◌, ◌%◌, ◌++◌, codes, decimal}

-- the statement of an array of so many rows and columns, which begins by this number and rises by 3, in square chunks
unfoldable pub array_text : ℕ → ℕ → ℕ → ℕ → List ℕ
array_text rows columns first chunk =
    codes "let a = ramp((" ++ decimal rows ++ codes ", " ++ decimal columns ++ codes "), " ++ decimal first ++ codes ", 3, (" ++ decimal chunk ++ codes ", " ++ decimal chunk ++ codes "))\n"

-- an array of 64 to 127 rows and columns in chunks of 8 to 16, its product with its transposed, and the sums of the product's columns, 7 more for each
-- element
unfoldable pub gen_text : ℕ → List ℕ
gen_text n =
    array_text (64 + n % 64) (64 + n / 64 % 64) (n % 1000) (8 + n % 9)
    ++ codes "let t = tensordot(a, a.T, (1), (0))\n"
    ++ codes "let s = sum(t + 7, axis=(0))\n"
    ++ codes "save s \"s.npy\"\n"
