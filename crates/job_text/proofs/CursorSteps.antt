-- How large a column is.
use Rattle.std.proofs.Common.{ℕ, ◌+◌, ◌≤◌, List, length, take, arith}
use Rattle.std.proofs.lemmas.List.Sums.{suffix_len-le-length}
use Rattle.std.proofs.lemmas.List.{length-take-le}
use Rattle.job_tokens.specs.Places.{is_no_newline, column_of}

pub column-few : (text : List ℕ) (at : ℕ) → at ≤ length text → column_of text at ≤ length text + 1
column-few text at le = omega (arith, suffix_len-le-length is_no_newline (take at text), length-take-le at text le)
