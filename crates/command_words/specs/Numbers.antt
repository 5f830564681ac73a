-- Numbers in decimal digits.
use Rattle.std.specs.Prelude.{◌≡◌, ◌<◌, ◌≤◌, ℕ, true, List, length}
use Rattle.std.specs.List.{list_all}
use Rattle.job_tokens.specs.Bytes.{is_digit, decimal}

-- the word is digits, at least one, that say this number, and it lies in the range
pub record IsNumber (least most : ℕ) (word : List ℕ) (n : ℕ) : Type 0 where
  pub some : 0 < length word
  pub digits : list_all is_digit word ≡ true
  pub says : n ≡ decimal word
  pub from : least ≤ n
  pub to : n ≤ most
