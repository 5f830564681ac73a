-- The names of files.
use Rattle.std.specs.Prelude.{◌≡◌, ℕ, ◌<◌, ◌≤◌, true, List, length, All}
use Rattle.job_tokens.specs.Bytes.{is_file_byte}

-- 1 to 255 bytes, each from 32 to 126 and neither a double quote nor a backslash
pub record IsFileName (name : List ℕ) : Type 0 where
  pub some : 0 < length name
  pub short : length name ≤ 255
  pub bytes : All (λ b. is_file_byte b ≡ true) name
