-- A place in a text that moves.
use Rattle.std.specs.Prelude.{◌≡◌, ℕ, ◌≤◌, List, length}
use Rattle.job_tokens.specs.Places.{line_of, column_of}
use Rattle.job_text.specs.declared.cursor.Cursor.{Cursor}

-- the cursor stands in the text, at the line and the column of its byte
pub record Stands (text : List ℕ) (c : Cursor) : Type 0 where
  pub within : c.at ≤ length text
  pub line : c.line ≡ line_of text c.at
  pub column : c.column ≡ column_of text c.at
