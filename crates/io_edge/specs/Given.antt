-- What reads gave: a transcript of stores and of a site, told or not.
use Rattle.std.specs.Prelude.{◌≡◌, ℕ, List, [], ◌∷◌, ◌++◌, ◌+◌, ◌<◌, ◌≤◌, length, take, drop, slice_index, slice_index_or}
use Rattle.std.specs.List.{All}

-- what one call gave: the name of its file, the file's length, an offset, and the bytes from there on
abbrev pub Piece : Type 0
Piece = List ℕ × ℕ × ℕ × List ℕ

-- the piece of the file with this place among the names
abbrev pub piece_at : List (List ℕ) → ℕ → ℕ → ℕ → List ℕ → Piece
piece_at names place size offset bytes = (slice_index_or names place [], size, offset, bytes)

-- the same, where the numbers are the place, the length and the offset
abbrev pub piece_of : List (List ℕ) → List ℕ → List ℕ → Piece
piece_of names numbers bytes = piece_at names (slice_index numbers 0) (slice_index numbers 1) (slice_index numbers 2) bytes

-- these pieces, and what one more call gave
abbrev pub with_read : List Piece → List (List ℕ) → ℕ → ℕ → ℕ → List ℕ → List Piece
with_read pieces names place size offset bytes = pieces ++ piece_at names place size offset bytes ∷ []

-- a piece of a file of these bytes
pub record IsFrom (file : List ℕ) (size offset : ℕ) (bytes : List ℕ) : Type 0 where
  pub whole : length file ≡ size
  pub part : bytes ≡ take (length bytes) (drop offset file)

-- What files hold, by their names, agrees with the pieces: each is one of its file.
abbrev pub Agree : (List ℕ → List ℕ) → List Piece → Type 0
Agree holds pieces = All (λ (p : Piece). IsFrom (holds p.0) p.1 p.2 p.3) pieces

-- a fact about what the files hold, where they gave these pieces of it
abbrev pub OnGiven : List Piece → ((List ℕ → List ℕ) → Type 0) → Type 0
OnGiven pieces P = (holds : List ℕ → List ℕ) → Agree holds pieces → P holds

-- the same of the file with this place among the names
abbrev pub OnFile : List (List ℕ) → ℕ → List Piece → (List ℕ → Type 0) → Type 0
OnFile names place pieces P = OnGiven pieces (λ holds. P (holds (slice_index_or names place [])))

-- further pieces were given
pub record GivesMore (old new : List Piece) : Type 0 where
  pub more : List Piece
  pub is : new ≡ old ++ more

-- further pieces were given, and this is true of what the files hold that gave them
pub record Gives (old new : List Piece) (P : (List ℕ → List ℕ) → Type 0) : Type 0 where
  pub more : List Piece
  pub is : new ≡ old ++ more
  pub holds : OnGiven more P

-- the same of the file with this place among the names
abbrev pub GivesOf : List (List ℕ) → ℕ → List Piece → List Piece → (List ℕ → Type 0) → Type 0
GivesOf names place old new P = Gives old new (λ holds. P (holds (slice_index_or names place [])))

-- further pieces were given, and this is true of each offset at which one has a byte
pub record GivesOnly (P : ℕ → Type 0) (old new : List Piece) : Type 0 where
  pub more : List Piece
  pub is : new ≡ old ++ more
  pub each : All (λ (p : Piece). (q : ℕ) → p.2 ≤ q → q < p.2 + length p.3 → P q) more

-- one of so many offsets from one on
abbrev pub IsWithin : ℕ → ℕ → ℕ → Type 0
IsWithin offset count q = (offset ≤ q) × (q < offset + count)
