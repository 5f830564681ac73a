-- What words give to a command's positional words and options, as `clap` reads them. The first of the words is the command itself.
use Rattle.std.specs.Prelude.{◌≡◌, ◌≢◌, ℕ, Bool, List, [], Option, Some, None, codes, MatchBool}
use Rattle.clap.specs.Faults.{fault_of}
use Rattle.clap.specs.Matches.{first_value, found_of}
use Rattle.clap.specs.Simple.{App, matches_of}
use Rattle.clap.specs.Values.{kind_of}
use Rattle.clap.specs.Walk.{first_of}
use Rattle.clap.specs.declared.error.Error.{Error}
use Rattle.clap.specs.declared.error.kind.ErrorKind.TheVariants as kind
use Rattle.clap.specs.declared.parser.matches.ArgMatches.{ArgMatches}
use Rattle.command_words.specs.Numbers.{IsNumber}
use Rattle.command_words.specs.declared.fail.WordsFail.{WordsFail}
use Rattle.command_words.specs.declared.fail.WordsFail.TheVariants.{Refused, OutOfMemory}

-- the command takes the words: they have none of the faults for which `clap` refuses words
unfoldable pub IsTaken : App → List (List ℕ) → Type 0
IsTaken app words = fault_of app words ≡ []

-- the text that the words give to a positional word or an option of this name
unfoldable pub text_of : App → List (List ℕ) → List ℕ → Option (List ℕ)
text_of app words name = first_of name (matches_of app words)

-- the number that is given, in its range, or the one that is taken without it
abbrev pub HasNumber : Option (List ℕ) → ℕ → ℕ → ℕ → ℕ → Type 0
HasNumber (Some text) least most default n = IsNumber least most text n
HasNumber None least most default n = n ≡ default

-- the number up to this one that is given, or none without it
abbrev pub HasBound : Option (List ℕ) → ℕ → Option ℕ → Type 0
HasBound (Some text) most (Some n) = IsNumber 0 most text n
HasBound (Some text) most None = ⊥
HasBound None most bound = bound ≡ None

-- why no text was read: none is given
abbrev pub IsNoText : Option (List ℕ) → WordsFail → Type 0
IsNoText given Refused = given ≡ None
IsNoText given OutOfMemory = Unit {0}

-- whether a flag is given: `clap` gives it the text `true` where it stands among the words, and else `false`
abbrev pub HasFlag : Option (List ℕ) → Bool → Type 0
HasFlag given is = MatchBool is (given ≡ Some (codes "true")) (given ≢ Some (codes "true"))

-- ## What the code reads

-- the text that was read for a name
unfoldable pub text_in : ArgMatches → List ℕ → Option (List ℕ)
text_in matches name = first_value (found_of matches) name

-- the words were read as those of this command
pub record IsRead (app : App) (words : List (List ℕ)) (matches : ArgMatches) : Type 0 where
  pub taken : IsTaken app words
  pub texts : text_in matches ≡ text_of app words

-- why an error of `clap` is answered so
abbrev pub CameBy : WordsFail → Error → Type 0
CameBy Refused error = kind_of error ≢ kind.OutOfMemory
CameBy OutOfMemory error = kind_of error ≡ kind.OutOfMemory

-- why they weren't
abbrev pub IsUnread : App → List (List ℕ) → WordsFail → Type 0
IsUnread app words Refused = ¬ IsTaken app words
IsUnread app words OutOfMemory = Unit {0}
