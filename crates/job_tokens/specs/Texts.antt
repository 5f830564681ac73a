-- What comes next at a place of a text, and the tokens of a text.
use Rattle.std.specs.Prelude.{◌≡◌, ℕ, ◌+◌, ◌<◌, ◌≤◌, Bool, false, cond, nat_eq, List, drop, length, Option, Some, None}
use Rattle.job_tokens.specs.declared.token.Front.{Front}
use Rattle.job_tokens.specs.declared.token.Next.{Next}
use Rattle.job_tokens.specs.declared.token.Next.TheVariants
use Rattle.job_tokens.specs.Fronts.{front, skipped}

-- where the next token begins, or the text ends
abbrev pub begins_at : List ℕ → ℕ → Bool → ℕ
begins_at text from inside = from + skipped inside false (drop from text)

-- what the token at a place is
abbrev pub token_at : ℕ → Option Front → Next
token_at at None = TheVariants.Refused at
token_at at (Some f) = TheVariants.Token (record { kind = f.kind; start = at; end = at + f.length })

-- What comes next behind the first `from` bytes, between open brackets or not.
abbrev pub next_at : List ℕ → ℕ → Bool → Next
next_at text from inside =
    let at = begins_at text from inside in
    cond (nat_eq at (length text)) (TheVariants.End at) (token_at at (front (drop at text)))

-- it stands behind `from`, and a token has a byte at least
abbrev pub IsWithin : List ℕ → ℕ → Next → Type 0
IsWithin text from (TheVariants.Token t) = (from ≤ t.start) × (t.start < t.end) × (t.end ≤ length text)
IsWithin text from (TheVariants.Refused at) = (from ≤ at) × (at < length text)
IsWithin text from (TheVariants.End at) = at ≡ length text
