-- The token that stands at the front of some bytes, and the blanks and comments that stand before it.
use Rattle.std.specs.Prelude.{ℕ, suc, ◌+◌, Bool, true, false, cond, ◌&&◌, ◌||◌, nat_eq, nat_le, nat_lt, List, [], ◌∷◌, take, length, slice_get, Option, Some, None}
use Rattle.std.specs.List.{prefix_len}
use Rattle.job_tokens.specs.declared.kind.Kind.{Kind}
use Rattle.job_tokens.specs.declared.kind.Kind.TheVariants.{Newline, File, Number, Equals, Plus, Minus, Times, FloorDivide, Remainder, OpenParenthesis, CloseParenthesis, Comma, OpenBracket, CloseBracket, Colon, Transposed}
use Rattle.job_tokens.specs.declared.token.Front.{Front}
use Rattle.job_tokens.specs.Bytes.{is_digit, is_letter, is_word, is_file_byte}
use Rattle.job_tokens.specs.Words.{word_kind}

-- ---- the token at the front: its kind and its length

abbrev pub made : Kind → ℕ → Option Front
made k n = Some (record { kind = k; length = n })

-- the signs of one byte; a newline is among them
abbrev pub single : ℕ → Option Kind
single b =
    cond (nat_eq b 10) (Some Newline) (cond (nat_eq b 61) (Some Equals) (cond (nat_eq b 43) (Some Plus) (cond (nat_eq b 45) (Some Minus)
    (cond (nat_eq b 42) (Some Times) (cond (nat_eq b 37) (Some Remainder) (cond (nat_eq b 40) (Some OpenParenthesis)
    (cond (nat_eq b 41) (Some CloseParenthesis) (cond (nat_eq b 44) (Some Comma) (cond (nat_eq b 91) (Some OpenBracket)
    (cond (nat_eq b 93) (Some CloseBracket) (cond (nat_eq b 58) (Some Colon) None)))))))))))

abbrev pub single_front : Option Kind → Option Front
single_front None = None
single_front (Some k) = made k 1

-- a sign of two bytes, behind its first byte
abbrev pub pair_front : Kind → ℕ → List ℕ → Option Front
pair_front k second [] = None
pair_front k second (b ∷ w) = cond (nat_eq b second) (made k 2) None

-- whether this byte stands there
abbrev pub is_at : List ℕ → ℕ → ℕ → Bool
is_at w i b = cond (nat_lt i (length w)) (byte_is (slice_get w i)) false
  where
    byte_is : Option ℕ → Bool
    byte_is None = false
    byte_is (Some x) = nat_eq x b

-- a file name of n bytes with its last quote, behind its first quote
abbrev pub file_front : List ℕ → Option Front
file_front w =
    let n = prefix_len is_file_byte w in
    cond (nat_le 1 n && (nat_le n 255 && is_at w n 34)) (made File (n + 2)) None

abbrev pub front : List ℕ → Option Front
front [] = None
front (b ∷ w) =
    cond (is_letter b) (made (word_kind (take (prefix_len is_word (b ∷ w)) (b ∷ w))) (prefix_len is_word (b ∷ w)))
    (cond (is_digit b) (made Number (prefix_len is_digit (b ∷ w)))
    (cond (nat_eq b 34) (file_front w)
    (cond (nat_eq b 47) (pair_front FloorDivide 47 w)
    (cond (nat_eq b 46) (pair_front Transposed 84 w)
    (single_front (single b))))))

-- ---- blanks and comments

-- Whether a byte is skipped: None where it is not, else whether it stands in a comment or begins one. A newline ends a comment.
abbrev pub blank_step : Bool → Bool → ℕ → Option Bool
blank_step inside comment b =
    cond (nat_eq b 10) (cond inside (Some false) None)
    (cond comment (Some true)
    (cond (nat_eq b 35) (Some true)
    (cond (nat_eq b 32 || (nat_eq b 9 || nat_eq b 13)) (Some false) None)))

abbrev pub and_more : Option Bool → (Bool → ℕ) → ℕ
and_more None more = 0
and_more (Some now) more = suc (more now)

-- how many bytes are skipped, inside brackets or outside, in a comment or not
abbrev pub skipped : Bool → Bool → List ℕ → ℕ
skipped inside comment [] = 0
skipped inside comment (b ∷ w) = and_more (blank_step inside comment b) (λ now. skipped inside now w)
