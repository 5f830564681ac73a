-- The rows of the code, what their parts stand for, and the tables by which they pass the tests of the crate grammar, written by
-- tools/job_rows.py.
use Rattle.std.specs.Prelude.{ℕ, true, false, List, [], ◌∷◌, slice_index_or}
use Rattle.grammar.specs.Tables.{Rows}
use Rattle.grammar.specs.Tests.{Certificate}
use Rattle.job_tokens.specs.declared.kind.Kind.TheVariants.{Newline, Number, Equals, Plus, Minus, Times, FloorDivide, Remainder, OpenParenthesis, CloseParenthesis, Comma, Colon, Axis, SplitEvery}
use Rattle.job_grammar.specs.declared.rows.TheConstants.{ON, OTHER, MOVES, RULES, SYMBOLS}
use Rattle.job_grammar.specs.declared.action.Action.TheVariants.{Dim, Size, Mark, Combine, Enter, Leave, Negative, Index, Bound, Range, PlainFold, FoldAxes, FoldSplit, Reduce}
use Rattle.job_grammar.specs.Phrases.{Phrase, many, seq, either, optional, sign, act}
use Rattle.job_grammar.specs.JobGrammar.{sub, job, statement, dims, chunks, item, expr, product, unary, opposite, postfix, suffix, piece, int, primary, operand}

unfoldable pub job_rows : Rows
job_rows = record { on = ON; other = OTHER; moves = MOVES; rules = RULES; symbols = SYMBOLS }

-- each kind is that of a token, and kind 37 of no token
unfoldable pub certificate : Certificate
certificate = record {
  kinds = 38;
  starts = 3276801 ∷ 3276800 ∷ 1 ∷ 1024 ∷ 2056 ∷ 6144 ∷ 1024 ∷ 3080 ∷ 6144 ∷ 2056 ∷ 6144 ∷ 137233433674 ∷ 96 ∷ 137233433674 ∷ 896 ∷ 137233433674 ∷ 137233433674 ∷ 137233433610 ∷ 73728 ∷ 32840 ∷ 4096 ∷ 32840 ∷ 8 ∷ 32768 ∷ 32840 ∷ 32768 ∷ 72 ∷ 72 ∷ 137233433610 ∷ 137233433602 ∷ 1024 ∷ 1024 ∷ 6144 ∷ 201326592 ∷ 6144 ∷ 4096 ∷ [];
  empty = true ∷ true ∷ true ∷ false ∷ false ∷ false ∷ false ∷ false ∷ false ∷ false ∷ false ∷ false ∷ true ∷ false ∷ true ∷ false ∷ false ∷ false ∷ true ∷ false ∷ true ∷ false ∷ false ∷ true ∷ true ∷ true ∷ true ∷ false ∷ false ∷ false ∷ false ∷ false ∷ false ∷ false ∷ false ∷ true ∷ [];
  follow = 0 ∷ 1 ∷ 0 ∷ 530432 ∷ 530432 ∷ 530432 ∷ 2049 ∷ 2049 ∷ 2049 ∷ 6144 ∷ 6144 ∷ 22529 ∷ 22529 ∷ 22625 ∷ 22625 ∷ 23521 ∷ 23521 ∷ 23521 ∷ 23521 ∷ 20480 ∷ 16384 ∷ 20480 ∷ 20480 ∷ 20480 ∷ 20480 ∷ 20480 ∷ 20480 ∷ 4096 ∷ 97249 ∷ 97249 ∷ 97249 ∷ 97249 ∷ 97249 ∷ 97249 ∷ 97249 ∷ 16384 ∷ [];
  ranks = 1 ∷ 0 ∷ 0 ∷ 1 ∷ 0 ∷ 0 ∷ 1 ∷ 0 ∷ 0 ∷ 0 ∷ 0 ∷ 4 ∷ 0 ∷ 3 ∷ 0 ∷ 2 ∷ 1 ∷ 1 ∷ 0 ∷ 2 ∷ 0 ∷ 1 ∷ 1 ∷ 0 ∷ 0 ∷ 0 ∷ 0 ∷ 0 ∷ 0 ∷ 0 ∷ 5 ∷ 5 ∷ 0 ∷ 0 ∷ 0 ∷ 0 ∷ [];
}

-- What each part of the table stands for, in the order of their numbers.
unfoldable pub meanings : List (List Phrase)
meanings =
    -- job
    (sub job ∷ [])
    -- opt statement
    ∷ (optional (sub statement) ∷ [])
    -- statements
    ∷ (many (seq (sign Newline ∷ optional (sub statement) ∷ [])) ∷ [])
    -- dims
    ∷ (sub dims ∷ [])
    -- open dims
    ∷ (optional (seq (sign Number ∷ act Dim ∷ many (seq (sign Comma ∷ sign Number ∷ act Dim ∷ [])) ∷ optional (sign Comma) ∷ [])) ∷ sign CloseParenthesis ∷ [])
    -- more dims
    ∷ (many (seq (sign Comma ∷ sign Number ∷ act Dim ∷ [])) ∷ optional (sign Comma) ∷ sign CloseParenthesis ∷ [])
    -- chunks
    ∷ (sub chunks ∷ [])
    -- open chunks
    ∷ (optional (seq (sub item ∷ many (seq (sign Comma ∷ sub item ∷ [])) ∷ optional (sign Comma) ∷ [])) ∷ sign CloseParenthesis ∷ [])
    -- more chunks
    ∷ (many (seq (sign Comma ∷ sub item ∷ [])) ∷ optional (sign Comma) ∷ sign CloseParenthesis ∷ [])
    -- open sizes
    ∷ (optional (seq (sign Number ∷ act Size ∷ many (seq (sign Comma ∷ sign Number ∷ act Size ∷ [])) ∷ optional (sign Comma) ∷ [])) ∷ sign CloseParenthesis ∷ [])
    -- more sizes
    ∷ (many (seq (sign Comma ∷ sign Number ∷ act Size ∷ [])) ∷ optional (sign Comma) ∷ sign CloseParenthesis ∷ [])
    -- expr
    ∷ (sub expr ∷ [])
    -- sums
    ∷ (many (seq (either (sign Plus ∷ sign Minus ∷ []) ∷ act Mark ∷ sub product ∷ act Combine ∷ [])) ∷ [])
    -- product
    ∷ (sub product ∷ [])
    -- products
    ∷ (many (seq (either (sign Times ∷ sign FloorDivide ∷ sign Remainder ∷ []) ∷ act Mark ∷ sub unary ∷ act Combine ∷ [])) ∷ [])
    -- unary
    ∷ (sub unary ∷ [])
    -- opposite
    ∷ (sub opposite ∷ [])
    -- postfix
    ∷ (sub postfix ∷ [])
    -- suffixes
    ∷ (many (sub suffix) ∷ [])
    -- piece
    ∷ (sub piece ∷ [])
    -- pieces
    ∷ (many (seq (sign Comma ∷ sub piece ∷ [])) ∷ [])
    -- first of piece
    ∷ (either (
    seq (sub int ∷ act Index ∷ [])
    ∷ seq (optional (sub int) ∷ sign Colon ∷ act Bound ∷ optional (sub int) ∷ optional (seq (sign Colon ∷ act Bound ∷ optional (sub int) ∷ [])) ∷ act Range ∷ []) ∷ []) ∷ [])
    -- negative first
    ∷ (either (
    seq (sign Number ∷ act Negative ∷ act Index ∷ [])
    ∷ seq (sign Number ∷ act Negative ∷ sign Colon ∷ act Bound ∷ optional (sub int) ∷ optional (seq (sign Colon ∷ act Bound ∷ optional (sub int) ∷ [])) ∷ act Range ∷ []) ∷ []) ∷ [])
    -- behind first int
    ∷ (either (
    act Index
    ∷ seq (sign Colon ∷ act Bound ∷ optional (sub int) ∷ optional (seq (sign Colon ∷ act Bound ∷ optional (sub int) ∷ [])) ∷ act Range ∷ []) ∷ []) ∷ [])
    -- behind colon
    ∷ (optional (sub int) ∷ optional (seq (sign Colon ∷ act Bound ∷ optional (sub int) ∷ [])) ∷ act Range ∷ [])
    -- behind second int
    ∷ (optional (seq (sign Colon ∷ act Bound ∷ optional (sub int) ∷ [])) ∷ act Range ∷ [])
    -- last int
    ∷ (optional (sub int) ∷ act Range ∷ [])
    -- int
    ∷ (sub int ∷ [])
    -- primary
    ∷ (sub primary ∷ [])
    -- operand
    ∷ (sub operand ∷ [])
    -- fold
    ∷ (act Mark ∷ sign OpenParenthesis ∷ act Enter ∷ sub expr ∷ act PlainFold ∷ optional (seq (sign Comma ∷ sign Axis ∷ sign Equals ∷ sub dims ∷ act FoldAxes ∷ [])) ∷ optional (seq (sign Comma ∷ sign SplitEvery ∷ sign Equals ∷ sign Number ∷ act FoldSplit ∷ [])) ∷ sign CloseParenthesis ∷ act Leave ∷ act Reduce ∷ [])
    -- pair
    ∷ (act Mark ∷ sign OpenParenthesis ∷ act Enter ∷ sub expr ∷ sign Comma ∷ sub expr ∷ sign CloseParenthesis ∷ act Leave ∷ act Combine ∷ [])
    -- fold options
    ∷ (optional (seq (sign Comma ∷ sign Axis ∷ sign Equals ∷ sub dims ∷ act FoldAxes ∷ [])) ∷ optional (seq (sign Comma ∷ sign SplitEvery ∷ sign Equals ∷ sign Number ∷ act FoldSplit ∷ [])) ∷ sign CloseParenthesis ∷ [])
    -- fold option
    ∷ (either (
    seq (sign Axis ∷ sign Equals ∷ sub dims ∷ act FoldAxes ∷ optional (seq (sign Comma ∷ sign SplitEvery ∷ sign Equals ∷ sign Number ∷ act FoldSplit ∷ [])) ∷ [])
    ∷ seq (sign SplitEvery ∷ sign Equals ∷ sign Number ∷ act FoldSplit ∷ []) ∷ []) ∷ sign CloseParenthesis ∷ [])
    -- last option
    ∷ (optional (seq (sign Comma ∷ sign SplitEvery ∷ sign Equals ∷ sign Number ∷ act FoldSplit ∷ [])) ∷ sign CloseParenthesis ∷ [])
    -- exprs
    ∷ (many (seq (sign Comma ∷ sub expr ∷ [])) ∷ [])
    ∷ []

abbrev pub meaning_of : ℕ → List Phrase
meaning_of p = slice_index_or meanings p []
