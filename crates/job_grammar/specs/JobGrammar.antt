-- The grammar of jobs, with the actions that go with it, written by tools/job_rows.py in the form in which docs/FORMATS.md shows it.
use Rattle.std.specs.Prelude.{ℕ, List, [], ◌∷◌, slice_index_or}
use Rattle.job_tokens.specs.declared.kind.Kind.TheVariants.{Newline, Name, File, Number, Equals, Plus, Minus, Times, FloorDivide, Remainder, OpenParenthesis, CloseParenthesis, Comma, OpenBracket, CloseBracket, Colon, Transposed, Input, Shape, Chunks, Let, Save, Sum, Prod, Min, Max, Axis, SplitEvery, Minimum, Maximum, Where, Transpose, Rechunk, Concatenate, Tensordot, Full, Ramp}
use Rattle.job_grammar.specs.declared.action.Action.TheVariants.{Begin, Declare, InputFile, AddInput, Define, SavedName, SaveFile, OpenDims, Dim, OpenChunks, Even, OpenSizes, Size, Sizes, Mark, Combine, Negate, Literal, NegativeLiteral, Refer, Enter, Leave, OpenParts, AddSlice, ReverseAxes, OpenPart, Positive, Negative, Index, Bound, Range, PlainFold, FoldAxes, FoldSplit, Reduce, Choose, AddTranspose, AddRechunk, OpenList, ListAxis, AddConcatenate, LeftAxes, AddTensordot, Value, Step, AddFull, AddRamp}
use Rattle.job_grammar.specs.Phrases.{Phrase, named, nothing, many, seq, either, optional, sign, act}

-- ---- the parts, by number

abbrev pub job : ℕ
job = 0

abbrev pub statement : ℕ
statement = 1

abbrev pub dims : ℕ
dims = 2

abbrev pub chunks : ℕ
chunks = 3

abbrev pub item : ℕ
item = 4

abbrev pub expr : ℕ
expr = 5

abbrev pub product : ℕ
product = 6

abbrev pub unary : ℕ
unary = 7

abbrev pub opposite : ℕ
opposite = 8

abbrev pub postfix : ℕ
postfix = 9

abbrev pub suffix : ℕ
suffix = 10

abbrev pub piece : ℕ
piece = 11

abbrev pub int : ℕ
int = 12

abbrev pub primary : ℕ
primary = 13

abbrev pub operand : ℕ
operand = 14

abbrev pub call : ℕ
call = 15

abbrev pub sub : ℕ → Phrase
sub p = named p

-- ---- what each part is

abbrev pub job_rule : Phrase
job_rule = seq (optional (sub statement) ∷ many (seq (sign Newline ∷ optional (sub statement) ∷ [])) ∷ [])

abbrev pub statement_rule : Phrase
statement_rule = either (
    seq (sign Input ∷ act Begin ∷ sign Name ∷ act Declare ∷ sign File ∷ act InputFile ∷ sign Shape ∷ sub dims ∷ sign Chunks ∷ sub chunks ∷ act AddInput ∷ [])
    ∷ seq (sign Let ∷ act Begin ∷ sign Name ∷ act Declare ∷ sign Equals ∷ sub expr ∷ act Define ∷ [])
    ∷ seq (sign Save ∷ act Begin ∷ sign Name ∷ act SavedName ∷ sign File ∷ act SaveFile ∷ []) ∷ [])

abbrev pub dims_rule : Phrase
dims_rule = seq (sign OpenParenthesis ∷ act OpenDims ∷ optional (seq (sign Number ∷ act Dim ∷ many (seq (sign Comma ∷ sign Number ∷ act Dim ∷ [])) ∷ optional (sign Comma) ∷ [])) ∷ sign CloseParenthesis ∷ [])

abbrev pub chunks_rule : Phrase
chunks_rule = seq (sign OpenParenthesis ∷ act OpenChunks ∷ optional (seq (sub item ∷ many (seq (sign Comma ∷ sub item ∷ [])) ∷ optional (sign Comma) ∷ [])) ∷ sign CloseParenthesis ∷ [])

abbrev pub item_rule : Phrase
item_rule = either (
    seq (sign Number ∷ act Even ∷ [])
    ∷ seq (sign OpenParenthesis ∷ act OpenSizes ∷ sign Number ∷ act Size ∷ many (seq (sign Comma ∷ sign Number ∷ act Size ∷ [])) ∷ optional (sign Comma) ∷ sign CloseParenthesis ∷ act Sizes ∷ []) ∷ [])

abbrev pub expr_rule : Phrase
expr_rule = seq (sub product ∷ many (seq (either (sign Plus ∷ sign Minus ∷ []) ∷ act Mark ∷ sub product ∷ act Combine ∷ [])) ∷ [])

abbrev pub product_rule : Phrase
product_rule = seq (sub unary ∷ many (seq (either (sign Times ∷ sign FloorDivide ∷ sign Remainder ∷ []) ∷ act Mark ∷ sub unary ∷ act Combine ∷ [])) ∷ [])

abbrev pub unary_rule : Phrase
unary_rule = either (
    seq (sign Minus ∷ act Mark ∷ sub opposite ∷ [])
    ∷ sub postfix ∷ [])

abbrev pub opposite_rule : Phrase
opposite_rule = either (
    seq (sign Number ∷ act NegativeLiteral ∷ many (sub suffix) ∷ [])
    ∷ seq (sign Minus ∷ act Mark ∷ sub opposite ∷ act Negate ∷ [])
    ∷ seq (sub operand ∷ many (sub suffix) ∷ act Negate ∷ []) ∷ [])

abbrev pub postfix_rule : Phrase
postfix_rule = seq (sub primary ∷ many (sub suffix) ∷ [])

abbrev pub suffix_rule : Phrase
suffix_rule = either (
    seq (sign OpenBracket ∷ act OpenParts ∷ sub piece ∷ many (seq (sign Comma ∷ sub piece ∷ [])) ∷ sign CloseBracket ∷ act AddSlice ∷ [])
    ∷ seq (sign Transposed ∷ act ReverseAxes ∷ []) ∷ [])

abbrev pub piece_rule : Phrase
piece_rule = seq (act OpenPart ∷ either (
    seq (sub int ∷ act Index ∷ [])
    ∷ seq (optional (sub int) ∷ sign Colon ∷ act Bound ∷ optional (sub int) ∷ optional (seq (sign Colon ∷ act Bound ∷ optional (sub int) ∷ [])) ∷ act Range ∷ []) ∷ []) ∷ [])

abbrev pub int_rule : Phrase
int_rule = either (
    seq (sign Number ∷ act Positive ∷ [])
    ∷ seq (sign Minus ∷ sign Number ∷ act Negative ∷ []) ∷ [])

abbrev pub primary_rule : Phrase
primary_rule = either (
    seq (sign Number ∷ act Literal ∷ [])
    ∷ sub operand ∷ [])

abbrev pub operand_rule : Phrase
operand_rule = either (
    seq (sign Name ∷ act Refer ∷ [])
    ∷ seq (sign OpenParenthesis ∷ act Enter ∷ sub expr ∷ sign CloseParenthesis ∷ act Leave ∷ [])
    ∷ sub call ∷ [])

abbrev pub call_rule : Phrase
call_rule = either (
    seq (either (sign Sum ∷ sign Prod ∷ sign Min ∷ sign Max ∷ []) ∷ act Mark ∷ sign OpenParenthesis ∷ act Enter ∷ sub expr ∷ act PlainFold ∷ optional (seq (sign Comma ∷ sign Axis ∷ sign Equals ∷ sub dims ∷ act FoldAxes ∷ [])) ∷ optional (seq (sign Comma ∷ sign SplitEvery ∷ sign Equals ∷ sign Number ∷ act FoldSplit ∷ [])) ∷ sign CloseParenthesis ∷ act Leave ∷ act Reduce ∷ [])
    ∷ seq (either (sign Minimum ∷ sign Maximum ∷ []) ∷ act Mark ∷ sign OpenParenthesis ∷ act Enter ∷ sub expr ∷ sign Comma ∷ sub expr ∷ sign CloseParenthesis ∷ act Leave ∷ act Combine ∷ [])
    ∷ seq (sign Where ∷ act Mark ∷ sign OpenParenthesis ∷ act Enter ∷ sub expr ∷ sign Comma ∷ sub expr ∷ sign Comma ∷ sub expr ∷ sign CloseParenthesis ∷ act Leave ∷ act Choose ∷ [])
    ∷ seq (sign Transpose ∷ act Mark ∷ sign OpenParenthesis ∷ act Enter ∷ sub expr ∷ sign Comma ∷ sub dims ∷ sign CloseParenthesis ∷ act Leave ∷ act AddTranspose ∷ [])
    ∷ seq (sign Rechunk ∷ act Mark ∷ sign OpenParenthesis ∷ act Enter ∷ sub expr ∷ sign Comma ∷ sub chunks ∷ sign CloseParenthesis ∷ act Leave ∷ act AddRechunk ∷ [])
    ∷ seq (sign Concatenate ∷ act Mark ∷ sign OpenParenthesis ∷ act Enter ∷ sign OpenBracket ∷ act Enter ∷ act OpenList ∷ sub expr ∷ many (seq (sign Comma ∷ sub expr ∷ [])) ∷ sign CloseBracket ∷ act Leave ∷ sign Comma ∷ sign Axis ∷ sign Equals ∷ sign Number ∷ act ListAxis ∷ sign CloseParenthesis ∷ act Leave ∷ act AddConcatenate ∷ [])
    ∷ seq (sign Tensordot ∷ act Mark ∷ sign OpenParenthesis ∷ act Enter ∷ sub expr ∷ sign Comma ∷ sub expr ∷ sign Comma ∷ sub dims ∷ act LeftAxes ∷ sign Comma ∷ sub dims ∷ sign CloseParenthesis ∷ act Leave ∷ act AddTensordot ∷ [])
    ∷ seq (sign Full ∷ act Mark ∷ sign OpenParenthesis ∷ act Enter ∷ sub dims ∷ sign Comma ∷ sub int ∷ act Value ∷ sign Comma ∷ sub chunks ∷ sign CloseParenthesis ∷ act Leave ∷ act AddFull ∷ [])
    ∷ seq (sign Ramp ∷ act Mark ∷ sign OpenParenthesis ∷ act Enter ∷ sub dims ∷ sign Comma ∷ sub int ∷ act Value ∷ sign Comma ∷ sub int ∷ act Step ∷ sign Comma ∷ sub chunks ∷ sign CloseParenthesis ∷ act Leave ∷ act AddRamp ∷ []) ∷ [])

unfoldable pub job_rules : List Phrase
job_rules =
    job_rule
    ∷ statement_rule
    ∷ dims_rule
    ∷ chunks_rule
    ∷ item_rule
    ∷ expr_rule
    ∷ product_rule
    ∷ unary_rule
    ∷ opposite_rule
    ∷ postfix_rule
    ∷ suffix_rule
    ∷ piece_rule
    ∷ int_rule
    ∷ primary_rule
    ∷ operand_rule
    ∷ call_rule ∷ []

abbrev pub rule_of : ℕ → Phrase
rule_of p = slice_index_or job_rules p nothing
