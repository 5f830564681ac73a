-- The reserved words, and the numbers of the kinds of tokens.
use Rattle.std.specs.Prelude.{ℕ, List, [], ◌∷◌, codes, find, unwrap_or}
use Rattle.std.specs.Str.{bytes_eq}
use Rattle.job_tokens.specs.declared.kind.Kind.{Kind}
use Rattle.job_tokens.specs.declared.kind.Kind.TheVariants.{Newline, Name, File, Number, Equals, Plus, Minus, Times, FloorDivide, Remainder, OpenParenthesis, CloseParenthesis, Comma, OpenBracket, CloseBracket, Colon, Transposed, Input, Shape, Chunks, Let, Save, Sum, Prod, Min, Max, Axis, SplitEvery, Minimum, Maximum, Where, Transpose, Rechunk, Concatenate, Tensordot, Full, Ramp}

unfoldable pub spelling : Kind → List ℕ
spelling Newline = []
spelling Name = []
spelling File = []
spelling Number = []
spelling Equals = []
spelling Plus = []
spelling Minus = []
spelling Times = []
spelling FloorDivide = []
spelling Remainder = []
spelling OpenParenthesis = []
spelling CloseParenthesis = []
spelling Comma = []
spelling OpenBracket = []
spelling CloseBracket = []
spelling Colon = []
spelling Transposed = []
spelling Input = codes "input"
spelling Shape = codes "shape"
spelling Chunks = codes "chunks"
spelling Let = codes "let"
spelling Save = codes "save"
spelling Sum = codes "sum"
spelling Prod = codes "prod"
spelling Min = codes "min"
spelling Max = codes "max"
spelling Axis = codes "axis"
spelling SplitEvery = codes "split_every"
spelling Minimum = codes "minimum"
spelling Maximum = codes "maximum"
spelling Where = codes "where"
spelling Transpose = codes "transpose"
spelling Rechunk = codes "rechunk"
spelling Concatenate = codes "concatenate"
spelling Tensordot = codes "tensordot"
spelling Full = codes "full"
spelling Ramp = codes "ramp"

abbrev pub reserved : List Kind
reserved = Input ∷ Shape ∷ Chunks ∷ Let ∷ Save ∷ Sum ∷ Prod ∷ Min ∷ Max ∷ Axis ∷ SplitEvery ∷ Minimum ∷ Maximum ∷ Where ∷ Transpose ∷ Rechunk ∷ Concatenate ∷ Tensordot ∷ Full ∷ Ramp ∷ []

-- a reserved word, or a name
abbrev pub word_kind : List ℕ → Kind
word_kind w = unwrap_or (find (λ k. bytes_eq (spelling k) w) reserved) Name

abbrev pub kind_number : Kind → ℕ
kind_number Newline = 0
kind_number Name = 1
kind_number File = 2
kind_number Number = 3
kind_number Equals = 4
kind_number Plus = 5
kind_number Minus = 6
kind_number Times = 7
kind_number FloorDivide = 8
kind_number Remainder = 9
kind_number OpenParenthesis = 10
kind_number CloseParenthesis = 11
kind_number Comma = 12
kind_number OpenBracket = 13
kind_number CloseBracket = 14
kind_number Colon = 15
kind_number Transposed = 16
kind_number Input = 17
kind_number Shape = 18
kind_number Chunks = 19
kind_number Let = 20
kind_number Save = 21
kind_number Sum = 22
kind_number Prod = 23
kind_number Min = 24
kind_number Max = 25
kind_number Axis = 26
kind_number SplitEvery = 27
kind_number Minimum = 28
kind_number Maximum = 29
kind_number Where = 30
kind_number Transpose = 31
kind_number Rechunk = 32
kind_number Concatenate = 33
kind_number Tensordot = 34
kind_number Full = 35
kind_number Ramp = 36
