-- What tokens say.
use Rattle.std.specs.Prelude.{ℕ, zero, suc, ◌+◌, ◌-◌, ◌^◌, min, length, ℤ, pos, negsuc, List, slice_range}
use Rattle.nd_grid.specs.declared.operation.Binary.{Binary}
use Rattle.nd_grid.specs.declared.operation.Binary.TheVariants.{Add, Sub, Mul, FloorDiv, Rem, Minimum as Least, Maximum as Greatest}
use Rattle.nd_grid.specs.declared.operation.Fold.{Fold}
use Rattle.nd_grid.specs.declared.operation.Fold.TheVariants.{Sum as FoldSum, Prod as FoldProd, Min as FoldMin, Max as FoldMax}
use Rattle.job_tokens.specs.declared.kind.Kind.{Kind}
use Rattle.job_tokens.specs.declared.kind.Kind.TheVariants.{Plus, Minus, Times, FloorDivide, Remainder, Sum, Prod, Min, Minimum}
use Rattle.job_tokens.specs.declared.token.Token.{Token}
use Rattle.job_tokens.specs.Bytes.{capped, decimal}

-- the bytes of a token that lies in the text
abbrev pub bytes_of : List ℕ → Token → List ℕ
bytes_of text t = slice_range text (min t.start (min t.end (length text))) (min t.end (length text))

abbrev pub number_at : List ℕ → Token → ℕ
number_at text t = capped (decimal (bytes_of text t))

-- the name between a file's quotes
abbrev pub file_at : List ℕ → Token → List ℕ
file_at text t = slice_range text (min (min (t.start + 1) (2 ^ 64 - 1)) (min (t.end - 1) (length text))) (min (t.end - 1) (length text))

abbrev pub binary_of : Kind → Binary
binary_of Plus = Add
binary_of Minus = Sub
binary_of Times = Mul
binary_of FloorDivide = FloorDiv
binary_of Remainder = Rem
binary_of Minimum = Least
binary_of _ = Greatest

abbrev pub fold_of : Kind → Fold
fold_of Sum = FoldSum
fold_of Prod = FoldProd
fold_of Min = FoldMin
fold_of _ = FoldMax

abbrev pub negative : ℕ → ℤ
negative zero = pos 0
negative (suc n) = negsuc n
