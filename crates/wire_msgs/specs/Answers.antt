-- What a call answers, beside want of memory.
use Rattle.std.specs.Prelude.{◌≡◌, Result, Ok, Err}
use Rattle.wire_msgs.specs.declared.field.Field.{Field}
use Rattle.wire_msgs.specs.declared.error.PartError.{PartError}
use Rattle.wire_msgs.specs.declared.error.PartError.TheVariants as part
use Rattle.wire_msgs.specs.declared.error.WireError.{WireError}
use Rattle.wire_msgs.specs.declared.error.WireError.TheVariants as wire

-- the refusal of a message whose field has this content
abbrev pub at : Field → PartError → WireError
at f part.WrongType = wire.WrongType f
at f part.Range = wire.Range f
at f part.OutOfMemory = wire.OutOfMemory

-- what was answered is what is given, unless memory ran out
abbrev pub Tells : {X : Type 0} → Result X PartError → Result X PartError → Type 0
Tells (Ok x) given = given ≡ Ok x
Tells (Err part.OutOfMemory) given = Unit {0}
Tells (Err part.WrongType) given = given ≡ Err part.WrongType
Tells (Err part.Range) given = given ≡ Err part.Range

-- what was answered is the answer, unless memory ran out
abbrev pub Answers : {X : Type 0} → Result X WireError → Result X WireError → Type 0
Answers (Ok x) answer = answer ≡ Ok x
Answers (Err wire.OutOfMemory) answer = Unit {0}
Answers (Err wire.NotAMap) answer = answer ≡ Err wire.NotAMap
Answers (Err wire.UnknownOp) answer = answer ≡ Err wire.UnknownOp
Answers (Err (wire.Unknown i)) answer = answer ≡ Err (wire.Unknown i)
Answers (Err (wire.Missing f)) answer = answer ≡ Err (wire.Missing f)
Answers (Err (wire.Repeated f)) answer = answer ≡ Err (wire.Repeated f)
Answers (Err (wire.WrongType f)) answer = answer ≡ Err (wire.WrongType f)
Answers (Err (wire.Range f)) answer = answer ≡ Err (wire.Range f)
