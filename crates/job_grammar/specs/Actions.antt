-- The numbers of the actions.
use Rattle.std.specs.Prelude.{ℕ, List, [], ◌∷◌}
use Rattle.job_grammar.specs.declared.action.Action.{Action}
use Rattle.job_grammar.specs.declared.action.Action.TheVariants.{Begin, Declare, InputFile, AddInput, Define, SavedName, SaveFile, OpenDims, Dim, OpenChunks, Even, OpenSizes, Size, Sizes, Mark, Combine, Negate, Literal, NegativeLiteral, Refer, Enter, Leave, OpenParts, AddSlice, ReverseAxes, OpenPart, Positive, Negative, Index, Bound, Range, PlainFold, FoldAxes, FoldSplit, Reduce, Choose, AddTranspose, AddRechunk, OpenList, ListAxis, AddConcatenate, LeftAxes, AddTensordot, Value, Step, AddFull, AddRamp}

abbrev pub actions : List Action
actions =
    Begin ∷ Declare ∷ InputFile ∷ AddInput ∷ Define ∷ SavedName ∷ SaveFile ∷ OpenDims ∷ Dim ∷ OpenChunks ∷ Even ∷ OpenSizes ∷ Size ∷ Sizes ∷ Mark ∷ Combine ∷ Negate ∷ Literal ∷ NegativeLiteral ∷ Refer ∷ Enter ∷ Leave ∷ OpenParts ∷ AddSlice ∷ ReverseAxes ∷ OpenPart ∷ Positive ∷ Negative ∷ Index ∷ Bound ∷ Range ∷ PlainFold ∷ FoldAxes ∷ FoldSplit ∷ Reduce ∷ Choose ∷ AddTranspose ∷ AddRechunk ∷ OpenList ∷ ListAxis ∷ AddConcatenate ∷ LeftAxes ∷ AddTensordot ∷ Value ∷ Step ∷ AddFull ∷ AddRamp ∷ []

abbrev pub action_number : Action → ℕ
action_number Begin = 0
action_number Declare = 1
action_number InputFile = 2
action_number AddInput = 3
action_number Define = 4
action_number SavedName = 5
action_number SaveFile = 6
action_number OpenDims = 7
action_number Dim = 8
action_number OpenChunks = 9
action_number Even = 10
action_number OpenSizes = 11
action_number Size = 12
action_number Sizes = 13
action_number Mark = 14
action_number Combine = 15
action_number Negate = 16
action_number Literal = 17
action_number NegativeLiteral = 18
action_number Refer = 19
action_number Enter = 20
action_number Leave = 21
action_number OpenParts = 22
action_number AddSlice = 23
action_number ReverseAxes = 24
action_number OpenPart = 25
action_number Positive = 26
action_number Negative = 27
action_number Index = 28
action_number Bound = 29
action_number Range = 30
action_number PlainFold = 31
action_number FoldAxes = 32
action_number FoldSplit = 33
action_number Reduce = 34
action_number Choose = 35
action_number AddTranspose = 36
action_number AddRechunk = 37
action_number OpenList = 38
action_number ListAxis = 39
action_number AddConcatenate = 40
action_number LeftAxes = 41
action_number AddTensordot = 42
action_number Value = 43
action_number Step = 44
action_number AddFull = 45
action_number AddRamp = 46
