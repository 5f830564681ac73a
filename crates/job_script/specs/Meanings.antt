-- What each step of a text does, and what a text asks for.
use Rattle.std.specs.Prelude.{ℕ, ◌-◌, pos, List, [], ◌∷◌, ◌++◌, length, Some, Result, Ok}
use Rattle.job_tokens.specs.declared.token.Token.{Token}
use Rattle.job_grammar.specs.declared.action.Action.{Action}
use Rattle.job_grammar.specs.declared.action.Action.TheVariants.{Begin, Declare, InputFile, AddInput, Define, SavedName, SaveFile, OpenDims, Dim, OpenChunks, Even, OpenSizes, Size, Sizes, Mark, Combine, Negate, Literal, NegativeLiteral, Refer, Enter, Leave, OpenParts, AddSlice, ReverseAxes, OpenPart, Positive, Negative, Index, Bound, Range, PlainFold, FoldAxes, FoldSplit, Reduce, Choose, AddTranspose, AddRechunk, OpenList, ListAxis, AddConcatenate, LeftAxes, AddTensordot, Value, Step, AddFull, AddRamp}
use Rattle.job_script.specs.declared.asked.Asked.TheVariants as AskedVariants
use Rattle.job_script.specs.declared.asked.Refusal.{Refusal}
use Rattle.job_script.specs.Words.{bytes_of, number_at, file_at, negative}
use Rattle.job_script.specs.Arguments.{given_after, given_with}
use Rattle.job_script.specs.Operands.{top_node, top_mark, without_node, without_mark}
use Rattle.job_script.specs.Names.{node_called}
use Rattle.job_script.specs.Scopes.{begun, declared, with_file, saved}
use Rattle.job_script.specs.Drafts.{Drafted, with_given, with_waiting, with_mark, with_scoped, asking, asking_op, with_number, with_negative, or_refused, named_let, literal, combine, negate, slice, reduce, choose, transpose, rechunk, concatenate, tensordot, full, ramp, input, refer, enter}

abbrev pub after : List ℕ → Action → Token → Drafted → Result Drafted Refusal
after text Begin t d = with_scoped (begun t.start d.scoped) (with_mark t d)
after text Declare t d = with_scoped (declared (bytes_of text t) t.start d.scoped) d
after text InputFile t d = with_scoped (with_file (file_at text t) t.start d.scoped) d
after text AddInput t d = input d
after text Define t d = Ok (named_let d)
after text SavedName t d = refer (node_called d.scoped.names (bytes_of text t)) t.start d
after text SaveFile t d = with_scoped (saved (file_at text t) (top_node d.waiting) t.start d.scoped) (with_waiting (without_mark (without_node d.waiting)) d)
after text OpenDims t d = Ok (with_given (given_after OpenDims d.given) d)
after text Dim t d = with_number text t (λ n. with_given (given_with Dim n d.given) d)
after text OpenChunks t d = Ok (with_given (given_after OpenChunks d.given) d)
after text Even t d = with_number text t (λ n. with_given (given_with Even n d.given) d)
after text OpenSizes t d = Ok (with_given (given_after OpenSizes d.given) d)
after text Size t d = with_number text t (λ n. with_given (given_with Size n d.given) d)
after text Sizes t d = Ok (with_given (given_after Sizes d.given) d)
after text Mark t d = Ok (with_mark t d)
after text Combine t d = combine d
after text Negate t d = negate d
after text Literal t d = or_refused (with_number text t (λ n. d)) (λ e. asking_op (literal (pos (number_at text t))) t.start e)
after text NegativeLiteral t d = or_refused (with_negative text t (λ n. d)) (λ e. asking_op (literal (negative (number_at text t))) (top_mark e.waiting).start (with_waiting (without_mark e.waiting) e))
after text Refer t d = refer (node_called d.scoped.names (bytes_of text t)) t.start d
after text Enter t d = enter t.start d
after text Leave t d = Ok (with_waiting (record d.waiting { depth = d.waiting.depth - 1 }) d)
after text OpenParts t d = Ok (with_mark t (with_given (given_after OpenParts d.given) d))
after text AddSlice t d = slice d
after text ReverseAxes t d = asking (AskedVariants.ReverseAxes (top_node d.waiting)) t.start (with_waiting (without_node d.waiting) d)
after text OpenPart t d = Ok (with_given (given_after OpenPart d.given) d)
after text Positive t d = with_number text t (λ n. with_given (given_with Positive n d.given) d)
after text Negative t d = with_negative text t (λ n. with_given (record d.given { int = Some (negative n) }) d)
after text Index t d = Ok (with_given (given_after Index d.given) d)
after text Bound t d = Ok (with_given (given_after Bound d.given) d)
after text Range t d = Ok (with_given (given_after Range d.given) d)
after text PlainFold t d = Ok (with_given (given_after PlainFold d.given) d)
after text FoldAxes t d = Ok (with_given (given_after FoldAxes d.given) d)
after text FoldSplit t d = with_number text t (λ n. with_given (given_with FoldSplit n d.given) d)
after text Reduce t d = reduce d
after text Choose t d = choose d
after text AddTranspose t d = transpose d
after text AddRechunk t d = rechunk d
after text OpenList t d = Ok (with_waiting (record d.waiting { lists = d.waiting.lists ++ length d.waiting.nodes ∷ [] }) d)
after text ListAxis t d = with_number text t (λ n. with_given (given_with ListAxis n d.given) d)
after text AddConcatenate t d = concatenate d
after text LeftAxes t d = Ok (with_given (given_after LeftAxes d.given) d)
after text AddTensordot t d = tensordot d
after text Value t d = Ok (with_given (given_after Value d.given) d)
after text Step t d = Ok (with_given (given_after Step d.given) d)
after text AddFull t d = full d
after text AddRamp t d = ramp d
