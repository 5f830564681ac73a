-- Why not all blocks were made, step by step.
use Rattle.std.proofs.Common.{◌≡◌, ℕ, List, sym, subst, refl}
use Rattle.std.specs.Prelude.{Option, Some, None}
use Rattle.io_edge.specs.Cause.{Rose}
use Rattle.io_edge.specs.Given.{Piece}
use Rattle.npy_codec.specs.declared.head.Head.{Head}
use Rattle.block_lowering.specs.Jobs.{HaveNamed}
use Rattle.saved_files.specs.Saving.{Saving}
use Rattle.job_run.specs.declared.blocks.Halt.{Halt}
use Rattle.job_run.specs.declared.blocks.Halt.TheVariants.{Zero, ReadFault, WriteFault, OutOfMemory}
use Rattle.job_run.specs.Evaluating.{HaltCause, HaltGiven, IsZeroOf}
use Rattle.job_run.specs.Plan.{Plan}
use Rattle.job_run.specs.Values.{Named, index_of}

-- What is true of the halts that a zero divisor under this name may end in: of the divisor, and of want of memory.
pub zero-halt : (p : Plan) (Q : Halt → Type 0) (name : Option (ℕ × ℕ)) (halt : Halt) → IsZeroOf p name halt → Q OutOfMemory → ((n c : ℕ) → name ≡ Some (n, c) → Q (Zero n (index_of p n c))) → Q halt
zero-halt p Q None (Zero node block) is none q = absurd is
zero-halt p Q None ReadFault is none q = absurd is
zero-halt p Q None WriteFault is none q = absurd is
zero-halt p Q None OutOfMemory is none q = none
zero-halt p Q (Some x) (Zero node block) is none q =
    subst (λ m. Q (Zero m block)) (sym is.0) (subst (λ (b : List ℕ). Q (Zero x.0 b)) (sym is.1) (q x.0 x.1 refl))
zero-halt p Q (Some x) ReadFault is none q = absurd is
zero-halt p Q (Some x) WriteFault is none q = absurd is
zero-halt p Q (Some x) OutOfMemory is none q = none

-- a halt of a later step
pub cause-later : (p : Plan) (named : Named) (told first : Type 0) (files : List Saving) (before start now : ℕ) (halt : Halt) → (first → told) → before ≡ start → HaltCause p named told files before now halt → HaltCause p named first files start now halt
cause-later p named told first files before start now (Zero node block) t e h = λ x. h (t x)
cause-later p named told first files before start now ReadFault t e h = subst (λ n. Rose n now) e h
cause-later p named told first files before start now WriteFault t e h = h
cause-later p named told first files before start now OutOfMemory t e h = tt

-- what is given of a halt, over names by which the files have what they had
pub given-later : (p : Plan) (heads : List Head) (names first : List (List ℕ)) (pieces : List Piece) (halt : Halt) → ((holds : List ℕ → List ℕ) (named : Named) → HaveNamed heads first holds named → HaveNamed heads names holds named)
    → HaltGiven p heads names pieces halt → HaltGiven p heads first pieces halt
given-later p heads names first pieces (Zero node block) f h = λ holds named a x. h holds named a (f holds named x)
given-later p heads names first pieces ReadFault f h = tt
given-later p heads names first pieces WriteFault f h = tt
given-later p heads names first pieces OutOfMemory f h = tt
