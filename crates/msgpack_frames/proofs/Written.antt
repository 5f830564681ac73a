-- What `encode` promises, from what it wrote.
use Rattle.std.proofs.Common.{◌≡◌, ℕ, ◌++◌, ◌≤◌, List, length, Result, Ok, Err, sym, subst}
use Rattle.std.specs.Prelude.{IfOk, IfErr, OnOk}
use Rattle.std.specs.Global.{Vec}
use Rattle.msgpack_frames.specs.declared.error.MpError.{MpError}
use Rattle.msgpack_frames.specs.Data.{Data, max_depth, IsWithin}
use Rattle.msgpack_frames.specs.Encoding.{Encodes}
use Rattle.msgpack_frames.specs.Reading.{outcome}
use Rattle.msgpack_frames.specs.Spelling.{spelling, IsValid, fault_of, Tells, IsFaultOf}
use Rattle.msgpack_frames.proofs.Faults.{no_fault, is_fault}
use Rattle.msgpack_frames.proofs.Outcome.{outcome_again}
use Rattle.msgpack_frames.proofs.Spelled.{encodes, shortest}

-- what a whole value was written as
pub record IsWritten (d : Data) (bytes : List ℕ) : Type 0 where
  pub encoded : Encodes d bytes
  pub shortest : (other : List ℕ) → Encodes d other → length bytes ≤ length other
  pub within : IsWithin d
  pub read_back : (more : List ℕ) → outcome (bytes ++ more) ≡ Ok (d, length bytes)

written : (d : Data) → IsValid d → IsWithin d → IsWritten d (spelling d)
written d valid within =
    let e = encodes d valid within.short in
    record { encoded = e; shortest = shortest d; within = within; read_back = λ more. outcome_again d (spelling d) more e within }

pub is_written : (d : Data) (r : Result (Vec ℕ) MpError) → IfOk r (λ v. v.items ≡ spelling d) → OnOk r (IsValid d) → Tells r (fault_of max_depth d) → IfOk r (λ v. IsWritten d v.items)
is_written d (Ok v) spelled valid fault = subst (IsWritten d) (sym spelled) (written d valid (no_fault d fault))
is_written d (Err e) spelled valid fault = tt

pub is_unwritten : (d : Data) (r : Result (Vec ℕ) MpError) → Tells r (fault_of max_depth d) → IfErr r (IsFaultOf d)
is_unwritten d (Ok v) fault = tt
is_unwritten d (Err e) fault = is_fault d e fault
