-- The digits so far say the number.
use Rattle.std.proofs.Common.{◌≡◌, take}
use Rattle.job_tokens.specs.Bytes.{capped, decimal}
use Rattle.job_tokens.proofs.bytes.number.Given as goal

abbrev pub invariant-loop-digit : goal.invariant-loop-digit
invariant-loop-digit l = l.number ≡ capped (decimal (take l.digit-index l.digits))
