-- As many bytes as were passed are counted.
use Rattle.std.proofs.Common.{◌≡◌, ◌+◌, drop}
use Rattle.std.specs.List.{prefix_len}
use Rattle.job_tokens.specs.Bytes.{is_digit}
use Rattle.job_tokens.proofs.bytes.digits_at_front.Given as goal

abbrev pub invariant-loop-i : goal.invariant-loop-i
invariant-loop-i l = prefix_len is_digit l.rest ≡ l.i + prefix_len is_digit (drop l.i l.rest)
