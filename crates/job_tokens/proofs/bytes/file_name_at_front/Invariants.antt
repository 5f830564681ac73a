-- As many bytes as were passed are counted.
use Rattle.std.proofs.Common.{◌≡◌, ◌+◌, drop}
use Rattle.std.specs.List.{prefix_len}
use Rattle.job_tokens.specs.Bytes.{is_file_byte}
use Rattle.job_tokens.proofs.bytes.file_name_at_front.Given as goal

abbrev pub invariant-loop-i : goal.invariant-loop-i
invariant-loop-i l = prefix_len is_file_byte l.rest ≡ l.i + prefix_len is_file_byte (drop l.i l.rest)
