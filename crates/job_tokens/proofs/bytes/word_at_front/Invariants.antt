-- As many bytes as were passed are counted.
use Rattle.std.proofs.Common.{◌≡◌, ◌+◌, drop}
use Rattle.std.specs.List.{prefix_len}
use Rattle.job_tokens.specs.Bytes.{is_word}
use Rattle.job_tokens.proofs.bytes.word_at_front.Given as goal

abbrev pub invariant-loop-i : goal.invariant-loop-i
invariant-loop-i l = prefix_len is_word l.rest ≡ l.i + prefix_len is_word (drop l.i l.rest)
