-- The bytes that were passed are digits.
use Rattle.std.proofs.Common.{◌≡◌, drop}
use Rattle.std.specs.List.{list_all}
use Rattle.job_tokens.specs.Bytes.{is_digit}
use Rattle.command_words.proofs.numbers.is_digits.Given as goal

abbrev pub invariant-loop-digit : goal.invariant-loop-digit
invariant-loop-digit l = list_all is_digit l.word ≡ list_all is_digit (drop l.digit-index l.word)
