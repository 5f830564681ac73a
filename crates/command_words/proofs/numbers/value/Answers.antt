-- A digit more.
use Rattle.std.proofs.Common.{◌∙◌}
use Rattle.command_words.proofs.Digits.{capped-more}
use Rattle.command_words.proofs.numbers.value.Goals as goal

pub loop-digit-preserved : goal.loop-digit-preserved
loop-digit-preserved c =
    c.with_digit-number.ensures ∙ capped-more c.args.digits.now c.loop-digit.digit-index c.loop-digit.number c.loop-digit-test.true c.loop-digit.invariant
