-- As many bytes as were passed are skipped.
use Rattle.std.proofs.Common.{◌≡◌, ◌+◌, drop, false}
use Rattle.job_tokens.specs.Fronts.{skipped}
use Rattle.job_tokens.proofs.token.blanks_at_front.Given as goal

abbrev pub invariant-loop-i : goal.invariant-loop-i
invariant-loop-i l = skipped l.inside false l.rest ≡ l.i + skipped l.inside l.comment (drop l.i l.rest)
