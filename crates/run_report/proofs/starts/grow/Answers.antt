use Rattle.std.proofs.Common.{◌+◌, ◌∷◌, [], ap, ◌∙◌, length, get_or}
use Rattle.std.proofs.lemmas.List.{length-append}
use Rattle.run_report.proofs.TallyLemmas.{zero-push}
use Rattle.run_report.proofs.starts.grow.Goals as goal

pub loop-number-preserved : goal.loop-number-preserved
loop-number-preserved c = record {
  long = ap length c.in_ok-push.ensures.ok ∙ length-append c.loop-number.starts (0 ∷ []) ∙ ap (λ n. n + 1) c.loop-number.invariant.long;
  same = λ k. ap (λ xs. get_or xs k 0) c.in_ok-push.ensures.ok ∙ zero-push c.loop-number.starts k ∙ c.loop-number.invariant.same k;
}

pub returns-in_err-push-clause-same : goal.returns-in_err-push-clause-same
returns-in_err-push-clause-same c k = ap (λ xs. get_or xs k 0) c.in_err-push.ensures.err ∙ c.loop-number.invariant.same k
