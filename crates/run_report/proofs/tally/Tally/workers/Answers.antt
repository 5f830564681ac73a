use Rattle.std.proofs.Common.{◌+◌, ◌++◌, ◌∷◌, [], map, sym, ap, ◌∙◌, get_or}
use Rattle.cluster_rules.specs.Functions.{from_one}
use Rattle.run_report.proofs.TallyLemmas.{workers_more}
use Rattle.run_report.proofs.tally.Tally.workers.Goals as goal

pub loop-number-preserved : goal.loop-number-preserved
loop-number-preserved c =
    let n = c.loop-number.number in
    c.in_ok-push.ensures.ok
    ∙ ap (λ xs. xs ++ (n + 1, c.count_of.result) ∷ []) c.loop-number.invariant
    ∙ ap (λ m. map (λ i. (i, get_or c.args.self.now.starts i 0)) (from_one n) ++ (n + 1, m) ∷ []) c.count_of.ensures
    ∙ sym (workers_more (λ i. get_or c.args.self.now.starts i 0) n)
