use Rattle.std.proofs.Common.{ap, ◌∙◌, true, false}
use Rattle.cluster_rules.specs.Derived.{reach}
use Rattle.cluster_rules.specs.Sched.{keys, deps, known, wanted}
use Rattle.cluster_rules.proofs.DerivedLemmas.{reach-pass}
use Rattle.cluster_rules.proofs.FunctionLemmas.{same_function}
use Rattle.fact_rows.specs.Rows.{read}
use Rattle.sched_facts.specs.Stored.{facts_of}
use Rattle.sched_facts.proofs.derived.fill_known.Goals as goal

pub returns-clause-meaning : goal.returns-clause-meaning
unfolding known
returns-clause-meaning c =
    let f = facts_of c.args.table.now in
    c.spread.ensures.meaning ∙ ap (λ s. reach (deps f) (keys f) s (read c.args.every.now false)) c.fill_wanted.ensures.meaning ∙ same_function (reach (deps f) (keys f) (wanted f) (read c.args.every.now false)) (reach (deps f) (keys f) (wanted f) (λ _. true)) (reach-pass (deps f) (keys f) (wanted f) (read c.args.every.now false) (λ _. true) c.requires.every)
