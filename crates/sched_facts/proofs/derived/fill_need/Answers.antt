use Rattle.std.proofs.Common.{ap, ◌∙◌, false}
use Rattle.cluster_rules.specs.Derived.{reach}
use Rattle.cluster_rules.specs.Sched.{keys, deps, need, wanted, open_key}
use Rattle.cluster_rules.proofs.DerivedLemmas.{reach-pass}
use Rattle.cluster_rules.proofs.FunctionLemmas.{same_function}
use Rattle.fact_rows.specs.Rows.{read}
use Rattle.sched_facts.specs.Stored.{facts_of}
use Rattle.sched_facts.proofs.derived.fill_need.Goals as goal

pub returns-clause-meaning : goal.returns-clause-meaning
unfolding need
returns-clause-meaning c =
    let f = facts_of c.args.table.now in
    c.spread.ensures.meaning ∙ ap (λ s. reach (deps f) (keys f) s (read c.args.open_keys.now false)) c.fill_wanted.ensures.meaning ∙ same_function (reach (deps f) (keys f) (wanted f) (read c.args.open_keys.now false)) (reach (deps f) (keys f) (wanted f) (open_key f)) (reach-pass (deps f) (keys f) (wanted f) (read c.args.open_keys.now false) (open_key f) c.requires.open_keys)
