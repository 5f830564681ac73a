use Rattle.std.proofs.Common.{◌≡◌, None, Some, cond, sym, ap, ◌∙◌}
use Rattle.fact_rows.specs.Rows.{read}
use Rattle.cluster_rules.specs.Sched.{blame, held, deps}
use Rattle.cluster_rules.proofs.DerivedLemmas.{All-weaken}
use Rattle.sched_facts.specs.Derived.{first_some}
use Rattle.sched_facts.specs.Stored.{facts_of}
use Rattle.sched_facts.proofs.DeriveLemmas.{first_some-agree, blame_by_first}
use Rattle.sched_facts.proofs.derived.blame_of.Goals as goal

pub returns : goal.returns
returns c =
    let f = facts_of c.args.table.now in
    let k = c.args.key in
    let found : c.first_blame-found.result ≡ first_some (blame f) (deps f k) = c.first_blame-found.ensures ∙ ap (first_some (read c.args.row.now None)) (c.deps.ensures ∙ ap (λ g. Rattle.cluster_msgs.specs.Shape.deps_of g k) c.shape.ensures) ∙ first_some-agree (read c.args.row.now None) (blame f) (deps f k) (All-weaken (λ d h. c.requires.below d h) (deps f k) (c.sound.ensures.shape.below k)) in
    c.choose_blame.ensures ∙ ap (λ b. cond b None (cond c.is_bad.result (Some k) c.first_blame-found.result)) c.is_held.ensures ∙ ap (λ b. cond (held f k) None (cond b (Some k) c.first_blame-found.result)) c.is_bad.ensures ∙ ap (λ o. cond (held f k) None (cond (f.bad k) (Some k) o)) found ∙ sym (blame_by_first f c.sound.ensures k)
