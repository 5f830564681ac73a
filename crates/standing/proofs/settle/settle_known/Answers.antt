use Rattle.std.proofs.Common.{ℕ, true, false, List, length, ap, ◌∙◌, subst}
use Rattle.fact_rows.specs.Rows.{read}
use Rattle.cluster_rules.specs.Sched.{keys, deps, wanted, known}
use Rattle.sched_facts.specs.Stored.{facts_of}
use Rattle.spread_flags.specs.Spread.{IsSpread, seed, gate, flag}
use Rattle.standing.specs.Links.{linked_to}
use Rattle.standing.proofs.Unique.{unique_down, spread-agree, known-spreads}
use Rattle.standing.proofs.settle.settle_known.Goals as goal

pub returns-clause-known : goal.returns-clause-known
returns-clause-known c k l =
    let f = facts_of c.args.table.now in
    let new = c.settle_down.new.self in
    let spread : IsSpread (deps f) (keys f) (seed new) (gate new) (flag new) = subst (λ (ls : List (List ℕ)). IsSpread (linked_to ls) (length ls) (seed new) (gate new) (flag new)) (c.settle_down.ensures.links ∙ c.requires.links) c.settle_down.ensures.spread in
    unique_down (deps f) (keys f) (wanted f) (λ _. true) (flag new) (known f) c.sound.ensures.shape.below
    (spread-agree (deps f) (keys f) (seed new) (wanted f) (gate new) (λ _. true) (flag new)
    (λ j m. ap (λ r. read r false j) c.settle_down.ensures.seeds ∙ c.requires.seeds j m)
    (λ j m. ap (λ r. read r false j) c.settle_down.ensures.gates ∙ c.requires.gates j m) spread)
    (known-spreads f c.sound.ensures) k l
