use Rattle.std.proofs.Common.{ℕ, false, not, List, length, ap, ◌∙◌, subst}
use Rattle.fact_rows.specs.Rows.{read}
use Rattle.cluster_rules.specs.Sched.{keys, held, erred}
use Rattle.sched_facts.specs.Stored.{facts_of}
use Rattle.spread_flags.specs.Spread.{IsSpread, seed, gate, flag}
use Rattle.standing.specs.Links.{linked_to}
use Rattle.standing.proofs.Unique.{unique_up, spread-agree, erred-spreads}
use Rattle.standing.proofs.settle.settle_erred.Goals as goal

pub returns-clause-erred : goal.returns-clause-erred
returns-clause-erred c k l =
    let f = facts_of c.args.table.now in
    let new = c.settle_up.new.self in
    let ls = c.args.flags.now.links in
    let spread_old : IsSpread (linked_to ls) (length ls) (seed new) (gate new) (flag new) = subst (λ (xs : List (List ℕ)). IsSpread (linked_to xs) (length xs) (seed new) (gate new) (flag new)) c.settle_up.ensures.links c.settle_up.ensures.spread in
    let spread : IsSpread (linked_to ls) (keys f) (seed new) (gate new) (flag new) = subst (λ (n : ℕ). IsSpread (linked_to ls) n (seed new) (gate new) (flag new)) c.requires.links.same spread_old in
    unique_up (linked_to ls) (keys f) f.bad (λ j. not (held f j)) (flag new) (erred f) c.requires.links.above
    (spread-agree (linked_to ls) (keys f) (seed new) f.bad (gate new) (λ j. not (held f j)) (flag new)
    (λ j m. ap (λ r. read r false j) c.settle_up.ensures.seeds ∙ c.requires.seeds j m)
    (λ j m. ap (λ r. read r false j) c.settle_up.ensures.gates ∙ c.requires.gates j m) spread)
    (erred-spreads f ls c.sound.ensures c.requires.links) k l
