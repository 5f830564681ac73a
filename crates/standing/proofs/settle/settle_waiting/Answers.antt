use Rattle.std.proofs.Common.{ℕ, false, ◌&&◌, List, length, ap, ◌∙◌, subst}
use Rattle.fact_rows.specs.Rows.{read}
use Rattle.cluster_rules.specs.Functions.{count}
use Rattle.cluster_rules.specs.Derived.{below, is_in}
use Rattle.cluster_rules.specs.Sched.{keys, deps, wanted, need, open_key}
use Rattle.sched_facts.specs.Stored.{facts_of}
use Rattle.spread_flags.specs.Spread.{IsSpread, seed, gate, flag}
use Rattle.standing.specs.Links.{linked_to}
use Rattle.standing.proofs.Unique.{unique_down, spread-agree, waiting-spreads, waiters-counted}
use Rattle.standing.proofs.settle.settle_waiting.Goals as goal

pub returns-clause-waiting : goal.returns-clause-waiting
returns-clause-waiting c k l =
    let f = facts_of c.args.table.now in
    let new = c.settle_down.new.self in
    let spread : IsSpread (deps f) (keys f) (seed new) (gate new) (flag new) = subst (λ (ls : List (List ℕ)). IsSpread (linked_to ls) (length ls) (seed new) (gate new) (flag new)) (c.settle_down.ensures.links ∙ c.requires.links) c.settle_down.ensures.spread in
    unique_down (deps f) (keys f) (wanted f) (open_key f) (flag new) (λ j. open_key f j && need f j) c.sound.ensures.shape.below
    (spread-agree (deps f) (keys f) (seed new) (wanted f) (gate new) (open_key f) (flag new)
    (λ j m. ap (λ r. read r false j) c.settle_down.ensures.seeds ∙ c.requires.seeds j m)
    (λ j m. ap (λ r. read r false j) c.settle_down.ensures.gates ∙ c.requires.gates j m) spread)
    (waiting-spreads f c.sound.ensures) k l

pub returns-clause-waiters : goal.returns-clause-waiters
returns-clause-waiters c k =
    let f = facts_of c.args.table.now in
    let new = c.settle_down.new.self in
    let spread : IsSpread (deps f) (keys f) (seed new) (gate new) (flag new) = subst (λ (ls : List (List ℕ)). IsSpread (linked_to ls) (length ls) (seed new) (gate new) (flag new)) (c.settle_down.ensures.links ∙ c.requires.links) c.settle_down.ensures.spread in
    let same = unique_down (deps f) (keys f) (wanted f) (open_key f) (flag new) (λ j. open_key f j && need f j) c.sound.ensures.shape.below
    (spread-agree (deps f) (keys f) (seed new) (wanted f) (gate new) (open_key f) (flag new)
    (λ j m. ap (λ r. read r false j) c.settle_down.ensures.seeds ∙ c.requires.seeds j m)
    (λ j m. ap (λ r. read r false j) c.settle_down.ensures.gates ∙ c.requires.gates j m) spread)
    (waiting-spreads f c.sound.ensures) in
    c.sound-2.ensures.counted k ∙ ap (λ ls. count (λ j. is_in k (linked_to ls j) && flag new j) (below (length ls))) (c.settle_down.ensures.links ∙ c.requires.links) ∙ waiters-counted f (flag new) k same
