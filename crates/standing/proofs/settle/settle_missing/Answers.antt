use Rattle.std.proofs.Common.{ℕ, false, not, ltb, ◌&&◌, List, length, ap, ◌∙◌, subst}
use Rattle.fact_rows.specs.Rows.{read}
use Rattle.cluster_rules.specs.Functions.{count}
use Rattle.cluster_rules.specs.Derived.{below, is_in}
use Rattle.cluster_rules.specs.Sched.{keys, held}
use Rattle.sched_facts.specs.Stored.{facts_of}
use Rattle.spread_flags.specs.Spread.{IsSpread, seed, gate, flag}
use Rattle.standing.specs.Links.{linked_to}
use Rattle.standing.proofs.Unique.{missing-flags, fed-missing}
use Rattle.standing.proofs.settle.settle_missing.Goals as goal

pub returns-clause-missing : goal.returns-clause-missing
returns-clause-missing c k l =
    let f = facts_of c.args.table.now in
    let new = c.settle_up.new.self in
    let ls = c.args.flags.now.links in
    let spread_old : IsSpread (linked_to ls) (length ls) (seed new) (gate new) (flag new) = subst (λ (xs : List (List ℕ)). IsSpread (linked_to xs) (length xs) (seed new) (gate new) (flag new)) c.settle_up.ensures.links c.settle_up.ensures.spread in
    let spread : IsSpread (linked_to ls) (keys f) (seed new) (gate new) (flag new) = subst (λ (n : ℕ). IsSpread (linked_to ls) n (seed new) (gate new) (flag new)) c.requires.links.same spread_old in
    missing-flags (linked_to ls) (keys f) (seed new) (gate new) (flag new) (λ j. not (held f j))
    (λ j m. ap (λ r. read r false j) c.settle_up.ensures.seeds ∙ c.requires.seeds j m)
    (λ j m. ap (λ r. read r false j) c.settle_up.ensures.gates ∙ c.requires.gates j m) spread k l

pub returns-clause-fed : goal.returns-clause-fed
returns-clause-fed c k l =
    let f = facts_of c.args.table.now in
    let new = c.settle_up.new.self in
    let ls = c.args.flags.now.links in
    let spread_old : IsSpread (linked_to ls) (length ls) (seed new) (gate new) (flag new) = subst (λ (xs : List (List ℕ)). IsSpread (linked_to xs) (length xs) (seed new) (gate new) (flag new)) c.settle_up.ensures.links c.settle_up.ensures.spread in
    let spread : IsSpread (linked_to ls) (keys f) (seed new) (gate new) (flag new) = subst (λ (n : ℕ). IsSpread (linked_to ls) n (seed new) (gate new) (flag new)) c.requires.links.same spread_old in
    let same = missing-flags (linked_to ls) (keys f) (seed new) (gate new) (flag new) (λ j. not (held f j))
    (λ j m. ap (λ r. read r false j) c.settle_up.ensures.seeds ∙ c.requires.seeds j m)
    (λ j m. ap (λ r. read r false j) c.settle_up.ensures.gates ∙ c.requires.gates j m) spread in
    ap (ltb 0) (c.sound-2.ensures.counted k ∙ ap (λ xs. count (λ j. is_in k (linked_to xs j) && flag new j) (below (length xs))) c.settle_up.ensures.links ∙ ap (λ n. count (λ j. is_in k (linked_to ls j) && flag new j) (below n)) c.requires.links.same)
    ∙ fed-missing f ls (flag new) c.sound.ensures c.requires.links same k l
