use Rattle.std.proofs.Common.{ℕ, ◌<◌, ◌++◌, ◌∷◌, [], cond, List, get_or, sym, ap, ◌∙◌, subst, arith}
use Rattle.std.specs.List.{AllByRecursion}
use Rattle.cluster_rules.specs.Derived.{is_in}
use Rattle.spread_flags.proofs.CountLemmas.{rec_at}
use Rattle.standing.specs.Links.{linked_to}
use Rattle.standing.proofs.LinkLemmas.{reverse-none, reverse-more, reverse-all, reverse-linked}
use Rattle.standing.proofs.links.up_links.Goals as goal

pub loop-key-init : goal.loop-key-init
loop-key-init c = reverse-none c.args.shape.now c.in_ok-links.links.items (c.in_ok-links.ensures.length ∙ c.keys.ensures) c.in_ok-links.ensures.empty

pub loop-key-preserved : goal.loop-key-preserved
loop-key-preserved c =
    reverse-more c.args.shape.now c.loop-key.links.items c.add_dependent.new.links.items c.loop-key.key c.sound.ensures (omega (arith, c.keys-key-end.ensures)) c.loop-key.invariant c.in_ok-add_dependent.ensures.length
    (λ j. c.in_ok-add_dependent.ensures.added j ∙ ap (λ ds. cond (is_in j ds) (linked_to c.loop-key.links.items j ++ c.loop-key.key ∷ []) (linked_to c.loop-key.links.items j)) c.deps.ensures)

pub add_dependent-requires-clause-keys : goal.add_dependent-requires-clause-keys
add_dependent-requires-clause-keys c k d l =
    let key = c.loop-key.key in
    let at : get_or c.deps.result.now k d < key = rec_at (λ y. y < key) c.deps.result.now (subst (λ (xs : List ℕ). AllByRecursion (λ y. y < key) xs) (sym c.deps.ensures) (c.sound.ensures.below key)) k d l in
    omega (arith, at, c.loop-key.invariant.same, c.keys-key-end.ensures, c.loop-key.links.ok.0)

pub returns-clause-reverse : goal.returns-clause-reverse
returns-clause-reverse c = reverse-all c.args.shape.now c.loop-key.links.items c.loop-key.key c.sound.ensures (omega (arith, c.keys-key-end.ensures)) c.loop-key.invariant

pub returns-clause-linked : goal.returns-clause-linked
returns-clause-linked c = reverse-linked c.args.shape.now c.loop-key.links.items c.loop-key.key c.sound.ensures (omega (arith, c.keys-key-end.ensures)) c.loop-key.invariant
