use Rattle.std.proofs.Common.{ℕ, List, sym, ◌∙◌, subst, arith}
use Rattle.std.proofs.lemmas.List.{take_all}
use Rattle.spread_flags.specs.Spread.{IsLinked}
use Rattle.standing.proofs.LinkLemmas.{shape-linked}
use Rattle.standing.proofs.links.down_links.Goals as goal

pub returns-clause-linked : goal.returns-clause-linked
returns-clause-linked c =
    let e = c.loop-key.invariant ∙ take_all c.loop-key.key c.args.shape.now.deps (omega (arith, c.keys-key-end.ensures)) in
    subst (λ (ls : List (List ℕ)). IsLinked ls) (sym e) (shape-linked c.args.shape.now c.sound.ensures)
