use Rattle.std.proofs.Common.{◌<◌, false, cond, sym, ap, ◌∙◌, subst, refl, eqb}
use Rattle.spread_flags.specs.Spread.{Spread, size, gate}
use Rattle.spread_flags.specs.Spreads.{spread_of}
use Rattle.spread_flags.proofs.KeepLemmas.{kept-told}
use Rattle.spread_flags.proofs.flags.Flags.set_gate.Goals as goal

pub invariant_of-self : goal.invariant_of-self
invariant_of-self c =
    let s = spread_of c.self.inside in
    let key = c.args.key in
    kept-told s key c.self.inside.seeds c.set.new.self c.insert.new.self c.self.invariant (subst (λ (z : Spread). key < size z) (sym c.self.view_is) c.requires)
    refl c.set.ensures.length (λ k e. refl) (λ k e. ap (λ g. g k) (c.set.ensures.meaning false) ∙ ap (λ b. cond b c.args.to (gate s k)) e) c.insert.ensures.keys c.insert.ensures.room

pub returns-clause-gates : goal.returns-clause-gates
returns-clause-gates c k =
    ap (λ g. g k) (c.set.ensures.meaning false) ∙ ap (λ z. cond (eqb k c.args.key) c.args.to (gate z k)) c.self.view_is
