use Rattle.std.proofs.Common.{◌<◌, false, cond, sym, ap, ◌∙◌, subst, refl, eqb}
use Rattle.spread_flags.specs.Spread.{Spread, size, seed}
use Rattle.spread_flags.specs.Spreads.{spread_of}
use Rattle.spread_flags.proofs.KeepLemmas.{kept-told}
use Rattle.spread_flags.proofs.flags.Flags.set_seed.Goals as goal

pub invariant_of-self : goal.invariant_of-self
invariant_of-self c =
    let s = spread_of c.self.inside in
    let key = c.args.key in
    kept-told s key c.set.new.self c.self.inside.gates c.insert.new.self c.self.invariant (subst (λ (z : Spread). key < size z) (sym c.self.view_is) c.requires)
    c.set.ensures.length refl (λ k e. ap (λ g. g k) (c.set.ensures.meaning false) ∙ ap (λ b. cond b c.args.to (seed s k)) e) (λ k e. refl) c.insert.ensures.keys c.insert.ensures.room

pub returns-clause-seeds : goal.returns-clause-seeds
returns-clause-seeds c k =
    ap (λ g. g k) (c.set.ensures.meaning false) ∙ ap (λ z. cond (eqb k c.args.key) c.args.to (seed z k)) c.self.view_is
