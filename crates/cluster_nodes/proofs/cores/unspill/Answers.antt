use Rattle.std.proofs.Common.{◌≡◌, ◌∙◌, Bool, true, false, ◌&&◌, refl, sym}
use Rattle.std.proofs.Math.Bool.{and-false}
use Rattle.fact_rows.specs.Rows.{cell}
use Rattle.worker_core.specs.Core.{facts}
use Rattle.cluster_nodes.proofs.Places.{touch_all}
use Rattle.cluster_nodes.proofs.cores.unspill.Goals as goal

kept : (x m : Bool) → (m ≡ false → x ≡ false) → (x && m) ≡ x
kept x false f = and-false x ∙ sym (f refl)
kept true true f = refl
kept false true f = refl

pub returns-else-strays-clause-meaning : goal.returns-else-strays-clause-meaning
returns-else-strays-clause-meaning c = touch_all (λ q x. x && (facts c.args.core.now).mem q) (cell c.args.spilled.now false) (cell c.unspill_lost.new.spilled false) c.args.worker c.args.lost.now
    (λ k o. kept (cell c.args.spilled.now false c.args.worker k) ((facts c.args.core.now).mem k) (λ m. c.requires.tidy c.if-strays.false k m o))
    c.unspill_lost.ensures.meaning
