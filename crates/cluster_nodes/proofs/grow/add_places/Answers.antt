use Rattle.std.proofs.Common.{◌∙◌, ◌++◌, ◌∷◌, [], false, ap, refl}
use Rattle.fact_rows.specs.Rows.{cell, height, width}
use Rattle.cluster_nodes.proofs.Changing.{grid_more}
use Rattle.cluster_nodes.proofs.Places.{one_longer}
use Rattle.cluster_nodes.proofs.grow.add_places.Goals as goal

pub returns-clause-spilled : goal.returns-clause-spilled
returns-clause-spilled g c =
    let old = c.args.spilled.now in
    ap (λ v. cell v false) c.in_ok-push.ensures.ok ∙ grid_more false (width old) (width old) old.1 c.in_ok-row.row c.in_ok-row.ensures.same

pub returns-clause-spilled_size : goal.returns-clause-spilled_size
returns-clause-spilled_size g c =
    let old = c.args.spilled.now in
    (ap height c.in_ok-push.ensures.ok ∙ one_longer (old.1 ++ c.in_ok-row.row ∷ []) old.1 c.in_ok-row.row refl, ap width c.in_ok-push.ensures.ok)
