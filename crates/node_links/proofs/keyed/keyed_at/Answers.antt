use Rattle.std.proofs.Common.{◌∙◌, sym, ap, subst, get_or}
use Rattle.std.specs.Arc.{arc_value}
use Rattle.cluster_msgs.specs.Labels.{BlockFits}
use Rattle.node_links.proofs.Parcels.{fits_at}
use Rattle.node_links.proofs.keyed.keyed_at.Goals as goal

pub new-requires : goal.new-requires
new-requires g c =
    let b = c.index-as_slice-at.result in
    subst (BlockFits g.L.Label.facts (get_or c.args.found.now c.args.at 0)) (sym (c.in_ok-block.ensures.cases ∙ ap arc_value (c.index-as_slice-at.is ∙ ap (λ bs. get_or bs c.args.at b) c.as_slice.ensures)))
    (fits_at g.L.Label.facts c.args.found.now c.args.blocks.now c.requires.fits c.args.at 0 b c.requires.at.0)
