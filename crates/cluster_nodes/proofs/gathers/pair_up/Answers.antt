use Rattle.std.proofs.Common.{◌∙◌, ℕ, List, ap}
use Rattle.std.specs.declared.sync.Arc.{Arc}
use Rattle.std.specs.declared.alloc.Global.{Global}
use Rattle.std.proofs.lemmas.Result.{IfOk-weaker}
use Rattle.std.proofs.lemmas.Iterator.{YieldsList-from_slice, YieldsList-from_zip, items_from_collect}
use Rattle.std.proofs.lemmas.Iterator.Adapters.{YieldsList-from_vec}
use Rattle.std.proofs.lemmas.Iterator.Consumers.{YieldsList-at, YieldsList-from_copied}
use Rattle.cluster_msgs.specs.Jobs.{blocks_of}
use Rattle.cluster_laws.specs.Moves.{block_among}
use Rattle.cluster_nodes.specs.Turns.{among}
use Rattle.cluster_nodes.proofs.Gathering.{among_zip}
use Rattle.cluster_nodes.proofs.gathers.pair_up.Goals as goal

pub returns : goal.returns
returns g c =
    let ks = c.args.keys.now in
    let bs = c.into_vec.result.items in
    let road = YieldsList-from_zip
    (YieldsList-at c.zip.ensures.first (YieldsList-from_copied (YieldsList-at c.copied.ensures.source (YieldsList-from_slice ks c.iter.ensures.rest))))
    (YieldsList-from_vec bs c.zip.ensures.second.0 (c.zip.ensures.second.1 ∙ c.into_vec.result.ok.0)) in
    IfOk-weaker c.collect.result _ _
    (λ v e k. ap (λ (ps : List (ℕ × Arc g.row.B.Denot Global)). among ps k) e ∙ among_zip ks bs k
    ∙ ap (λ (l : List (Arc g.row.B.Denot Global)). block_among ks (blocks_of l) k) c.into_vec.ensures)
    (items_from_collect c.collect.result c.collect.ensures.ran road)
