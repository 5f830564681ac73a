use Rattle.std.proofs.Common.{◌∙◌, Bool, false, ◌&&◌, ap}
use Rattle.cluster_rules.specs.Functions.{put_pair}
use Rattle.fact_rows.specs.Rows.{cell}
use Rattle.cluster_nodes.proofs.cores.unspill_key.Goals as goal

pub returns-clause-meaning : goal.returns-clause-meaning
returns-clause-meaning c =
    let was = cell c.args.spilled.now false in
    c.set.ensures.meaning false
    ∙ ap (λ (b : Bool). put_pair was c.args.worker c.args.key (b && c.holds.result)) c.test.ensures
    ∙ ap (λ (b : Bool). put_pair was c.args.worker c.args.key (was c.args.worker c.args.key && b)) c.holds.ensures
