use Rattle.std.proofs.Common.{◌∙◌, ap, sym, subst}
use Rattle.std.specs.Prelude.{Some, None}
use Rattle.std.specs.Arc.{arc_value}
use Rattle.cluster_msgs.specs.Jobs.{blocks_of, value_of}
use Rattle.cluster_msgs.specs.Shape.{IsShape, deps_of}
use Rattle.graph_run.specs.Slots.{block_at}
use Rattle.graph_run.proofs.Gathering.{map-gathered, val-gathered, gathered-of}
use Rattle.graph_run.proofs.running.run_key.Goals as goal

pub run_traced-requires-clause-inputs : goal.run_traced-requires-clause-inputs
run_traced-requires-clause-inputs g c =
    let job = c.args.job.now in
    let block = block_at c.args.slots.now in
    let graph = g.J.JobSpec.graph job in
    let whole = gathered-of block c.as_slice.result.now c.in_ok-inputs.inputs.items c.deps.result.now c.shape-graph.result.now graph c.args.key c.as_slice.ensures.value c.in_ok-inputs.ensures c.deps.ensures c.shape-graph.ensures in
    map-gathered block g.J.JobSpec.block_dims (g.J.JobSpec.key_dims job) (deps_of graph c.args.key) (blocks_of c.as_slice.result.now) whole c.requires.dims

pub returns-in-Value-clause-value : goal.returns-in-Value-clause-value
returns-in-Value-clause-value g c =
    let job = c.args.job.now in
    let block = block_at c.args.slots.now in
    let graph = g.J.JobSpec.graph job in
    let whole = gathered-of block c.as_slice.result.now c.in_ok-inputs.inputs.items c.deps.result.now c.shape-graph.result.now graph c.args.key c.as_slice.ensures.value c.in_ok-inputs.ensures c.deps.ensures c.shape-graph.ensures in
    λ t v. val-gathered block graph (g.J.JobSpec.operation job) c.args.key (blocks_of c.as_slice.result.now) (Some (arc_value c.in_ok-block-in-Value.block)) (value_of c.in_ok-outcome.outcome) (subst IsShape c.shape-graph.ensures c.sound.ensures) whole
    (ap (λ b. Some b) c.in_ok-block-in-Value.ensures.ok ∙ sym (ap value_of c.in-Value.is)) (c.in_ok-outcome.ensures.value t) v

pub returns-clause-value : goal.returns-clause-value
returns-clause-value g c =
    let job = c.args.job.now in
    let block = block_at c.args.slots.now in
    let graph = g.J.JobSpec.graph job in
    let whole = gathered-of block c.as_slice.result.now c.in_ok-inputs.inputs.items c.deps.result.now c.shape-graph.result.now graph c.args.key c.as_slice.ensures.value c.in_ok-inputs.ensures c.deps.ensures c.shape-graph.ensures in
    λ t v. val-gathered block graph (g.J.JobSpec.operation job) c.args.key (blocks_of c.as_slice.result.now) None (value_of c.in_ok-outcome.outcome) (subst IsShape c.shape-graph.ensures c.sound.ensures) whole
    (sym (ap value_of c.in-Zero.is)) (c.in_ok-outcome.ensures.value t) v

pub returns-in-Value-clause-given : goal.returns-in-Value-clause-given
returns-in-Value-clause-given g c =
    let job = c.args.job.now in
    let block = block_at c.args.slots.now in
    let graph = g.J.JobSpec.graph job in
    let whole = gathered-of block c.as_slice.result.now c.in_ok-inputs.inputs.items c.deps.result.now c.shape-graph.result.now graph c.args.key c.as_slice.ensures.value c.in_ok-inputs.ensures c.deps.ensures c.shape-graph.ensures in
    λ holds named a h v. val-gathered block graph (g.J.TracedJob.made_of job named) c.args.key (blocks_of c.as_slice.result.now) (Some (arc_value c.in_ok-block-in-Value.block)) (value_of c.in_ok-outcome.outcome) (subst IsShape c.shape-graph.ensures c.sound.ensures) whole
    (ap (λ b. Some b) c.in_ok-block-in-Value.ensures.ok ∙ sym (ap value_of c.in-Value.is)) (c.in_ok-outcome.ensures.given holds named a h) v

pub returns-clause-given : goal.returns-clause-given
returns-clause-given g c =
    let job = c.args.job.now in
    let block = block_at c.args.slots.now in
    let graph = g.J.JobSpec.graph job in
    let whole = gathered-of block c.as_slice.result.now c.in_ok-inputs.inputs.items c.deps.result.now c.shape-graph.result.now graph c.args.key c.as_slice.ensures.value c.in_ok-inputs.ensures c.deps.ensures c.shape-graph.ensures in
    λ holds named a h v. val-gathered block graph (g.J.TracedJob.made_of job named) c.args.key (blocks_of c.as_slice.result.now) None (value_of c.in_ok-outcome.outcome) (subst IsShape c.shape-graph.ensures c.sound.ensures) whole
    (sym (ap value_of c.in-Zero.is)) (c.in_ok-outcome.ensures.given holds named a h) v
