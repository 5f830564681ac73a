use Rattle.std.proofs.Common.{◌≡◌, refl, subst}
use Rattle.std.specs.Prelude.{IsTrue}
use Rattle.cluster_msgs.specs.Jobs.{value_of, blocks_of}
use Rattle.cluster_msgs.specs.Shape.{IsShape}
use Rattle.node_runner.specs.Naming.{run_facts}
use Rattle.node_runner.proofs.Feeds.{tells_named, if_ok}
use Rattle.node_runner.proofs.TaskLaw.{inputs_fit, outcome_value, outcome_zero}
use Rattle.node_runner.proofs.tasks.RunningOperatesBlockRunLabelFed.operate.Goals as goal

pub run-requires-clause-inputs : goal.run-requires-clause-inputs
run-requires-clause-inputs g c =
    let j = g.J.JobSpec in
    let k = g.K.RunName in
    let s = c.args.self.now in
    inputs_fit j.graph j.operation j.key_dims j.block_dims k.told k.allowed k.job s.job.now c.args.key
    ((run_facts j.graph j.operation j.key_dims j.block_dims k.told k.allowed k.job).deps c.args.key) c.args.inputs.now s.named refl c.requires

pub returns-clause-value : goal.returns-clause-value
returns-clause-value g c =
    let j = g.J.JobSpec in
    let k = g.K.RunName in
    let s = c.args.self.now in
    let made = j.operation s.job.now c.args.key (blocks_of c.args.inputs.now) in
    outcome_value j.graph j.operation j.key_dims j.block_dims k.told k.allowed k.job s.job.now c.args.key
    ((run_facts j.graph j.operation j.key_dims j.block_dims k.told k.allowed k.job).deps c.args.key) c.args.inputs.now s.named refl c.requires
    (subst IsShape c.shape-graph.ensures c.sound.ensures) c.run.result
    (if_ok (λ o. j.feed_tells s.job.now c.feed.inside.feed → value_of o ≡ made) (λ o. IsTrue k.told → value_of o ≡ made)
    (λ o h t. h (tells_named j.feed_fits j.feed_tells k.told k.job s.job.now s.named c.feed.inside.feed c.feed.invariant t)) c.run.result c.run.ensures.value)
    c.run.ensures.dims

pub returns-clause-zero : goal.returns-clause-zero
returns-clause-zero g c =
    let j = g.J.JobSpec in
    let k = g.K.RunName in
    let s = c.args.self.now in
    let made = j.operation s.job.now c.args.key (blocks_of c.args.inputs.now) in
    outcome_zero j.graph j.operation j.key_dims j.block_dims k.told k.allowed k.job s.job.now c.args.key
    ((run_facts j.graph j.operation j.key_dims j.block_dims k.told k.allowed k.job).deps c.args.key) c.args.inputs.now s.named refl c.requires
    (subst IsShape c.shape-graph.ensures c.sound.ensures) c.run.result
    (if_ok (λ o. j.feed_tells s.job.now c.feed.inside.feed → value_of o ≡ made) (λ o. IsTrue k.told → value_of o ≡ made)
    (λ o h t. h (tells_named j.feed_fits j.feed_tells k.told k.job s.job.now s.named c.feed.inside.feed c.feed.invariant t)) c.run.result c.run.ensures.value)
