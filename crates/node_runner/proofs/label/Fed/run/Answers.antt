use Rattle.std.specs.Prelude.{IsTrue}
use Rattle.cluster_msgs.specs.Jobs.{blocks_of, value_of}
use Rattle.std.proofs.Common.{◌≡◌}
use Rattle.node_runner.proofs.Feeds.{tells_named, if_ok}
use Rattle.node_runner.proofs.label.Fed.run.Goals as goal

pub returns-clause-value : goal.returns-clause-value
returns-clause-value g c =
    let job = c.args.job.now in
    let made = g.J.JobSpec.operation job c.args.key (blocks_of c.args.inputs.now) in
    if_ok (λ o. g.J.JobSpec.feed_tells job c.self.inside.feed → value_of o ≡ made) (λ o. IsTrue g.K.RunName.told → value_of o ≡ made)
    (λ o h t. h (tells_named g.J.JobSpec.feed_fits g.J.JobSpec.feed_tells g.K.RunName.told g.K.RunName.job job c.requires.named c.self.inside.feed c.self.invariant t))
    c.run.result c.run.ensures.value
