use mathlib.Core.Logic.{inl, inr}
use Rattle.std.proofs.Common.{◌≡◌, ◌<◌, ◌⊎◌, true, map, ⊎_elim}
use Rattle.std.specs.Prelude.{All, Contains, vec_len}
use Rattle.node_runner.specs.Naming.{run_facts}
use Rattle.node_runner.specs.Runs.{HasFeedFault}
use Rattle.node_runner.proofs.FeedFaults.{ended_more, ended_none, none_ok}
use Rattle.node_runner.proofs.run.run_cluster.Goals as goal

pub returns-in-Some-clause-ended : goal.returns-in-Some-clause-ended
returns-in-Some-clause-ended g c =
    let j = g.J.JobSpec in
    let k = g.K.RunName in
    let l = run_facts j.graph j.operation j.key_dims j.block_dims k.told k.allowed k.job in
    let ends = c.run_made.result.0 in
    ended_more l (j.graph c.args.job.now) c.args.plan.now c.args.wanted.now
    ((c.begin-rows.result.2 ≡ true) ⊎ ((f : _) × Contains ends.feeds.items f × (0 < j.fault_count f)))
    (HasFeedFault j.fault_count c.args.plan.now.threads (map (λ v. vec_len v) c.args.feeds.items) ends.feeds.items)
    ends.result ends.left.items ends.histories
    (λ failed. ⊎_elim (λ short. inl (c.begin-rows.ensures.short short)) (λ f. inr f) failed) c.run_made.ensures.ended

pub returns-in-None-clause-had : goal.returns-in-None-clause-had
returns-in-None-clause-had g c = none_ok (λ _. All (λ k. g.Z.Sink.had c.args.sink k ≡ true) c.args.wanted.now) c.close_rows.result.result _ c.close_rows.ensures.ended.memory

pub returns-in-None-clause-leads : goal.returns-in-None-clause-leads
returns-in-None-clause-leads g c = g.met.Z.Sink.here c.args.sink

pub returns-in-None-clause-ended : goal.returns-in-None-clause-ended
returns-in-None-clause-ended g c =
    let j = g.J.JobSpec in
    let k = g.K.RunName in
    let l = run_facts j.graph j.operation j.key_dims j.block_dims k.told k.allowed k.job in
    let ends = c.close_rows.result in
    ended_none l (j.graph c.args.job.now) c.args.plan.now c.args.wanted.now
    (HasFeedFault j.fault_count c.args.plan.now.threads (map (λ v. vec_len v) c.args.feeds.items) ends.feeds.items)
    ends.result ends.left.items ends.histories c.close_rows.ensures.none c.close_rows.ensures.ended
