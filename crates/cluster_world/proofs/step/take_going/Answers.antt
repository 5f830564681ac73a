use Rattle.std.proofs.Common.{◌≡◌, ◌<◌, true, sym, ap, ◌∙◌, subst, arith}
use Rattle.cluster_msgs.specs.Shape.{IsShape}
use Rattle.cluster_rules.specs.Enabled.{enabled}
use Rattle.cluster_rules.specs.Sched.{Setting}
use Rattle.cluster_world.specs.Kept.{LengthsFit}
use Rattle.cluster_world.specs.Worlds.{world, setting, IsMade, IsTelling}
use Rattle.cluster_rules.specs.Runs.{event_limit}
use Rattle.cluster_world.proofs.Advancing.{whole_advanced, made_kept}
use Rattle.cluster_world.proofs.Stepwise.{step_refused, step_spent, step_taken, ends_for_a_cause, going_starved}
use Rattle.cluster_world.proofs.step.take_going.Goals as goal

pub returns-then-state-ge-EVENT_LIMIT : goal.returns-then-state-ge-EVENT_LIMIT
returns-then-state-ge-EVENT_LIMIT g c =
    let f = c.requires.world.few in let h = c.if-state-ge-EVENT_LIMIT.true in record { step = step_spent g.J.JobSpec.operation g.J.JobSpec.feed_tells g.J.JobSpec.fault_count c.args.e.now c.args.state.now c.requires.going (omega (arith, f, h)); world = c.requires.world }

pub enabled-requires : goal.enabled-requires
enabled-requires g c =
    (c.requires.world.whole (λ h. going_starved (sym c.requires.going ∙ h))).joint

pub returns-then-not-enabled : goal.returns-then-not-enabled
returns-then-not-enabled g c =
    let h = c.if-state-ge-EVENT_LIMIT.false in record { step = step_refused g.J.JobSpec.operation g.J.JobSpec.feed_tells g.J.JobSpec.fault_count c.args.e.now c.args.state.now (record { going = c.requires.going; room = omega (arith, h) }) (sym c.enabled.ensures ∙ c.if-not-enabled.true); world = c.requires.world }

pub advance-requires-clause-whole : goal.advance-requires-clause-whole
advance-requires-clause-whole g c = λ κs lives. c.requires.world.whole (λ h. going_starved (sym c.requires.going ∙ h))

pub advance-requires-clause-feed : goal.advance-requires-clause-feed
advance-requires-clause-feed g c = λ κs lives. c.requires.world.feed

pub advance-requires-clause-possible : goal.advance-requires-clause-possible
advance-requires-clause-possible g c = λ κs lives. sym c.enabled.ensures ∙ c.if-not-enabled.false

pub advance-requires-clause-room : goal.advance-requires-clause-room
advance-requires-clause-room g c = λ κs lives. let h = c.if-state-ge-EVENT_LIMIT.false in omega (arith, h)

pub returns : goal.returns
returns g c =
    let h = c.if-state-ge-EVENT_LIMIT.false in
    let room : c.args.state.now.events < event_limit = omega (arith, h) in
    let possible : enabled (world c.args.state.now) c.args.e.now ≡ true = sym c.enabled.ensures ∙ c.if-not-enabled.false in
    let low : IsShape (setting c.args.state.now).shape = subst IsShape (sym c.requires.world.shape) c.requires.world.low in
    let whole = (c.requires.world.whole (λ h. going_starved (sym c.requires.going ∙ h))) in
    let k = c.advance.ensures in
    let made : g.J.JobSpec.feed_tells c.args.state.now.job c.args.state.now.feed → IsMade g.J.JobSpec.operation c.args.state.now = (λ t. c.requires.world.made (record { feed = t; there = λ h. going_starved (sym c.requires.going ∙ h) })) in
    record {
      step = step_taken g.J.JobSpec.operation g.J.JobSpec.feed_tells g.J.JobSpec.fault_count (LengthsFit g.J.JobSpec.key_dims g.J.JobSpec.block_dims) c.args.e.now c.advance.result c.args.state.now c.advance.new.state (record { going = c.requires.going; room = room }) possible low
          (ends_for_a_cause c.args.e.now c.args.state.now whole.joint.orderly c.sound.ensures possible)
          k.advances made k.job k.setting k.tells k.faults;
      world = record {
        feed = subst (λ j. g.J.JobSpec.feed_fits j c.advance.new.state.feed) (sym k.job) k.fits;
        few = k.few;
        low = subst (λ j. IsShape (g.J.JobSpec.graph j)) (sym k.job) c.requires.world.low;
        shape = ap (λ (x : Setting). x.shape) k.setting ∙ c.requires.world.shape ∙ ap g.J.JobSpec.graph (sym k.job);
        clients = k.clients ∙ c.requires.world.clients ∙ ap (λ (x : Setting). x.clients) (sym k.setting);
        whole = λ n. whole_advanced g.J.JobSpec.graph g.J.JobSpec.key_dims g.J.JobSpec.block_dims (g.J.JobSpec.feed_tells c.args.state.now.job c.args.state.now.feed) (g.J.JobSpec.operation c.args.state.now.job) c.args.e.now c.args.state.now c.advance.new.state c.advance.result k.advances whole possible k.job k.clients k.setting n;
        made = made_kept (LengthsFit g.J.JobSpec.key_dims g.J.JobSpec.block_dims c.args.state.now.job) (g.J.JobSpec.feed_tells c.args.state.now.job c.args.state.now.feed) g.J.JobSpec.operation c.args.e.now c.args.state.now c.advance.new.state c.advance.result k.advances low possible room k.job k.setting (IsTelling g.J.JobSpec.feed_tells c.advance.new.state)
            (λ t. k.tells.0 (subst (λ j. g.J.JobSpec.feed_tells j c.advance.new.state.feed) k.job t.feed)) (λ t. t.there) made;
      };
    }
