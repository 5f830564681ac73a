use Rattle.std.proofs.Common.{◌≡◌, true, sym, subst}
use Rattle.cluster_world.specs.Worlds.{world}
use Rattle.std.proofs.Common.{OnOk}
use Rattle.cluster_rules.specs.Enabled.{enabled}
use Rattle.cluster_world.specs.Kept.{LengthsFit}
use Rattle.cluster_world.specs.Outcomes.{IsPerformed}
use Rattle.cluster_world.proofs.Finishing as finishing
use Rattle.cluster_world.proofs.events.perform.Goals as goal

pub finish-requires-clause-whole : goal.finish-requires-clause-whole
finish-requires-clause-whole g c = λ κs lives. c.requires.whole

pub finish-requires-clause-feed : goal.finish-requires-clause-feed
finish-requires-clause-feed g c = λ κs lives. c.requires.feed

pub finish-requires-clause-possible : goal.finish-requires-clause-possible
finish-requires-clause-possible g c = λ κs lives. subst (λ e. enabled (world c.args.state.now) e ≡ true) c.in-Finish.is c.requires.possible

pub finish-requires-clause-room : goal.finish-requires-clause-room
finish-requires-clause-room g c = λ κs lives. c.requires.room

pub returns-in-Finish : goal.returns-in-Finish
returns-in-Finish g c =
    record { performed = subst (λ e. OnOk c.finish.result (IsPerformed (LengthsFit g.J.JobSpec.key_dims g.J.JobSpec.block_dims c.args.state.now.job) (g.J.JobSpec.feed_tells c.args.state.now.job c.args.state.now.feed) (g.J.JobSpec.operation c.args.state.now.job) c.args.state.now c.finish.new.state e)) (sym c.in-Finish.is) c.finish.ensures.performed; same = c.finish.ensures.same; fits = c.finish.ensures.fits; tells = c.finish.ensures.tells; faults = c.finish.ensures.faults; left = c.finish.ensures.left }

pub carry-requires-clause-whole : goal.carry-requires-clause-whole
carry-requires-clause-whole g c = λ κs lives. c.requires.whole

pub carry-requires-clause-feed : goal.carry-requires-clause-feed
carry-requires-clause-feed g c = λ κs lives. c.requires.feed

pub carry-requires-clause-possible : goal.carry-requires-clause-possible
carry-requires-clause-possible g c = λ κs lives. c.requires.possible

pub carry-requires-clause-room : goal.carry-requires-clause-room
carry-requires-clause-room g c = λ κs lives. c.requires.room

pub carry-requires-clause-unended : goal.carry-requires-clause-unended
carry-requires-clause-unended g c = λ κs lives. finishing.unended c.args.e.now c.in_default.not-Finish

pub returns-in_default : goal.returns-in_default
returns-in_default g c = c.carry.ensures
