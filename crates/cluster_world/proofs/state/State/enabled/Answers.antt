use Rattle.std.proofs.Common.{not, ◌&&◌, sym, ap, ◌∙◌}
use Rattle.cluster_rules.specs.Enabled.{enabled}
use Rattle.cluster_world.specs.Worlds.{world}
use Rattle.cluster_world.proofs.state.State.enabled.Goals as goal

pub returns-in-Want : goal.returns-in-Want
unfolding enabled
returns-in-Want g c = (λ t. c.is_client.ensures t && c.are_named.ensures t) ∙ ap (enabled (world c.args.self.now)) (sym c.in-Want.is)

pub returns-in-Release : goal.returns-in-Release
unfolding enabled
returns-in-Release g c = (λ t. c.is_client-in-Release.ensures t && c.are_named-in-Release.ensures t) ∙ ap (enabled (world c.args.self.now)) (sym c.in-Release.is)

pub returns-in-Join : goal.returns-in-Join
unfolding enabled
returns-in-Join g c = (c.takes.ensures) ∙ ap (enabled (world c.args.self.now)) (sym c.in-Join.is)

pub returns-in-Lose : goal.returns-in-Lose
unfolding enabled
returns-in-Lose g c = (c.is_alive.ensures) ∙ ap (enabled (world c.args.self.now)) (sym c.in-Lose.is)

pub returns-in-SeeLoss : goal.returns-in-SeeLoss
unfolding enabled
returns-in-SeeLoss g c = (λ t. not (c.is_alive-in-SeeLoss.ensures t) && c.is_connected.ensures t) ∙ ap (enabled (world c.args.self.now)) (sym c.in-SeeLoss.is)

pub returns-in-Suspect : goal.returns-in-Suspect
unfolding enabled
returns-in-Suspect g c = (c.is_connected-in-Suspect.ensures) ∙ ap (enabled (world c.args.self.now)) (sym c.in-Suspect.is)

pub returns-in-DeliverDown : goal.returns-in-DeliverDown
unfolding enabled
returns-in-DeliverDown g c = (λ t. c.is_alive-in-DeliverDown.ensures t && c.down_waits.ensures t) ∙ ap (enabled (world c.args.self.now)) (sym c.in-DeliverDown.is)

pub returns-in-DeliverUp : goal.returns-in-DeliverUp
unfolding enabled
returns-in-DeliverUp g c = (c.up_waits.ensures) ∙ ap (enabled (world c.args.self.now)) (sym c.in-DeliverUp.is)

pub returns-in-DeliverToClient : goal.returns-in-DeliverToClient
unfolding enabled
returns-in-DeliverToClient g c = (c.news_waits.ensures) ∙ ap (enabled (world c.args.self.now)) (sym c.in-DeliverToClient.is)

pub returns-in-DeliverFromClient : goal.returns-in-DeliverFromClient
unfolding enabled
returns-in-DeliverFromClient g c = (c.want_waits.ensures) ∙ ap (enabled (world c.args.self.now)) (sym c.in-DeliverFromClient.is)

pub returns-in-Start : goal.returns-in-Start
unfolding enabled
returns-in-Start g c = (c.may_start.ensures) ∙ ap (enabled (world c.args.self.now)) (sym c.in-Start.is)

pub returns-in-Finish : goal.returns-in-Finish
unfolding enabled
returns-in-Finish g c = (c.may_finish.ensures) ∙ ap (enabled (world c.args.self.now)) (sym c.in-Finish.is)

pub returns-in-SendGather : goal.returns-in-SendGather
unfolding enabled
returns-in-SendGather g c = (c.may_ask.ensures) ∙ ap (enabled (world c.args.self.now)) (sym c.in-SendGather.is)

pub returns-in-ServeGather : goal.returns-in-ServeGather
unfolding enabled
returns-in-ServeGather g c = (λ t. c.is_alive-in-ServeGather.ensures t && c.is_requested.ensures t) ∙ ap (enabled (world c.args.self.now)) (sym c.in-ServeGather.is)

pub returns-in-ArriveGather : goal.returns-in-ArriveGather
unfolding enabled
returns-in-ArriveGather g c = (λ t. c.is_asker.ensures t && c.is_answered.ensures t) ∙ ap (enabled (world c.args.self.now)) (sym c.in-ArriveGather.is)

pub returns-in-FailGather : goal.returns-in-FailGather
unfolding enabled
returns-in-FailGather g c = (c.may_fail.ensures) ∙ ap (enabled (world c.args.self.now)) (sym c.in-FailGather.is)

pub returns-in-Balance : goal.returns-in-Balance
unfolding enabled
returns-in-Balance g c = (c.takes-in-Balance.ensures) ∙ ap (enabled (world c.args.self.now)) (sym c.in-Balance.is)

pub returns-in-Evict : goal.returns-in-Evict
unfolding enabled
returns-in-Evict g c = (c.takes-in-Evict.ensures) ∙ ap (enabled (world c.args.self.now)) (sym c.in-Evict.is)

pub returns-in-Replicate : goal.returns-in-Replicate
unfolding enabled
returns-in-Replicate g c = (c.takes-in-Replicate.ensures) ∙ ap (enabled (world c.args.self.now)) (sym c.in-Replicate.is)

pub returns-in-Spill : goal.returns-in-Spill
unfolding enabled
returns-in-Spill g c = (c.may_spill.ensures) ∙ ap (enabled (world c.args.self.now)) (sym c.in-Spill.is)

pub returns-in-LoseSpilled : goal.returns-in-LoseSpilled
unfolding enabled
returns-in-LoseSpilled g c = (λ t. c.is_alive-in-LoseSpilled.ensures t && c.is_spilled.ensures t) ∙ ap (enabled (world c.args.self.now)) (sym c.in-LoseSpilled.is)
