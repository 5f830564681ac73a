use Rattle.std.proofs.Common.{◌≡◌, true, sym, subst}
use Rattle.cluster_world.specs.Worlds.{world}
use Rattle.std.proofs.Common.{OnOk}
use Rattle.cluster_rules.specs.Enabled.{enabled}
use Rattle.cluster_world.specs.Outcomes.{IsMoved, IsUnended}
use Rattle.cluster_world.proofs.state.State.act.Goals as goal

pub want-requires : goal.want-requires
want-requires g c =
    record { joint = c.requires.joint; room = c.requires.room; possible = subst (λ e. enabled (world c.args.self.now) e ≡ true) c.in-Want.is c.requires.possible }

pub returns-in-Want : goal.returns-in-Want
returns-in-Want g c =
    record { moved = subst (λ e. OnOk c.want.result (IsMoved c.args.self.now c.want.new.self e)) (sym c.in-Want.is) c.want.ensures.moved; kept = c.want.ensures.kept }

pub release-requires : goal.release-requires
release-requires g c =
    record { joint = c.requires.joint; room = c.requires.room; possible = subst (λ e. enabled (world c.args.self.now) e ≡ true) c.in-Release.is c.requires.possible }

pub returns-in-Release : goal.returns-in-Release
returns-in-Release g c =
    record { moved = subst (λ e. OnOk c.release.result (IsMoved c.args.self.now c.release.new.self e)) (sym c.in-Release.is) c.release.ensures.moved; kept = c.release.ensures.kept }

pub join-requires : goal.join-requires
join-requires g c =
    record { joint = c.requires.joint; room = c.requires.room; possible = subst (λ e. enabled (world c.args.self.now) e ≡ true) c.in-Join.is c.requires.possible }

pub returns-in-Join : goal.returns-in-Join
returns-in-Join g c =
    record { moved = subst (λ e. OnOk c.join.result (IsMoved c.args.self.now c.join.new.self e)) (sym c.in-Join.is) c.join.ensures.moved; kept = c.join.ensures.kept }

pub see_loss-requires : goal.see_loss-requires
see_loss-requires g c =
    record { joint = c.requires.joint; room = c.requires.room; possible = subst (λ e. enabled (world c.args.self.now) e ≡ true) c.in-SeeLoss.is c.requires.possible }

pub returns-in-SeeLoss : goal.returns-in-SeeLoss
returns-in-SeeLoss g c =
    record { moved = subst (λ e. OnOk c.see_loss.result (IsMoved c.args.self.now c.see_loss.new.self e)) (sym c.in-SeeLoss.is) c.see_loss.ensures.moved; kept = c.see_loss.ensures.kept }

pub suspect-requires : goal.suspect-requires
suspect-requires g c =
    record { joint = c.requires.joint; room = c.requires.room; possible = subst (λ e. enabled (world c.args.self.now) e ≡ true) c.in-Suspect.is c.requires.possible }

pub returns-in-Suspect : goal.returns-in-Suspect
returns-in-Suspect g c =
    record { moved = subst (λ e. OnOk c.suspect.result (IsMoved c.args.self.now c.suspect.new.self e)) (sym c.in-Suspect.is) c.suspect.ensures.moved; kept = c.suspect.ensures.kept }

pub deliver_down-requires : goal.deliver_down-requires
deliver_down-requires g c =
    record { joint = c.requires.joint; room = c.requires.room; possible = subst (λ e. enabled (world c.args.self.now) e ≡ true) c.in-DeliverDown.is c.requires.possible }

pub returns-in-DeliverDown : goal.returns-in-DeliverDown
returns-in-DeliverDown g c =
    record { moved = subst (λ e. OnOk c.deliver_down.result (IsMoved c.args.self.now c.deliver_down.new.self e)) (sym c.in-DeliverDown.is) c.deliver_down.ensures.moved; kept = c.deliver_down.ensures.kept }

pub deliver_up-requires : goal.deliver_up-requires
deliver_up-requires g c =
    record { joint = c.requires.joint; room = c.requires.room; possible = subst (λ e. enabled (world c.args.self.now) e ≡ true) c.in-DeliverUp.is c.requires.possible }

pub returns-in-DeliverUp : goal.returns-in-DeliverUp
returns-in-DeliverUp g c =
    record { moved = subst (λ e. OnOk c.deliver_up.result (IsMoved c.args.self.now c.deliver_up.new.self e)) (sym c.in-DeliverUp.is) c.deliver_up.ensures.moved; kept = c.deliver_up.ensures.kept }

pub deliver_to_client-requires : goal.deliver_to_client-requires
deliver_to_client-requires g c =
    record { joint = c.requires.joint; room = c.requires.room; possible = subst (λ e. enabled (world c.args.self.now) e ≡ true) c.in-DeliverToClient.is c.requires.possible }

pub returns-in-DeliverToClient : goal.returns-in-DeliverToClient
returns-in-DeliverToClient g c =
    record { moved = subst (λ e. OnOk c.deliver_to_client.result (IsMoved c.args.self.now c.deliver_to_client.new.self e)) (sym c.in-DeliverToClient.is) c.deliver_to_client.ensures.moved; kept = c.deliver_to_client.ensures.kept }

pub deliver_from_client-requires : goal.deliver_from_client-requires
deliver_from_client-requires g c =
    record { joint = c.requires.joint; room = c.requires.room; possible = subst (λ e. enabled (world c.args.self.now) e ≡ true) c.in-DeliverFromClient.is c.requires.possible }

pub returns-in-DeliverFromClient : goal.returns-in-DeliverFromClient
returns-in-DeliverFromClient g c =
    record { moved = subst (λ e. OnOk c.deliver_from_client.result (IsMoved c.args.self.now c.deliver_from_client.new.self e)) (sym c.in-DeliverFromClient.is) c.deliver_from_client.ensures.moved; kept = c.deliver_from_client.ensures.kept }

pub start-requires : goal.start-requires
start-requires g c =
    record { joint = c.requires.joint; room = c.requires.room; possible = subst (λ e. enabled (world c.args.self.now) e ≡ true) c.in-Start.is c.requires.possible }

pub returns-in-Start : goal.returns-in-Start
returns-in-Start g c =
    record { moved = subst (λ e. OnOk c.start.result (IsMoved c.args.self.now c.start.new.self e)) (sym c.in-Start.is) c.start.ensures.moved; kept = c.start.ensures.kept }

pub send_gather-requires : goal.send_gather-requires
send_gather-requires g c =
    record { joint = c.requires.joint; room = c.requires.room; possible = subst (λ e. enabled (world c.args.self.now) e ≡ true) c.in-SendGather.is c.requires.possible }

pub returns-in-SendGather : goal.returns-in-SendGather
returns-in-SendGather g c =
    record { moved = subst (λ e. OnOk c.send_gather.result (IsMoved c.args.self.now c.send_gather.new.self e)) (sym c.in-SendGather.is) c.send_gather.ensures.moved; kept = c.send_gather.ensures.kept }

pub serve-requires : goal.serve-requires
serve-requires g c =
    record { joint = c.requires.joint; possible = subst (λ e. enabled (world c.args.self.now) e ≡ true) c.in-ServeGather.is c.requires.possible }

pub returns-in-ServeGather : goal.returns-in-ServeGather
returns-in-ServeGather g c =
    record { moved = subst (λ e. OnOk c.serve.result (IsMoved c.args.self.now c.serve.new.self e)) (sym c.in-ServeGather.is) c.serve.ensures.moved; kept = c.serve.ensures.kept }

pub arrive-requires : goal.arrive-requires
arrive-requires g c =
    record { joint = c.requires.joint; room = c.requires.room; possible = subst (λ e. enabled (world c.args.self.now) e ≡ true) c.in-ArriveGather.is c.requires.possible; carried = c.requires.carried }

pub returns-in-ArriveGather : goal.returns-in-ArriveGather
returns-in-ArriveGather g c =
    record { moved = subst (λ e. OnOk c.arrive.result (IsMoved c.args.self.now c.arrive.new.self e)) (sym c.in-ArriveGather.is) c.arrive.ensures.moved; kept = c.arrive.ensures.kept }

pub fail_gather-requires : goal.fail_gather-requires
fail_gather-requires g c =
    record { joint = c.requires.joint; room = c.requires.room; possible = subst (λ e. enabled (world c.args.self.now) e ≡ true) c.in-FailGather.is c.requires.possible }

pub returns-in-FailGather : goal.returns-in-FailGather
returns-in-FailGather g c =
    record { moved = subst (λ e. OnOk c.fail_gather.result (IsMoved c.args.self.now c.fail_gather.new.self e)) (sym c.in-FailGather.is) c.fail_gather.ensures.moved; kept = c.fail_gather.ensures.kept }

pub balance-requires : goal.balance-requires
balance-requires g c =
    record { joint = c.requires.joint; room = c.requires.room; possible = subst (λ e. enabled (world c.args.self.now) e ≡ true) c.in-Balance.is c.requires.possible }

pub returns-in-Balance : goal.returns-in-Balance
returns-in-Balance g c =
    record { moved = subst (λ e. OnOk c.balance.result (IsMoved c.args.self.now c.balance.new.self e)) (sym c.in-Balance.is) c.balance.ensures.moved; kept = c.balance.ensures.kept }

pub evict-requires : goal.evict-requires
evict-requires g c =
    record { joint = c.requires.joint; room = c.requires.room; possible = subst (λ e. enabled (world c.args.self.now) e ≡ true) c.in-Evict.is c.requires.possible }

pub returns-in-Evict : goal.returns-in-Evict
returns-in-Evict g c =
    record { moved = subst (λ e. OnOk c.evict.result (IsMoved c.args.self.now c.evict.new.self e)) (sym c.in-Evict.is) c.evict.ensures.moved; kept = c.evict.ensures.kept }

pub replicate-requires : goal.replicate-requires
replicate-requires g c =
    record { joint = c.requires.joint; room = c.requires.room; possible = subst (λ e. enabled (world c.args.self.now) e ≡ true) c.in-Replicate.is c.requires.possible }

pub returns-in-Replicate : goal.returns-in-Replicate
returns-in-Replicate g c =
    record { moved = subst (λ e. OnOk c.replicate.result (IsMoved c.args.self.now c.replicate.new.self e)) (sym c.in-Replicate.is) c.replicate.ensures.moved; kept = c.replicate.ensures.kept }

pub lose_spilled-requires : goal.lose_spilled-requires
lose_spilled-requires g c =
    record { joint = c.requires.joint; room = c.requires.room; possible = subst (λ e. enabled (world c.args.self.now) e ≡ true) c.in-LoseSpilled.is c.requires.possible }

pub returns-in-LoseSpilled : goal.returns-in-LoseSpilled
returns-in-LoseSpilled g c =
    record { moved = subst (λ e. OnOk c.lose_spilled.result (IsMoved c.args.self.now c.lose_spilled.new.self e)) (sym c.in-LoseSpilled.is) c.lose_spilled.ensures.moved; kept = c.lose_spilled.ensures.kept }

pub lose-requires : goal.lose-requires
lose-requires g c =
    record { joint = c.requires.joint; possible = subst (λ e. enabled (world c.args.self.now) e ≡ true) c.in-Lose.is c.requires.possible }

pub returns-in-Lose : goal.returns-in-Lose
returns-in-Lose g c =
    record { moved = subst (λ e. IsMoved c.args.self.now c.lose.new.self e) (sym c.in-Lose.is) c.lose.ensures.moved; kept = c.lose.ensures.kept }

pub spill-requires : goal.spill-requires
spill-requires g c =
    record { joint = c.requires.joint; possible = subst (λ e. enabled (world c.args.self.now) e ≡ true) c.in-Spill.is c.requires.possible }

pub returns-in-Spill : goal.returns-in-Spill
returns-in-Spill g c =
    record { moved = subst (λ e. IsMoved c.args.self.now c.spill.new.self e) (sym c.in-Spill.is) c.spill.ensures.moved; kept = c.spill.ensures.kept }

pub returns-in-Finish : goal.returns-in-Finish
returns-in-Finish g c = absurd (subst IsUnended c.in-Finish.is c.requires.unended)
