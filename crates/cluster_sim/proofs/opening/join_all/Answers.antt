use Rattle.std.proofs.Common.{◌∙◌, refl, arith}
use Rattle.cluster_world.specs.Worlds.{world}
use Rattle.cluster_sim.proofs.ActLemmas.{stays_none, stays_both}
use Rattle.cluster_sim.proofs.OpeningLemmas.{may_join}
use Rattle.cluster_sim.proofs.OpeningRecords.{open_first, join_on}
use Rattle.cluster_sim.proofs.opening.join_all.Goals as goal

pub loop-number-init : goal.loop-number-init
loop-number-init g c = record { opened = open_first _ _ c.args.world.now c.args.tally.now c.requires.opening c.requires.tally; stays = stays_none _ _; faults = refl }

pub act-requires-clause-going : goal.act-requires-clause-going
act-requires-clause-going g c = λ κs lives. c.loop-number.invariant.opened.going

pub act-requires-clause-enabled : goal.act-requires-clause-enabled
act-requires-clause-enabled g c = λ κs lives.
    let l = c.loop-number.invariant.opened.opened.last in
    let m = c.requires.plan.workers in
    let t = c.loop-number-test.true in
    may_join (world c.loop-number.world) c.args.plan.now.threads c.requires.plan.threads (omega (arith, l, m, t))

pub loop-number-preserved : goal.loop-number-preserved
loop-number-preserved g c =
    let m = c.requires.plan.workers in
    let t = c.loop-number-test.true in
    let i = c.loop-number.invariant in
    record {
      opened = join_on _ _ c.loop-number._number c.args.plan.now.threads c.args.world.now c.loop-number.world c.act.new.world c.loop-number.tally c.act.new.tally i.opened (omega (arith, m, t)) (let l = i.opened.opened.last in may_join (world c.loop-number.world) c.args.plan.now.threads c.requires.plan.threads (omega (arith, l, m, t))) c.in_ok-act.ensures.done i.stays c.act.ensures.stays c.in_ok-act.ensures.counted;
      stays = stays_both _ _ _ _ i.stays c.act.ensures.stays;
      faults = c.in_ok-act.ensures.faults ∙ i.faults;
    }
