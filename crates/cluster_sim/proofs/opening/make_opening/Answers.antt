use Rattle.std.proofs.Common.{◌≡◌, sym, subst, true}
use Rattle.small_facts.proofs.Results.{on_ok_both}
use Rattle.cluster_msgs.specs.declared.events.Event.TheVariants.{Want}
use Rattle.cluster_rules.specs.Enabled.{enabled}
use Rattle.cluster_world.specs.Worlds.{world}
use Rattle.cluster_sim.proofs.ActLemmas.{stays_both, counts_after}
use Rattle.cluster_sim.proofs.OpeningRecords.{want_may, want_on}
use Rattle.cluster_sim.proofs.opening.make_opening.Goals as goal

pub act-requires-clause-going : goal.act-requires-clause-going
act-requires-clause-going g c = λ κs lives. c.in_ok-join_all.ensures.opened.going

pub act-requires-clause-enabled : goal.act-requires-clause-enabled
act-requires-clause-enabled g c = λ κs lives.
    subst (λ ks. enabled (world c.join_all.new.world) (Want 1 ks) ≡ true) (sym c.in_ok-keys.ensures) (want_may _ _ c.args.world.now c.join_all.new.world c.args.wanted.now c.requires.opening c.join_all.ensures.stays c.requires.wanted)

pub returns-clause-opened : goal.returns-clause-opened
returns-clause-opened g c =
    on_ok_both c.act.result
    (λ done counted. want_on _ _ c.args.plan.now.workers c.args.plan.now.threads c.args.wanted.now c.in_ok-keys.keys c.args.world.now c.join_all.new.world c.act.new.world c.join_all.new.tally c.act.new.tally
    c.in_ok-join_all.ensures.opened c.requires.plan.workers c.in_ok-keys.ensures
    (subst (λ ks. enabled (world c.join_all.new.world) (Want 1 ks) ≡ true) (sym c.in_ok-keys.ensures) (want_may _ _ c.args.world.now c.join_all.new.world c.args.wanted.now c.requires.opening c.join_all.ensures.stays c.requires.wanted)) done c.join_all.ensures.stays c.act.ensures.stays counted)
    c.act.ensures.done c.act.ensures.counted

pub returns-clause-stays : goal.returns-clause-stays
returns-clause-stays g c = stays_both _ _ _ _ c.join_all.ensures.stays c.act.ensures.stays

pub returns-clause-faults : goal.returns-clause-faults
returns-clause-faults g c = counts_after c.act.result _ _ _ c.in_ok-join_all.ensures.faults c.act.ensures.faults
