use Rattle.std.proofs.Common.{◌≡◌, ◌∙◌, sym, ap, arith, below_more, is_some}
use Rattle.small_facts.proofs.Options.{none_from_is_some}
use Rattle.cluster_msgs.specs.Shape.{key_count}
use Rattle.cluster_rules.specs.Sched.{Setting}
use Rattle.cluster_world.specs.Worlds.{world}
use Rattle.cluster_sim.proofs.ActLemmas.{setting-world}
use Rattle.cluster_sim.proofs.EndLemmas.{least_none, least_some}
use Rattle.cluster_sim.proofs.ended.least_failure.Goals as goal

pub failure_of-failure-requires : goal.failure_of-failure-requires
failure_of-failure-requires g c = let b = c.type_bounds in (b.send-J, (b.send-J-Block, (b.send-J-Feed, (b.sync-J, (b.sync-J-Block, (b.sync-J-Feed, c.requires.fresh c.loop-key.key))))))

pub returns-then-is_some : goal.returns-then-is_some
returns-then-is_some g c =
    let d = (world c.args.world.now).clients 1 in
    let n : c.keys-count.result ≡ key_count d.shape = c.keys-count.ensures ∙ ap key_count (c.shape.ensures.setting ∙ sym (ap (λ (s : Setting). s.shape) (setting-world c.args.world.now)) ∙ sym c.requires.shape) in
    c.failure_of-failure.ensures
    ∙ least_some d c.keys-count.result c.loop-key.key n c.loop-key-test.true c.loop-key.invariant (sym (ap is_some c.failure_of-failure.ensures) ∙ sym c.is_some.ensures ∙ c.if-is_some.true)

pub loop-key-preserved : goal.loop-key-preserved
loop-key-preserved g c = below_more _ _ c.loop-key.invariant (sym c.failure_of-failure.ensures ∙ none_from_is_some c.failure_of-failure.result (sym c.is_some.ensures ∙ c.if-is_some.false))

pub returns : goal.returns
returns g c =
    let d = (world c.args.world.now).clients 1 in
    let n : c.keys-count.result ≡ key_count d.shape = c.keys-count.ensures ∙ ap key_count (c.shape.ensures.setting ∙ sym (ap (λ (s : Setting). s.shape) (setting-world c.args.world.now)) ∙ sym c.requires.shape) in
    least_none d c.keys-count.result n (λ k h. c.loop-key.invariant k (omega (arith, h, c.loop-key-test.false)))
