use Rattle.std.proofs.Common.{◌≡◌, ◌<◌, ◌^◌, ◌∙◌, ap, sym, arith}
use Rattle.cluster_msgs.specs.Shape.{key_count}
use Rattle.cluster_msgs.specs.declared.events.Event.TheVariants.{Balance}
use Rattle.cluster_rules.specs.Sched.{Setting}
use Rattle.cluster_rules.specs.World.{shape_of}
use Rattle.cluster_rules.specs.Enabled.{enabled}
use Rattle.cluster_rules.specs.Draw.{is_time}
use Rattle.cluster_world.specs.Worlds.{world}
use Rattle.cluster_sim.proofs.ActLemmas.{setting-world, not_starved}
use Rattle.cluster_sim.proofs.ChooseLemmas.{due_then, due_else}
use Rattle.cluster_sim.proofs.choose.is_balancing.Goals as goal

pub returns-then-is_due-clause-now : goal.returns-then-is_due-clause-now
returns-then-is_due-clause-now g c p b =
    let w = world c.args.world.now in
    let s = c.args.standing.now in
    let k : c.keys-keys.result ≡ key_count (shape_of w) = c.keys-keys.ensures ∙ ap key_count (c.shape.ensures.setting ∙ sym (ap (λ (x : Setting). x.shape) (setting-world c.args.world.now))) in
    due_then c.is_due.result (is_time 8 s.turns s.balances s.balanced_at (key_count (shape_of w))) (enabled w Balance) c.enabled.result (c.is_due.ensures.due ∙ ap (λ n. is_time 8 s.turns s.balances s.balanced_at n) k) c.if-is_due.true (c.enabled.ensures.enabled (not_starved _ c.requires.going))

pub returns-then-is_due-clause-some : goal.returns-then-is_due-clause-some
returns-then-is_due-clause-some g c h =
    let w = world c.args.world.now in
    let k : c.keys-keys.result ≡ key_count (shape_of w) = c.keys-keys.ensures ∙ ap key_count (c.shape.ensures.setting ∙ sym (ap (λ (x : Setting). x.shape) (setting-world c.args.world.now))) in
    let f = c.is_due.ensures.few c.if-is_due.true in
    let u : c.keys-keys.result < 2 ^ 32 = omega arith in
    (omega (arith, f, k), omega (arith, u, k))

pub returns-else-is_due-clause-now : goal.returns-else-is_due-clause-now
returns-else-is_due-clause-now g c p b =
    let w = world c.args.world.now in
    let s = c.args.standing.now in
    let k : c.keys-keys.result ≡ key_count (shape_of w) = c.keys-keys.ensures ∙ ap key_count (c.shape.ensures.setting ∙ sym (ap (λ (x : Setting). x.shape) (setting-world c.args.world.now))) in
    due_else c.is_due.result (is_time 8 s.turns s.balances s.balanced_at (key_count (shape_of w))) (enabled w Balance) (c.is_due.ensures.due ∙ ap (λ n. is_time 8 s.turns s.balances s.balanced_at n) k) c.if-is_due.false
