use Rattle.std.proofs.Common.{◌≡◌, ◌+◌, ◌∙◌, ap, sym, subst, not, drop, length, get_or, List, None, arith}
use Rattle.std.specs.Option.{option_map}
use Rattle.cluster_msgs.specs.declared.events.Item.{Item}
use Rattle.cluster_rules.specs.Draw.{is_blocked, scripted}
use Rattle.cluster_world.specs.Worlds.{world}
use Rattle.cluster_sim.specs.Scripts.{IsBefore}
use Rattle.cluster_sim.specs.declared.script.Step.{Step}
use Rattle.cluster_sim.proofs.ScriptLemmas.{same_item, script_waits, script_passes, script_comes, script_ends, step_mapped, step_before}
use Rattle.cluster_sim.proofs.script.next_item.Goals as goal

pub returns-then-does_something-clause-step : goal.returns-then-does_something-clause-step
returns-then-does_something-clause-step g c =
    let w = world c.args.world.now in
    let t = c.args.plan.now.threads in
    let xs = c.as_slice-script.result.now in
    subst (λ (ys : List Item). option_map (λ (s : Step). (s.event, drop s.passed ys)) c.step_of.result ≡ scripted t w (drop c.args.passed ys)) c.as_slice-script.ensures
    (step_mapped t xs (get_or c.as_slice-script.result.now c.loop-at.at _) (c.loop-at.at + 1) (is_blocked w (get_or c.as_slice-script.result.now c.loop-at.at _)) c.step_of.result c.step_of.ensures
    ∙ sym (c.loop-at.invariant ∙ script_comes t w xs c.loop-at.at (get_or c.as_slice-script.result.now c.loop-at.at _) c.loop-at-test.true (same_item _ c.loop-at.at _ c.loop-at-test.true) (sym c.is_reached.ensures ∙ c.if-is_reached.true) (c.does_something.ensures ∙ ap not c.if-does_something.true)))

pub returns-then-does_something-clause-passed : goal.returns-then-does_something-clause-passed
returns-then-does_something-clause-passed g c =
    let w = world c.args.world.now in
    subst (λ (ys : List Item). IsBefore c.args.passed c.step_of.result (length ys)) c.as_slice-script.ensures
    (step_before c.args.plan.now.threads (get_or c.as_slice-script.result.now c.loop-at.at _) c.args.passed c.loop-at.at (length c.as_slice-script.result.now) (is_blocked w (get_or c.as_slice-script.result.now c.loop-at.at _)) c.step_of.result c.step_of.ensures (omega arith) c.loop-at-test.true)

pub returns-else-is_reached-clause-step : goal.returns-else-is_reached-clause-step
returns-else-is_reached-clause-step g c =
    let w = world c.args.world.now in
    let t = c.args.plan.now.threads in
    let xs = c.as_slice-script.result.now in
    subst (λ (ys : List Item). option_map (λ (s : Step). (s.event, drop s.passed ys)) None ≡ scripted t w (drop c.args.passed ys)) c.as_slice-script.ensures
    (sym (c.loop-at.invariant ∙ script_waits t w xs c.loop-at.at (get_or c.as_slice-script.result.now c.loop-at.at _) c.loop-at-test.true (same_item _ c.loop-at.at _ c.loop-at-test.true) (sym c.is_reached.ensures ∙ c.if-is_reached.false)))

pub loop-at-preserved : goal.loop-at-preserved
loop-at-preserved g c =
    let w = world c.args.world.now in
    c.loop-at.invariant ∙ script_passes c.args.plan.now.threads w c.as_slice-script.result.now c.loop-at.at (get_or c.as_slice-script.result.now c.loop-at.at _) c.loop-at-test.true (same_item _ c.loop-at.at _ c.loop-at-test.true) (sym c.is_reached.ensures ∙ c.if-is_reached.true) (c.does_something.ensures ∙ ap not c.if-does_something.false)

pub returns-clause-step : goal.returns-clause-step
returns-clause-step g c =
    let w = world c.args.world.now in
    let t = c.args.plan.now.threads in
    let xs = c.as_slice-script.result.now in
    subst (λ (ys : List Item). option_map (λ (s : Step). (s.event, drop s.passed ys)) None ≡ scripted t w (drop c.args.passed ys)) c.as_slice-script.ensures
    (sym (c.loop-at.invariant ∙ script_ends t w xs c.loop-at.at c.loop-at-test.false))
