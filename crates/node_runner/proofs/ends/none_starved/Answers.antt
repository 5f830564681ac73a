use Rattle.std.proofs.Common.{◌≢◌}
use Rattle.std.specs.Prelude.{Option, Some, None}
use Rattle.std.proofs.lemmas.List.Elements.{All-more}
use Rattle.node_states.specs.declared.why.Why.{Why}
use Rattle.node_states.specs.declared.why.Why.TheVariants as why
use Rattle.node_runner.proofs.ends.none_starved.Goals as goal

pub loop-cause-preserved : goal.loop-cause-preserved
loop-cause-preserved c =
    All-more (λ (o : Option Why). o ≢ Some why.Memory) c.args.left.now c.loop-cause.cause-index None c.loop-cause-test.true c.loop-cause.invariant
    (c.is_starved.ensures c.if-is_starved.false)
