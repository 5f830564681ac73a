use Rattle.std.proofs.lemmas.List.Elements.{All-more}
use Rattle.gather_client.specs.CoreState.{client_facts}
use Rattle.node_runner.specs.Runs.{IsGot}
use Rattle.node_runner.proofs.ends.has_got.Goals as goal

pub loop-key-preserved : goal.loop-key-preserved
loop-key-preserved g c =
    let b = c.args.client.now.book in
    All-more (IsGot (client_facts b.core.core) b.entries b.cut) c.args.wanted.now c.loop-key.key-index 0 c.loop-key-test.true c.loop-key.invariant
    (c.is_got.ensures c.if-not-is_got.false)
