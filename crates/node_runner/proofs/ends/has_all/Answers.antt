use Rattle.std.proofs.Common.{◌≡◌, ◌∙◌, sym, true}
use Rattle.std.proofs.lemmas.List.Elements.{All-more}
use Rattle.node_runner.proofs.ends.has_all.Goals as goal

pub loop-key-preserved : goal.loop-key-preserved
loop-key-preserved g c =
    All-more (λ k. g.Z.Sink.had c.args.sink.now k ≡ true) c.args.wanted.now c.loop-key.key-index 0 c.loop-key-test.true c.loop-key.invariant
    (sym c.has.ensures ∙ c.if-not-has.false)
