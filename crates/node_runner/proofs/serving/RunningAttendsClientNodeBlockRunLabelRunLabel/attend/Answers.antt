use Rattle.std.proofs.Common.{ap, refl, false}
use Rattle.node_runner.proofs.TurnLemmas.{went_from}
use Rattle.node_runner.proofs.serving.RunningAttendsClientNodeBlockRunLabelRunLabel.attend.Goals as goal

pub returns-clause-went : goal.returns-clause-went
returns-clause-went g c = went_from (λ s. s.book.entries) (λ s. s.book.kept) (λ s. false) _ c.args.state.now c.look-taken.new.client c.act-moved.new.state
    (ap (λ b. b.entries) c.look-taken.ensures) (ap (λ b. b.kept) c.look-taken.ensures) refl c.act-moved.ensures.went
