use Rattle.std.proofs.Common.{ap, refl, false}
use Rattle.node_runner.proofs.TurnLemmas.{went_from}
use Rattle.node_runner.proofs.serving.RunningWorksWorkerNodeBlockRunLabelFedRunLabel.lose.Goals as goal

pub returns-clause-went : goal.returns-clause-went
returns-clause-went g c = went_from (λ s. s.history.book.entries) (λ s. s.history.book.kept) (λ s. false) _ c.args.state.now c.end.new.self c.act.new.state
    (ap (λ h. h.book.entries) c.end.ensures.history) (ap (λ h. h.book.kept) c.end.ensures.history) refl c.act.ensures.went
