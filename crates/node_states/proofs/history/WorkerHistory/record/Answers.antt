use Rattle.std.proofs.Common.{ap, ◌∙◌}
use Rattle.worker_core.specs.Core.{facts}
use Rattle.node_states.specs.Spills.{is_marked, with_key}
use Rattle.node_states.proofs.Ends.{number_kept, still_alive_after}
use Rattle.node_states.proofs.SpillLemmas.{spills_by, comes_among}
use Rattle.node_states.proofs.history.WorkerHistory.record.Goals as goal

pub invariant_of-self-2 : goal.invariant_of-self-2
invariant_of-self-2 g c = record {
  own = number_kept _ _ (λ s. s.id) (λ s e t b. b.0) c.args.self.now.book c.record.new.self c.record.ensures.recorded c.args.self.now.id c.args.self.now.own;
  alive = still_alive_after c.record.result c.args.self.now.id c.args.self.now.ended c.args.self.now.book c.record.new.self c.args.event c.args.message c.requires.live c.args.self.now.alive c.requires.going c.record.ensures.entered c.record.ensures.err;
}

pub returns-clause-comes : goal.returns-clause-comes
returns-clause-comes g c = comes_among (λ s. facts s.core) _ (λ s e t b. b.1) c.args.said c.args.self.now.book.core c.record.new.self.core c.in_ok-record.ensures.step

pub returns-clause-spilled : goal.returns-clause-spilled
returns-clause-spilled g c =
    let is = c.in-Some.ensures in
    spills_by (facts c.args.self.now.book.core.core) c.args.self.now.recorded c.forget_coming.new.marks c.args.said c.args.event (facts c.record.new.self.core.core) c.mark.new.self
    (λ k m. c.forget_coming.ensures.kept k (rw is m))
    (λ k m i. c.forget_coming.ensures.gone k (rw is m) i)
    (λ k. c.mark.ensures.marks k ∙ ap (λ o. with_key (is_marked c.forget_coming.new.marks) o k) c.spilled_by-aside.ensures)
    (comes_among (λ s. facts s.core) _ (λ s e t b. b.1) c.args.said c.args.self.now.book.core c.record.new.self.core c.in_ok-record.ensures.step)
