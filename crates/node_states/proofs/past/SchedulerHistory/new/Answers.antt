use Rattle.node_states.proofs.Starting.{starts}
use Rattle.node_states.proofs.past.SchedulerHistory.new.Goals as goal

pub invariant_of-result : goal.invariant_of-result
invariant_of-result g c = λ cut. starts c.in_ok-book.book c.args.core c.in_ok-book.gone.items c.in_ok-book.ensures.core c.in_ok-book.ensures.entries.0 c.requires.opening
