use Rattle.worker_core.proofs.CoreLemmas.{unasked_below}
use Rattle.worker_facts.specs.Stored.{facts_of}
use Rattle.worker_core.proofs.step.step.Goals as goal

pub ask_holders-requires : goal.ask_holders-requires
ask_holders-requires c = rw (c.as_slice.ensures, c.in_ok-unasked.ensures) (unasked_below (facts_of c.own_row.new.table))
