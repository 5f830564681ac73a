use Rattle.journal_audit.proofs.ListLemmas.{journals_are, lists_are, worlds_are}
use Rattle.journal_audit.proofs.laws.the_shape_tells.Goals as goal

pub returns : goal.returns
returns g c = record { legal = lists_are; worlds = worlds_are; journals = journals_are }
