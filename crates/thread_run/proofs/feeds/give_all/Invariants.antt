use Rattle.thread_run.specs.Feeding.{TakesBack}
use Rattle.thread_run.proofs.feeds.give_all.Given as goal

abbrev pub invariant-loop-own : goal.invariant-loop-own
invariant-loop-own g l = TakesBack ⊥ (g.S.Site.view l.initial.site) (g.S.Site.view l.site)
