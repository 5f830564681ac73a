use Rattle.std.proofs.Common.{◌<◌}
use Rattle.std.specs.Prelude.{Contains}
use Rattle.thread_run.specs.Feeding.{TakesBack}
use Rattle.thread_run.proofs.feeds.give_feeds.Given as goal

abbrev pub invariant-loop-fed : goal.invariant-loop-fed
invariant-loop-fed g l = TakesBack ((f : _) × Contains l.yielded f × (0 < g.S.In.Store.count f.store)) (g.S.Site.view l.initial.site) (g.S.Site.view l.site)
