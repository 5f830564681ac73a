-- What holds of every list of events: copies that are named were drawn, and no fence is above what was sent.
use Rattle.std.proofs.Common.{List, [], ◌∷◌, Option, Some, None, sym, subst, arith}
use Rattle.cluster_msgs.specs.declared.cores.SchedEvent.{SchedEvent}
use Rattle.cluster_msgs.specs.declared.events.Event.{Event}
use Rattle.cluster_rules.specs.Sched.{Facts}
use Rattle.cluster_rules.specs.World.{Job, World, opening}
use Rattle.cluster_rules.specs.WorldStep.{world_step}
use Rattle.cluster_rules.specs.Runs.{run_from, reached, sched_event}
use Rattle.cluster_laws.proofs.SchedPart.{sched_after, sched_is}
use Rattle.quiet_laws.specs.Old.{AreOld, AreFenced}
use Rattle.quiet_laws.proofs.Has.{fenced_step}
use Rattle.quiet_laws.proofs.Copied.{AreCopied, copied_step, copied_opening, old_from}

copied_from : (j : Job) (w : World) (es : List Event) → AreCopied w → AreCopied (run_from j w es)
copied_from j w [] h = h
copied_from j w (e ∷ es) h = copied_from j (world_step j w e) es (copied_step j w e h)

pub old_after : (j : Job) (es : List Event) → AreOld (reached j es)
old_after j es = old_from (reached j es) (copied_from j (opening j) es (copied_opening j))

fenced_taken : (f : Facts) (o : Option SchedEvent) → AreFenced f → AreFenced (sched_after f o)
fenced_taken f None h = h
fenced_taken f (Some s) h = fenced_step f s h

fenced_from : (j : Job) (w : World) (es : List Event) → AreFenced w.sched → AreFenced (run_from j w es).sched
fenced_from j w [] h = h
fenced_from j w (e ∷ es) h = fenced_from j (world_step j w e) es (subst AreFenced (sym (sched_is j w e)) (fenced_taken w.sched (sched_event w e) h))

pub fenced_after : (j : Job) (es : List Event) → AreFenced (reached j es).sched
fenced_after j es = fenced_from j (opening j) es (λ i k. omega arith)
