use Rattle.thread_run.specs.Writes.{WrittenBelow}
use Rattle.thread_run.proofs.saver.write_each.Given as goal

abbrev pub invariant-loop-place : goal.invariant-loop-place
invariant-loop-place g l = WrittenBelow g.L.Label.facts l.wanted l.key l.place l.fn.before l.fault l.initial.files l.files
