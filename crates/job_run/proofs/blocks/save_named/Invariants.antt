use Rattle.std.specs.Arc.{arc_value}
use Rattle.job_run.specs.Grouping.{waiting_of}
use Rattle.job_run.specs.Jobs.{plan_of}
use Rattle.job_run.proofs.WaitingBlocks.{NamedLoop}
use Rattle.job_run.proofs.blocks.save_named.Given as goal

abbrev pub invariant-loop-place : goal.invariant-loop-place
invariant-loop-place g l = NamedLoop (plan_of l.job) (l.node, l.number) (arc_value l.block) l.place (waiting_of l.initial.group) l.initial.files (waiting_of l.group) l.files
