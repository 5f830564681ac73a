use Rattle.std.proofs.Common.{◌≡◌, map, take, string_bytes}
use Rattle.job_run.specs.Jobs.{saved_of}
use Rattle.job_run.specs.Values.{saved_lines}
use Rattle.job_run.proofs.lines.saved_lines.Given as goal

abbrev pub invariant-loop-save : goal.invariant-loop-save
invariant-loop-save l = string_bytes l.text ≡ saved_lines l.job.expr (map saved_of (take l.save-index l.job.saves.items))
