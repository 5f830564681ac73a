-- What a job is, as a plan.
use Rattle.std.specs.Prelude.{map, string_bytes}
use Rattle.job_plan.specs.declared.job.Job.{Job}
use Rattle.job_plan.specs.declared.job.Save.{Save}
use Rattle.job_plan.specs.Plan.{Plan, Saved}

abbrev pub saved_of : Save → Saved
saved_of s = record { node = s.node; file = string_bytes s.file }

abbrev pub plan_of : Job → Plan
plan_of job = record { nodes = job.expr; inputs = map string_bytes job.inputs.items; saves = map saved_of job.saves.items }
