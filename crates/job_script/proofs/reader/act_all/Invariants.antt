use Rattle.std.proofs.Common.{◌≡◌, drop}
use Rattle.job_script.specs.Scripts.{run}
use Rattle.job_script.proofs.reader.act_all.Given as goal

abbrev pub invariant-loop-step : goal.invariant-loop-step
invariant-loop-step l = run l.text (drop l.step-index l.steps) l.draft ≡ run l.text l.steps l.fn.draft
