use Rattle.std.proofs.Common.{◌≡◌, ◌++◌, take, string_bytes}
use Rattle.run_report.specs.Text.{worker_lines}
use Rattle.run_report.proofs.text.push_workers.Given as goal

abbrev pub invariant-loop-worker : goal.invariant-loop-worker
invariant-loop-worker l = string_bytes l.text ≡ string_bytes l.initial.text ++ worker_lines (take l.worker-index l.workers)
