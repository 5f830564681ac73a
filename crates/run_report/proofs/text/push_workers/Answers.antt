use Rattle.std.proofs.Common.{string_bytes}
use Rattle.run_report.proofs.Appending.{workers_more}
use Rattle.run_report.proofs.text.push_workers.Goals as goal

pub loop-worker-preserved : goal.loop-worker-preserved
loop-worker-preserved c = workers_more (string_bytes c.args.text.now) (string_bytes c.loop-worker.text) (string_bytes c.push_worker.new.text) c.args.workers.now c.loop-worker.worker-index c.loop-worker-test.true c.loop-worker.invariant c.in_ok-push_worker.ensures
