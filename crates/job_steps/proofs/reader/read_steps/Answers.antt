-- The reading begins with nothing read.
use Rattle.std.proofs.Common.{refl}
use Rattle.job_steps.specs.Steps.{nothing_yet}
use Rattle.job_steps.proofs.Pasts.{past-first}
use Rattle.job_steps.proofs.reader.read_steps.Goals as goal

pub read_into-requires : goal.read_into-requires
read_into-requires c = past-first c.args.text.now nothing_yet c.new-steps.result.items c.in_ok-reader.reader.left refl c.new-steps.ensures.items c.in_ok-reader.ensures
