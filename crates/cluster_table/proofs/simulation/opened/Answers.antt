use Rattle.std.proofs.Common.{arith}
use Rattle.cluster_sim.proofs.OpeningRecords.{opening_if}
use Rattle.cluster_table.proofs.simulation.opened.Goals as goal

pub returns-clause-opening : goal.returns-clause-opening
returns-clause-opening g c =
    let e = c.new.ensures in
    opening_if g.J.JobSpec.operation c.new.result c.args.job (g.J.JobSpec.graph c.args.job) 1 11 c.args.allowed (omega arith, omega arith) (omega arith, omega arith) e.opening e.ready e.events e.job
