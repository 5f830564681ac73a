use Rattle.cluster_rules.proofs.TotalLemmas.{tasks_fit, occupancy_fits, bytes_held_fit}
use Rattle.cluster_laws.proofs.scheduler.sums_fit.Goals as goal

pub returns : goal.returns
returns c = record { tasks = tasks_fit; occupancy = occupancy_fits; bytes = bytes_held_fit }
