use Rattle.std.specs.Prelude.{Some}
use Rattle.thread_run.proofs.serving.serve.Given as goal

abbrev pub ghosts-run_graph : goal.ghosts-run_graph
ghosts-run_graph g a = record { picked = Some a.graph.now; allowed = a.plan.now.allowed }
