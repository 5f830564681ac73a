use Rattle.std.proofs.Common.{◌∙◌, sym, ap}
use Rattle.std.specs.Prelude.{slice_get}
use Rattle.cluster_rules.specs.Worker.{WorkerFacts}
use Rattle.cluster_nodes.specs.Nodes.{if_alive, worker_of, workers_of}
use Rattle.cluster_nodes.proofs.NodeLemmas.{worker_was}
use Rattle.cluster_nodes.proofs.grow.in_memory.Goals as goal

pub returns-then-test : goal.returns-then-test
returns-then-test c s = c.holds.ensures ∙ ap (λ (w : WorkerFacts). w.mem c.args.key) (sym (worker_was s c.args.alive.now c.args.workers.now.items c.args.worker c.index.result.now c.requires (sym c.test.ensures ∙ c.if-test.true) c.index.ensures))

pub returns-else-test : goal.returns-else-test
unfolding workers_of
returns-else-test c s = ap (λ b. (if_alive b (worker_of s c.args.worker (slice_get c.args.workers.now.items c.args.worker))).mem c.args.key) (sym (sym c.test.ensures ∙ c.if-test.false))
