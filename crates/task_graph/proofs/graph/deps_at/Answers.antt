use Rattle.task_graph.proofs.Making.{deps-there}
use Rattle.task_graph.proofs.graph.deps_at.Goals as goal

pub returns : goal.returns
returns c = let e = deps-there c.args.tasks.now c.args.key c.index-tasks-key.result c.requires c.index-tasks-key.is in cc
