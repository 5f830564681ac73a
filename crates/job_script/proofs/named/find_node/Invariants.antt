use Rattle.std.proofs.Common.{◌≡◌, drop}
use Rattle.job_script.specs.Names.{node_called}
use Rattle.job_script.proofs.named.find_node.Given as goal

abbrev pub invariant-loop-named : goal.invariant-loop-named
invariant-loop-named l = node_called (drop l.named-index l.list) l.name ≡ node_called l.list l.name
