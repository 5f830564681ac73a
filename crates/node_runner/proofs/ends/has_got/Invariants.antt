use Rattle.std.proofs.Common.{take}
use Rattle.gather_client.specs.CoreState.{client_facts}
use Rattle.node_runner.specs.Runs.{HasGot}
use Rattle.node_runner.proofs.ends.has_got.Given as goal

abbrev pub invariant-loop-key : goal.invariant-loop-key
invariant-loop-key g l = HasGot (client_facts l.client.book.core.core) l.client.book.entries l.client.book.cut (take l.key-index l.wanted)
