use Rattle.std.proofs.Common.{◌≡◌, length}
use Rattle.std.specs.List.{AllByRecursion}
use Rattle.cluster_rules.specs.Client.{new_client}
use Rattle.gather_client.specs.CoreState.{client_facts}
use Rattle.cluster_nodes.specs.Kept.{ClientsTookFew}
use Rattle.cluster_nodes.proofs.opening.add_clients.Given as goal

abbrev pub invariant-loop-core : goal.invariant-loop-core
invariant-loop-core l = record {
  long : length l.cores.items ≡ l._core;
  new : AllByRecursion (λ c. client_facts c ≡ new_client l.shape) l.cores.items;
  few : ClientsTookFew 0 l.cores.items;
}
