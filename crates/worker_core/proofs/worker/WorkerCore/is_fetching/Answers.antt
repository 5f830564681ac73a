use Rattle.std.proofs.Common.{◌≡◌, ℕ, false, subst}
use Rattle.std.specs.Prelude.{◌↔◌}
use Rattle.cluster_rules.specs.Worker.{wstate, is_fetch_state}
use Rattle.worker_core.specs.Core.{Core, facts}
use Rattle.worker_facts.specs.Stored.{facts_of}
use Rattle.worker_core.proofs.MoveLemmas.{none_fetched}
use Rattle.worker_core.proofs.worker.WorkerCore.is_fetching.Goals as goal

pub returns : goal.returns
returns c = subst (λ (s : Core). (c.is_some.result ≡ false) ↔ ((k : ℕ) → is_fetch_state (wstate (facts s) k) ≡ false)) c.self.view_is (none_fetched (facts_of c.self.inside.table) c.next_fetch.result c.is_some.result c.next_fetch.ensures.first c.is_some.ensures)
