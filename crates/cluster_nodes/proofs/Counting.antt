-- How many events the cores have taken.
use Rattle.std.proofs.Common.{◌≡◌, ◌∙◌, ℕ, ◌+◌, ◌<◌, ◌≤◌, List, Result, Err, ap, arith, length, get_or, set}
use Rattle.std.proofs.lemmas.Result.{err_from_is_err_and}
use Rattle.std.specs.Result.{IsErrAnd}
use Rattle.small_facts.proofs.Every.{all_weaker}
use Rattle.gather_client.specs.CoreState.{CoreState}
use Rattle.worker_core.specs.Core.{Core}
use Rattle.cluster_nodes.specs.declared.nodes.Nodes.{Nodes}
use Rattle.cluster_nodes.specs.Kept.{WorkersTookFew, ClientsTookFew, TookFew}
use Rattle.cluster_nodes.proofs.Places.{all_set, all_at}

pub workers_more : (n : ℕ) (cores : List Core) → WorkersTookFew n cores → WorkersTookFew (n + 1) cores
workers_more n cores h = all_weaker (λ (c : Core). c.events ≤ n) (λ (c : Core). c.events ≤ n + 1) (λ c l. omega (arith, l)) cores h

pub clients_more : (n : ℕ) (cores : List CoreState) → ClientsTookFew n cores → ClientsTookFew (n + 1) cores
clients_more n cores h = all_weaker (λ (c : CoreState). c.events ≤ n) (λ (c : CoreState). c.events ≤ n + 1) (λ c l. omega (arith, l)) cores h

pub took_more : {B : Type 0} (n : ℕ) (nodes : Nodes B) → TookFew n nodes → TookFew (n + 1) nodes
took_more n nodes h = (workers_more n nodes.workers.items h.0, clients_more n nodes.clients.items h.1)

-- one of them took one more
pub worker_counted : (n : ℕ) (cores : List Core) (i : ℕ) (old new : Core) → i < length cores → old ≡ get_or cores i old → new.events ≡ old.events + 1 → WorkersTookFew n cores → WorkersTookFew (n + 1) (set cores i new)
worker_counted n cores i old new l was e h =
    let b = all_at (λ (c : Core). c.events ≤ n) cores i old l was h in
    all_set (λ (c : Core). c.events ≤ n + 1) cores i new (omega (arith, b, e)) (workers_more n cores h)

pub client_counted : (n : ℕ) (cores : List CoreState) (i : ℕ) (old new : CoreState) → i < length cores → old ≡ get_or cores i old → new.events ≡ old.events + 1 → ClientsTookFew n cores → ClientsTookFew (n + 1) (set cores i new)
client_counted n cores i old new l was e h =
    let b = all_at (λ (c : CoreState). c.events ≤ n) cores i old l was h in
    all_set (λ (c : CoreState). c.events ≤ n + 1) cores i new (omega (arith, b, e)) (clients_more n cores h)

-- what the exit of a `?` returns, where the error stays the same
pub same_err : {T E : Type 0} (r : Result T E) (e : E) → IsErrAnd r (λ x. x ≡ e) → r ≡ Err e
same_err r e h = let p = err_from_is_err_and r h in p.1 ∙ ap (λ x. Err x) p.2
