use Rattle.std.proofs.Common.{◌≡◌, ◌+◌, ℕ, List, true, sym, subst, arith}
use Rattle.std.specs.Prelude.{All, Some, Ok, IfSome, IfOk}
use Rattle.gather_client.specs.CoreState.{client_facts}
use Rattle.scheduler_core.specs.Cores.{facts}
use Rattle.turn_cell.specs.Rows.{AllBy}
use Rattle.worker_core.specs.Core.{facts as worker_facts}
use Rattle.node_runner.specs.Runs.{HasGot, IsBlamed, IsDoubtBy, IsFailure, IsGivenUp, IfStatus, IsLeft, IsSpent, IsFromScheduler, IsFromWorker, IsFromClient}
use Rattle.node_runner.proofs.Ending.{doubt_is, has_run, if_told, ok_told, true_there}
use Rattle.node_runner.proofs.closing.end_nodes.Goals as goal

pub returns-clause-ended : goal.returns-clause-ended
returns-clause-ended g c =
    let es = c.ends_of-ends.result in
    let b = c.args.scheduler.history.book in
    let p = c.args.plan.now in
    if_told _ _ es.histories c.ends_of-ends.ensures.told (λ h e.
    let t = subst (λ o. IfSome o (λ t. (t.histories.scheduler ≡ c.scheduler_history-scheduler.result) × (c.take_apart-workers.result.0 ≡ Some t.histories.workers)
    × (t.histories.client ≡ c.client_history-client.result) × (c.all_left-left.result ≡ Ok t.left))) e.0 c.all_told-told.ensures in
    has_run g.L.Label.facts c.args._graph.now p c.args.wanted.now b (λ w. w.history.book) (λ k. k.id) (λ k. worker_facts k.core) (λ k. k.core.events) c.args.workers.items
    c.args.client.book (λ k. k.id) (λ k. client_facts k.core) (λ k. k.core.events) h es.left.items c.first_failure-failed.result c.is_spent-spent.result es.result
    c.requires.scheduler (λ k w less. c.requires.workers k w (omega (arith, less, c.args.workers.ok.0))) c.requires.client
    (subst (IsFromScheduler g.L.Label.facts b) (sym t.0) c.scheduler_history-scheduler.ensures.taken)
    (subst (λ o. IfSome o (λ hs. AllBy (λ k w x. IsFromWorker g.L.Label.facts (λ c. c.id) (λ c. worker_facts c.core) (λ c. c.core.events) w.history.book x) c.args.workers.items hs.items)) t.1 c.take_apart-workers.ensures)
    (subst (IsFromClient g.L.Label.facts (λ c. c.id) (λ c. client_facts c.core) (λ c. c.core.events) c.args.client.book) (sym t.2) c.client_history-client.ensures.taken)
    c.scheduler_history-scheduler.ensures.in_time
    (subst (λ ws. AllBy (λ k w o. IfSome o (IsLeft p (facts b.core.core) (k + 1) w.history.book.entries w.history.book.cut)) ws es.left.items) c.as_slice-4.ensures.value
    (subst (λ r. IfOk r (λ left. AllBy (λ k w o. IfSome o (IsLeft p (facts b.core.core) (k + 1) w.history.book.entries w.history.book.cut)) c.as_slice-4.result.now left.items)) t.3 c.all_left-left.ensures))
    (subst (λ z. IfOk z (λ x. HasGot (client_facts c.args.client.book.core.core) c.args.client.book.entries c.args.client.book.cut c.args.wanted.now)) (sym e.1)
    (true_there (HasGot (client_facts c.args.client.book.core.core) c.args.client.book.entries c.args.client.book.cut c.args.wanted.now) c.has_got-got.result c.result.result (rw c.as_slice.ensures at c.has_got-got.ensures) c.result.ensures.got))
    (subst (IfStatus (IsBlamed c.first_failure-failed.result c.is_spent-spent.result)) (sym e.1) c.result.ensures.cause)
    (subst (λ ks. IfSome c.first_failure-failed.result (IsFailure g.L.Label.facts p ks (facts b.core.core))) c.as_slice-2.ensures c.first_failure-failed.ensures)
    (λ yes. subst (λ ws. IsSpent b (λ w. w.history.book) (λ k. k.core.events) ws c.args.client.book (λ k. k.core.events)) c.as_slice-3.ensures.value (c.is_spent-spent.ensures yes)))

pub returns-clause-had : goal.returns-clause-had
returns-clause-had g c =
    let had : List ℕ → Type 0 = All (λ k. g.Z.Sink.had c.client_history-client.new.sink k ≡ true) in
    ok_told (had c.args.wanted.now) c.result.result c.ends_of-ends.result.result c.ends_of-ends.ensures.answer
    (true_there (had c.args.wanted.now) c.has_all-all.result c.result.result (rw c.as_slice-5.ensures at c.has_all-all.ensures) c.result.ensures.all)

pub returns-clause-doubt : goal.returns-clause-doubt
returns-clause-doubt g c =
    let p = c.args.plan.now in
    let f = facts c.args.scheduler.history.book.core.core in
    let failed = c.first_failure-failed.result in
    doubt_is g.L.Label.facts p c.args.wanted.now f c.ends_of-ends.result.left.items failed c.doubt_of-doubt.result
    (subst (λ ks. IfSome failed (IsFailure g.L.Label.facts p ks f)) c.as_slice-2.ensures c.first_failure-failed.ensures)
    (subst (λ xs. IsDoubtBy failed xs (IsGivenUp f xs) c.doubt_of-doubt.result) c.as_slice-6.ensures.value (c.doubt_of-doubt.ensures f c.joined-joined.ensures))
