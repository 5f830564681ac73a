use Rattle.worker_facts.proofs.FactLemmas.{start_else}
use Rattle.std.proofs.Common.{◌∙◌, ap, arith, None}
use Rattle.std.proofs.lemmas.Bool.{cond_below}
use Rattle.cluster_rules.specs.Worker.{would_start, running_count}
use Rattle.worker_facts.specs.Stored.{facts_of, first_ready}
use Rattle.worker_table.proofs.table.WorkerTable.would_start.Goals as goal

pub returns-then-self-threads : goal.returns-then-self-threads
unfolding would_start
returns-then-self-threads c =
    let f = facts_of c.args.self.now in
    c.first_ready.ensures ∙ cond_below (running_count f) f.threads (first_ready f) None (omega (arith, c.threads.ensures ∙ ap (λ s. (facts_of s).threads) c.self.view_is, c.self.invariant.count ∙ ap (λ s. running_count (facts_of s)) c.self.view_is))

pub returns-else-self-threads : goal.returns-else-self-threads
unfolding would_start
returns-else-self-threads c =
    let f = facts_of c.args.self.now in
    start_else (running_count f) f.threads (first_ready f) None (omega (arith, c.threads.ensures ∙ ap (λ s. (facts_of s).threads) c.self.view_is, c.self.invariant.count ∙ ap (λ s. running_count (facts_of s)) c.self.view_is))
